use Rattle.std.proofs.Common.{◌≡◌, [], ◌∷◌, ap, ◌∙◌, rules}
use Rattle.std.specs.Prelude.{Some}
use Rattle.editor_model.specs.Answers.{Test}
use Rattle.plain_machine.specs.Arguments.{process_of, is_running}
use Rattle.plain_machine.specs.Refusals.{only_where, must_nest}
use Rattle.ek_call.specs.Meaning.{view}
use Rattle.ek_call.specs.Faults.{fault_of}
use Rattle.prim_arguments.specs.Meaning.{fault_in}
use Rattle.prim_changes.proofs.Strings.{alone, first_of_both, first_in_front}
use Rattle.kernel_steps.specs.Outside.{deepest}
use Rattle.kernel_state.specs.Meaning.{state_of}
use Rattle.kernel_state.proofs.Refusing.{one_tests}
use Rattle.kernel_state.proofs.refusals.test_delete.Goals as goal

pub returns-in_err-test_one : goal.returns-in_err-test_one
returns-in_err-test_one c = λ machine.
    let s = state_of c.args.kernel.now in
    let v = view c.args.p.now in
    let told : fault_in c.from_residual.result ≡ Some (fault_of c.in_err-test_one.field-0.0) = search rules in
    told ∙ first_in_front (one_tests s v) (only_where (is_running s (process_of s v)) (must_nest deepest s) ∷ []) _ c.in_err-test_one.ensures

pub returns : goal.returns
returns c = λ machine.
    let s = state_of c.args.kernel.now in
    let v = view c.args.p.now in
    let nest : Test = must_nest deepest s in
    c.only_where.ensures
    ∙ ap (λ t. only_where c.is_running.result t) c.must_nest.ensures
    ∙ ap (λ b. only_where b nest) (c.is_running.ensures ∙ ap (is_running s) c.process.ensures)
    ∙ alone (only_where (is_running s (process_of s v)) nest)
    ∙ first_of_both (one_tests s v) (only_where (is_running s (process_of s v)) nest ∷ []) c.in_ok-test_one.ensures

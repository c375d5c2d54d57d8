use Rattle.std.proofs.Common.{◌≡◌, [], ◌∷◌, not, ap, ◌∙◌, rules}
use Rattle.std.specs.Prelude.{Some}
use Rattle.editor_model.specs.Values.{ProcessEnded}
use Rattle.editor_model.specs.Answers.{Test, refuse}
use Rattle.plain_machine.specs.Arguments.{process_of, is_running, is_closed}
use Rattle.plain_machine.specs.Refusals.{only_where, must_ask}
use Rattle.ek_call.specs.Meaning.{view}
use Rattle.ek_call.specs.Faults.{fault_of}
use Rattle.prim_arguments.specs.Meaning.{fault_in}
use Rattle.prim_changes.proofs.Strings.{alone, first_of_both, first_in_front}
use Rattle.kernel_state.specs.Meaning.{state_of}
use Rattle.kernel_state.proofs.Refusing.{one_tests, stops, goes}
use Rattle.kernel_state.proofs.refusals.test_send_eof.Goals as goal

pub returns-in_err-test_one : goal.returns-in_err-test_one
returns-in_err-test_one c = λ machine.
    let s = state_of c.args.kernel.now in
    let v = view c.args.p.now in
    let told : fault_in c.from_residual.result ≡ Some (fault_of c.in_err-test_one.field-0.0) = search rules in
    told ∙ first_in_front (one_tests s v) (refuse ProcessEnded (is_running s (process_of s v)) ∷ only_where (not (is_closed s (process_of s v))) (must_ask s) ∷ []) _ c.in_err-test_one.ensures

pub returns-in_err-must : goal.returns-in_err-must
returns-in_err-must c = λ machine.
    let s = state_of c.args.kernel.now in
    let v = view c.args.p.now in
    let ask : Test = only_where (not (is_closed s (process_of s v))) (must_ask s) in
    let told : fault_in c.from_residual-in_err-must.result ≡ Some (fault_of c.in_err-must.field-0.0) = search rules in
    told
    ∙ stops (refuse ProcessEnded (is_running s (process_of s v))) (ask ∷ []) _ (c.in_err-must.ensures ∙ ap (refuse ProcessEnded) (c.is_running.ensures ∙ ap (is_running s) c.process-number.ensures))
    ∙ first_of_both (one_tests s v) (refuse ProcessEnded (is_running s (process_of s v)) ∷ ask ∷ []) c.in_ok-test_one.ensures

pub returns : goal.returns
returns c = λ machine.
    let s = state_of c.args.kernel.now in
    let v = view c.args.p.now in
    let ask : Test = only_where (not (is_closed s (process_of s v))) (must_ask s) in
    c.only_where.ensures
    ∙ ap (λ t. only_where (not c.is_closed.result) t) c.must_ask.ensures
    ∙ ap (λ b. only_where (not b) (must_ask s)) (c.is_closed.ensures ∙ ap (is_closed s) c.process-number.ensures)
    ∙ alone ask
    ∙ goes (refuse ProcessEnded (is_running s (process_of s v))) (ask ∷ []) (c.in_ok-must.ensures ∙ ap (refuse ProcessEnded) (c.is_running.ensures ∙ ap (is_running s) c.process-number.ensures))
    ∙ first_of_both (one_tests s v) (refuse ProcessEnded (is_running s (process_of s v)) ∷ ask ∷ []) c.in_ok-test_one.ensures

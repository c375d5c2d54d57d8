use Rattle.std.proofs.Common.{◌≡◌, ◌∷◌, ◌∙◌, not, rules}
use Rattle.std.specs.Prelude.{Some}
use Rattle.editor_model.specs.Values.{WrongType, CodingFixed}
use Rattle.editor_model.specs.Answers.{refuse}
use Rattle.plain_machine.specs.Arguments.{is_coding, is_fed, process_of}
use Rattle.plain_machine.specs.Refusals.{must_be_process, process_there}
use Rattle.ek_call.specs.Meaning.{view}
use Rattle.ek_call.specs.Faults.{fault_of}
use Rattle.prim_arguments.specs.Meaning.{fault_in}
use Rattle.prim_changes.proofs.Strings.{alone}
use Rattle.kernel_state.specs.Meaning.{state_of}
use Rattle.kernel_state.proofs.Refusing.{stops, goes, coding_tests, unfed_tests}
use Rattle.kernel_state.proofs.refusals.test_set_coding.Goals as goal

pub returns-in_err-must_be_process : goal.returns-in_err-must_be_process
returns-in_err-must_be_process c = λ machine.
    let s = state_of c.args.kernel.now in
    let v = view c.args.p.now in
    let w = view c.args.coding.now in
    let told : fault_in c.from_residual.result ≡ Some (fault_of c.in_err-must_be_process.field-0.0) = search rules in
    told ∙ stops (must_be_process v) (coding_tests s v w) _ c.in_err-must_be_process.ensures

pub returns-in_err-must_be_coding : goal.returns-in_err-must_be_coding
returns-in_err-must_be_coding c = λ machine.
    let s = state_of c.args.kernel.now in
    let v = view c.args.p.now in
    let w = view c.args.coding.now in
    let told : fault_in c.from_residual-in_err-must_be_coding.result ≡ Some (fault_of c.in_err-must_be_coding.field-0.0) = search rules in
    told
    ∙ stops (refuse WrongType (is_coding w)) (process_there s v ∷ unfed_tests s v) _ c.in_err-must_be_coding.ensures
    ∙ goes (must_be_process v) (coding_tests s v w) c.in_ok-must_be_process.ensures

pub returns-in_err-process_there : goal.returns-in_err-process_there
returns-in_err-process_there c = λ machine.
    let s = state_of c.args.kernel.now in
    let v = view c.args.p.now in
    let w = view c.args.coding.now in
    let told : fault_in c.from_residual-in_err-process_there.result ≡ Some (fault_of c.in_err-process_there.field-0.0) = search rules in
    told
    ∙ stops (process_there s v) (unfed_tests s v) _ c.in_err-process_there.ensures
    ∙ goes (refuse WrongType (is_coding w)) (process_there s v ∷ unfed_tests s v) c.in_ok-must_be_coding.ensures
    ∙ goes (must_be_process v) (coding_tests s v w) c.in_ok-must_be_process.ensures

pub returns : goal.returns
returns c = λ machine.
    let s = state_of c.args.kernel.now in
    let v = view c.args.p.now in
    let w = view c.args.coding.now in
    c.must_be_unfed.ensures
    ∙ alone (refuse CodingFixed (not (is_fed s (process_of s v))))
    ∙ goes (process_there s v) (unfed_tests s v) c.in_ok-process_there.ensures
    ∙ goes (refuse WrongType (is_coding w)) (process_there s v ∷ unfed_tests s v) c.in_ok-must_be_coding.ensures
    ∙ goes (must_be_process v) (coding_tests s v w) c.in_ok-must_be_process.ensures

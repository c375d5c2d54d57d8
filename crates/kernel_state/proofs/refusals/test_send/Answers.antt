use Rattle.std.proofs.Common.{◌≡◌, ◌∷◌, true, false, List, length, ap, ◌∙◌, rules}
use Rattle.std.specs.Prelude.{ℕ, Some, ◌==◌}
use Rattle.text_model.specs.Properties.{Cell}
use Rattle.editor_model.specs.Answers.{first_fault}
use Rattle.editor_model.specs.Arguments.{must_be_string, string_of}
use Rattle.plain_machine.specs.Arguments.{process_of, is_empty}
use Rattle.plain_machine.specs.Refusals.{must_be_process, process_there}
use Rattle.ek_call.specs.Meaning.{view}
use Rattle.ek_call.specs.Faults.{fault_of}
use Rattle.prim_arguments.specs.Meaning.{fault_in}
use Rattle.kernel_state.specs.Meaning.{state_of}
use Rattle.kernel_state.proofs.Refusing.{stops, goes, send_tests, sent_tests}
use Rattle.kernel_state.proofs.refusals.test_send.Goals as goal

pub returns-in_err-must_be_process : goal.returns-in_err-must_be_process
returns-in_err-must_be_process c = λ machine.
    let s = state_of c.args.kernel.now in
    let v = view c.args.p.now in
    let w = view c.args.text.now in
    let told : fault_in c.from_residual.result ≡ Some (fault_of c.in_err-must_be_process.field-0.0) = search rules in
    told ∙ stops (must_be_process v) (must_be_string w ∷ process_there s v ∷ send_tests (is_empty w) s (process_of s v) (string_of w)) _ c.in_err-must_be_process.ensures

pub returns-in_err-content : goal.returns-in_err-content
returns-in_err-content c = λ machine.
    let s = state_of c.args.kernel.now in
    let v = view c.args.p.now in
    let w = view c.args.text.now in
    let told : fault_in c.from_residual-in_err-content.result ≡ Some (fault_of c.in_err-content.field-0.0) = search rules in
    told
    ∙ stops (must_be_string w) (process_there s v ∷ send_tests (is_empty w) s (process_of s v) (string_of w)) _ c.in_err-content.ensures.test
    ∙ goes (must_be_process v) (must_be_string w ∷ process_there s v ∷ send_tests (is_empty w) s (process_of s v) (string_of w)) c.in_ok-must_be_process.ensures

pub returns-in_err-process_there : goal.returns-in_err-process_there
returns-in_err-process_there c = λ machine.
    let s = state_of c.args.kernel.now in
    let v = view c.args.p.now in
    let w = view c.args.text.now in
    let told : fault_in c.from_residual-in_err-process_there.result ≡ Some (fault_of c.in_err-process_there.field-0.0) = search rules in
    told
    ∙ stops (process_there s v) (send_tests (is_empty w) s (process_of s v) (string_of w)) _ c.in_err-process_there.ensures
    ∙ goes (must_be_string w) (process_there s v ∷ send_tests (is_empty w) s (process_of s v) (string_of w)) c.in_ok-content.ensures.test
    ∙ goes (must_be_process v) (must_be_string w ∷ process_there s v ∷ send_tests (is_empty w) s (process_of s v) (string_of w)) c.in_ok-must_be_process.ensures

pub returns-then-is_empty : goal.returns-then-is_empty
returns-then-is_empty c = λ machine.
    let s = state_of c.args.kernel.now in
    let v = view c.args.p.now in
    let w = view c.args.text.now in
    let none : true ≡ is_empty w = c.if-is_empty.ensures ∙ ap (λ (t : List Cell). length t == 0) c.in_ok-content.ensures.content in
    ap (λ b. first_fault (send_tests b s (process_of s v) (string_of w))) none
    ∙ goes (process_there s v) (send_tests (is_empty w) s (process_of s v) (string_of w)) c.in_ok-process_there.ensures
    ∙ goes (must_be_string w) (process_there s v ∷ send_tests (is_empty w) s (process_of s v) (string_of w)) c.in_ok-content.ensures.test
    ∙ goes (must_be_process v) (must_be_string w ∷ process_there s v ∷ send_tests (is_empty w) s (process_of s v) (string_of w)) c.in_ok-must_be_process.ensures

pub returns : goal.returns
returns c = λ machine.
    let s = state_of c.args.kernel.now in
    let v = view c.args.p.now in
    let w = view c.args.text.now in
    let some : false ≡ is_empty w = c.if-is_empty.ensures ∙ ap (λ (t : List Cell). length t == 0) c.in_ok-content.ensures.content in
    c.must_send.ensures
    ∙ ap (λ (n : ℕ). first_fault (sent_tests s n c.in_ok-content.content.now)) c.process.ensures
    ∙ ap (λ (t : List Cell). first_fault (sent_tests s (process_of s v) t)) c.in_ok-content.ensures.content
    ∙ ap (λ b. first_fault (send_tests b s (process_of s v) (string_of w))) some
    ∙ goes (process_there s v) (send_tests (is_empty w) s (process_of s v) (string_of w)) c.in_ok-process_there.ensures
    ∙ goes (must_be_string w) (process_there s v ∷ send_tests (is_empty w) s (process_of s v) (string_of w)) c.in_ok-content.ensures.test
    ∙ goes (must_be_process v) (must_be_string w ∷ process_there s v ∷ send_tests (is_empty w) s (process_of s v) (string_of w)) c.in_ok-must_be_process.ensures

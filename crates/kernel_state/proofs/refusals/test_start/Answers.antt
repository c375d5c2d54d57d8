use Rattle.std.proofs.Common.{◌≡◌, map, ap, ◌∙◌, rules}
use Rattle.std.specs.Prelude.{Some}
use Rattle.editor_model.specs.Answers.{first_fault}
use Rattle.editor_model.specs.Arguments.{arg}
use Rattle.ek_types.specs.Listing.{items_of}
use Rattle.ek_call.specs.Meaning.{view}
use Rattle.ek_call.specs.Faults.{fault_of}
use Rattle.prim_arguments.specs.Meaning.{fault_in}
use Rattle.prim_changes.proofs.Strings.{first_of_both, first_in_front}
use Rattle.kernel_state.specs.Meaning.{state_of}
use Rattle.kernel_state.proofs.Refusing.{command_tests, place_tests}
use Rattle.kernel_state.proofs.refusals.test_start.Goals as goal

pub returns-in_err-test_command : goal.returns-in_err-test_command
returns-in_err-test_command c = λ machine.
    let s = state_of c.args.kernel.now in
    let xs = map view (items_of c.args.args.now) in
    let told : fault_in c.from_residual.result ≡ Some (fault_of c.in_err-test_command.field-0.0) = search rules in
    told
    ∙ first_in_front (command_tests (arg xs 0) (arg xs 1) (arg xs 2) xs) (place_tests s (arg xs 0) (arg xs 1)) _
    (c.in_err-test_command.ensures
    ∙ ap (λ p. first_fault (command_tests p (view c.arg-b.result.now) (view c.arg.result.now) xs)) c.arg-process.ensures
    ∙ ap (λ b. first_fault (command_tests (arg xs 0) b (view c.arg.result.now) xs)) c.arg-b.ensures
    ∙ ap (λ q. first_fault (command_tests (arg xs 0) (arg xs 1) q xs)) c.arg.ensures)

pub returns : goal.returns
returns c = λ machine.
    let s = state_of c.args.kernel.now in
    let xs = map view (items_of c.args.args.now) in
    c.test_place.ensures
    ∙ ap (λ p. first_fault (place_tests s p (view c.arg-b.result.now))) c.arg-process.ensures
    ∙ ap (λ b. first_fault (place_tests s (arg xs 0) b)) c.arg-b.ensures
    ∙ first_of_both (command_tests (arg xs 0) (arg xs 1) (arg xs 2) xs) (place_tests s (arg xs 0) (arg xs 1))
    (c.in_ok-test_command.ensures
    ∙ ap (λ p. first_fault (command_tests p (view c.arg-b.result.now) (view c.arg.result.now) xs)) c.arg-process.ensures
    ∙ ap (λ b. first_fault (command_tests (arg xs 0) b (view c.arg.result.now) xs)) c.arg-b.ensures
    ∙ ap (λ q. first_fault (command_tests (arg xs 0) (arg xs 1) q xs)) c.arg.ensures)

use Rattle.std.proofs.Common.{rules, ◌≡◌, ℕ, [], ◌∷◌, Some, map, length, ap, ◌∙◌}
use Rattle.editor_model.specs.Answers.{first_fault}
use Rattle.editor_model.specs.Arguments.{must_be_string, must_have_room}
use Rattle.editor_model.specs.TextCalls.{joined, must_take_text}
use Rattle.ek_types.specs.Listing.{items_of}
use Rattle.ek_call.specs.Meaning.{view}
use Rattle.ek_call.specs.Faults.{fault_of}
use Rattle.buffer_table.specs.Kept.{editor_of}
use Rattle.prim_arguments.specs.Meaning.{fault_in}
use Rattle.prim_changes.proofs.Strings.{first_of_both, first_in_front}
use Rattle.prim_changes.proofs.inserts.must_fit.Goals as goal

pub returns : goal.returns
returns c =
    let e = editor_of c.args.editor.now in
    let xs = map view (items_of c.args.args.now) in
    c.must_take.ensures
    ∙ ap (λ (n : ℕ). first_fault (must_take_text e n ∷ must_have_room e e.current n ∷ [])) c.in_ok-must_be_strings.ensures.length
    ∙ first_of_both (map must_be_string xs) (must_take_text e (length (joined xs)) ∷ must_have_room e e.current (length (joined xs)) ∷ []) c.in_ok-must_be_strings.ensures.test

pub returns-in_err-must_be_strings : goal.returns-in_err-must_be_strings
returns-in_err-must_be_strings c =
    let e = editor_of c.args.editor.now in
    let xs = map view (items_of c.args.args.now) in
    let told : fault_in c.from_residual.result ≡ Some (fault_of c.in_err-must_be_strings.field-0.0) = search rules in
    told ∙ first_in_front (map must_be_string xs) (must_take_text e (length (joined xs)) ∷ must_have_room e e.current (length (joined xs)) ∷ []) _ c.in_err-must_be_strings.ensures.test

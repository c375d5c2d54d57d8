use Rattle.std.proofs.Common.{◌≡◌, ℕ, Bool, true, false, [], ◌∷◌, refl, ap, sym, ◌∙◌}
use Rattle.std.specs.Prelude.{Result, Ok, Err, if◌then◌else◌}
use Rattle.text_model.specs.Undo.{started}
use Rattle.text_model.specs.Commit.{Buffer}
use Rattle.undo_list.specs.declared.plan.Refused.{Refused}
use Rattle.undo_list.specs.declared.plan.Refused.TheVariants as refused
use Rattle.editor_model.specs.Values as model
use Rattle.editor_model.specs.Editor.{buffer_at, change_buffer}
use Rattle.editor_model.specs.Answers.{Applied, applied_of, refuse, first_fault}
use Rattle.editor_model.specs.UndoCalls.{with_undo}
use Rattle.buffer_table.specs.Kept.{editor_of}
use Rattle.prim_changes.proofs.Committing.{unchanged_by}
use Rattle.prim_changes.proofs.undo.undo_start.Goals as goal

abbrev start_if_on : Buffer → Buffer
start_if_on b = record b { undo = if b.undo.on then started b.undo else b.undo }

-- it was off, from what came of it
not_on : (on : Bool) {r : Result (Unit {0}) Refused} {f : Refused} → r ≡ Err f → r ≡ (let given : Result (Unit {0}) Refused = if on then Ok tt else Err refused.Disabled in given) → on ≡ false
not_on true is h = cc
not_on false is h = refl

pub returns-in-Err : goal.returns-in-Err
returns-in-Err c =
    let e = editor_of c.args.editor.now in
    let id = c.current-id.result in
    let b : Buffer = buffer_at e id in
    let off : b.undo.on ≡ false = not_on b.undo.on c.in-Err.is c.undo_start.ensures.result in
    let same : change_buffer id start_if_on e ≡ e = unchanged_by e id start_if_on c.current-id.ensures.live (ap (λ t. let x : Buffer = record b { undo = if t then started b.undo else b.undo } in x) off) in
    let here_off : (buffer_at e e.current).undo.on ≡ false = ap (λ (i : ℕ). (buffer_at e i).undo.on) (sym c.current-id.ensures.number) ∙ off in
    ap (λ n. let a : Applied = record { editor = n; reply = model.Refused model.UndoDisabled } in a) (c.undo_start.ensures.editor ∙ same)
    ∙ sym (ap (λ t. let a : Applied = applied_of (first_fault (refuse model.UndoDisabled t ∷ [])) e (with_undo started e) model.Nil in a) here_off)

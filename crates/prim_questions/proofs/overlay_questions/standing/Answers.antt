use Rattle.std.proofs.Common.{◌≡◌, ℕ, ◌+◌, ◌<◌, ap, subst, ◌∙◌, arith}
use Rattle.std.specs.Prelude.{IfOk, min}
use Rattle.editor_model.specs.Editor.{buffer_at}
use Rattle.editor_model.specs.Arguments.{position}
use Rattle.editor_model.specs.OverlayCalls.{first_position, last_position, end_position}
use Rattle.ek_types.specs.Listing.{items_of}
use Rattle.ek_call.specs.Meaning.{view}
use Rattle.buffer_table.specs.Kept.{editor_of}
use Rattle.prim_questions.proofs.Standing.{same_part, first_next, last_next}
use Rattle.prim_questions.proofs.overlay_questions.standing.Goals as goal

pub returns-then-first-eq0 : goal.returns-then-first-eq0
returns-then-first-eq0 c =
    let e = editor_of c.args.editor.now in
    let a = view c.args.a.now in
    let b = view c.args.b.now in
    let end : c.bounds-end.result.end + 1 ≡ end_position e = ap (λ (n : ℕ). n + 1) (c.bounds-end.ensures.end ∙ ap (λ (i : ℕ). (buffer_at e i).end) c.current-id.ensures.number) in
    let same = same_part c.current-id.result e.current 0 (first_position e a b) c.max-last.result (last_position e a b) (c.bounds-end.result.end + 1) (end_position e) e.marks.overlays c.current-id.ensures.number
    (omega (arith, c.min-first.ensures, c.position-one.ensures, c.position-other.ensures))
    (omega (arith, c.max-last.ensures, c.position-one.ensures, c.position-other.ensures)) end in
    subst (λ w. IfOk c.standing_in_front.result (λ numbers. items_of numbers ≡ w)) same c.standing_in_front.ensures

pub returns : goal.returns
returns c =
    let e = editor_of c.args.editor.now in
    let a = view c.args.a.now in
    let b = view c.args.b.now in
    let some : 0 < min (position e a) (position e b) = omega (arith, c.min-first.ensures, c.position-one.ensures, c.position-other.ensures) in
    let end : c.bounds-end.result.end + 1 ≡ end_position e = ap (λ (n : ℕ). n + 1) (c.bounds-end.ensures.end ∙ ap (λ (i : ℕ). (buffer_at e i).end) c.current-id.ensures.number) in
    let same = same_part c.current-id.result e.current (c.from_of.result + 1) (first_position e a b) (c.to_of.result + 1) (last_position e a b) (c.bounds-end.result.end + 1) (end_position e) e.marks.overlays c.current-id.ensures.number
    (first_next (position e a) (position e b) c.from_of.result some c.from_of.ensures)
    (last_next (position e a) (position e b) c.to_of.result some c.to_of.ensures) end in
    subst (λ w. IfOk c.standing_within.result (λ numbers. items_of numbers ≡ w)) same c.standing_within.ensures

use Rattle.std.proofs.Common.{◌≡◌, ◌+◌, ◌++◌, drop}
use Rattle.std.specs.Prelude.{filter}
use Rattle.std.specs.List.{enumerate_from}
use Rattle.text_model.specs.OverlayQuestions.{overlays_where, span_passes, lies_within}
use Rattle.ek_types.specs.Listing.{items_of}
use Rattle.overlay_set.specs.Numbered.{numbers_of}
use Rattle.buffer_table.specs.Kept.{editor_of}
use Rattle.prim_questions.proofs.overlay_questions.standing_in_front.Given as goal

abbrev pub invariant-loop-k : goal.invariant-loop-k
invariant-loop-k l =
    items_of l.numbers ++ numbers_of (filter (λ p. span_passes l.id (lies_within 0 l.last (l.end + 1)) p.1.span) (enumerate_from l.k (drop l.k (editor_of l.editor).marks.overlays)))
    ≡ numbers_of (overlays_where l.id (lies_within 0 l.last (l.end + 1)) (editor_of l.editor).marks.overlays)

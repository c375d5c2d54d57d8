-- Which of two overlays wins, in plain words, and between which it is asked.
use Rattle.std.specs.Prelude.{ℕ, Bool, ◌&&◌, ◌||◌, ◌==◌, nat_lt, int_lt, List, filter, is_some}
use Rattle.std.specs.Ordering.{int_eq}
use Rattle.text_model.specs.Properties.{get}
use Rattle.text_model.specs.Marks.{Overlay}
use Rattle.text_model.specs.OverlayQuestions.{overlays_where, covers, rank, start_of, end_of}

-- by the greater priority, then the larger start, then the smaller end, then the higher number
abbrev pub wins_over : (o other : ℕ × Overlay) → Bool
wins_over o other =
    int_lt (rank other.1) (rank o.1) || (int_eq (rank other.1) (rank o.1) &&
    (nat_lt (start_of other.1.span) (start_of o.1.span) || ((start_of other.1.span == start_of o.1.span) &&
    (nat_lt (end_of o.1.span) (end_of other.1.span) ||
    ((end_of o.1.span == end_of other.1.span) && nat_lt other.0 o.0)))))

-- the overlays at a position of a buffer that have a property, each with its number
abbrev pub rivals : (buffer position name : ℕ) → List Overlay → List (ℕ × Overlay)
rivals buffer p name overlays =
    filter (λ o. is_some (get o.1.props name)) (overlays_where buffer (covers p) overlays)

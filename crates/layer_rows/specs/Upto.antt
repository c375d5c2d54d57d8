-- Overlays whose places are at most some number.
use Rattle.std.specs.Prelude.{ℕ, ◌≤◌, IfSome}
use Rattle.text_model.specs.Marks.{Overlay}

abbrev pub EndsUpto : (most : ℕ) → Overlay → Type 0
EndsUpto most o = IfSome o.span (λ s. (s.start ≤ most) × (s.end ≤ most))

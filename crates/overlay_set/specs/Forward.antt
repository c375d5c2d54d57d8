-- The two ends of an overlay in order.
use Rattle.std.specs.Prelude.{◌≤◌, IfSome}
use Rattle.text_model.specs.Marks.{Overlay}

-- it doesn't end before it begins
abbrev pub IsForward : Overlay → Type 0
IsForward o = IfSome o.span (λ s. s.start ≤ s.end)

-- In which buffers markers and overlays stand.
use Rattle.std.specs.Prelude.{◌≡◌, ℕ, Bool, true, All, IfSome}
use Rattle.text_model.specs.Marks.{Marks, Marker, Overlay}

abbrev pub MarkerIn : (among : ℕ → Bool) → Marker → Type 0
MarkerIn among m = IfSome m.spot (λ s. among s.buffer ≡ true)

abbrev pub OverlayIn : (among : ℕ → Bool) → Overlay → Type 0
OverlayIn among o = IfSome o.span (λ s. among s.buffer ≡ true)

-- each marker and each overlay stands nowhere, or in one of these buffers
pub record StandIn (among : ℕ → Bool) (marks : Marks) : Type 0 where
  pub markers : All (MarkerIn among) marks.markers
  pub overlays : All (OverlayIn among) marks.overlays

-- Places that lie in their buffer's text, and point between its bounds.
use Rattle.std.specs.Prelude.{◌≡◌, ℕ, ◌≤◌, true, ◌==◌, List, [], ◌∷◌, length, Option, Some, None}
use Rattle.text_model.specs.Marks.{Spot, Marker, Span, Overlay, Saved, Excursion, Restriction, Pending, Marks}
use Rattle.text_model.specs.Commit.{Site}
use Rattle.machine_laws.specs.Good.{Good}

abbrev pub SpotFits : (id size : ℕ) → Option Spot → Type 0
SpotFits id size None = Unit {0}
SpotFits id size (Some s) = (s.buffer == id) ≡ true → s.place ≤ size

abbrev pub MarkersFit : (id size : ℕ) → List Marker → Type 0
MarkersFit id size [] = Unit {0}
MarkersFit id size (m ∷ markers) = SpotFits id size m.spot × MarkersFit id size markers

-- the two ends are in order besides
abbrev pub SpanFits : (id size : ℕ) → Option Span → Type 0
SpanFits id size None = Unit {0}
SpanFits id size (Some s) = (s.buffer == id) ≡ true → (s.start ≤ s.end) × (s.end ≤ size)

abbrev pub OverlaysFit : (id size : ℕ) → List Overlay → Type 0
OverlaysFit id size [] = Unit {0}
OverlaysFit id size (o ∷ overlays) = SpanFits id size o.span × OverlaysFit id size overlays

abbrev pub KeptFits : (id size : ℕ) → Saved → Type 0
KeptFits id size (Excursion b p) = (b == id) ≡ true → p ≤ size
KeptFits id size (Restriction b (Some ends)) = (b == id) ≡ true → (ends.0 ≤ ends.1) × (ends.1 ≤ size)
KeptFits id size (Pending b from to) = (b == id) ≡ true → (from ≤ to) × (to ≤ size)
KeptFits id size _ = Unit {0}

abbrev pub SavedFits : (id size : ℕ) → List Saved → Type 0
SavedFits id size [] = Unit {0}
SavedFits id size (k ∷ saved) = KeptFits id size k × SavedFits id size saved

-- the markers, overlays and kept places in a buffer of a text of some size
pub record MarksFit (id size : ℕ) (marks : Marks) : Type 0 where
  pub markers : MarkersFit id size marks.markers
  pub overlays : OverlaysFit id size marks.overlays
  pub saved : SavedFits id size marks.saved

-- a buffer and what stands beside it have their places in its text, and point in the accessible portion
pub record SiteFits (id : ℕ) (site : Site) : Type 0 where
  pub begin_fits : site.buffer.begin ≤ site.buffer.end
  pub end_fits : site.buffer.end ≤ length site.buffer.text
  pub begin_to_point : site.buffer.begin ≤ site.buffer.point
  pub point_to_end : site.buffer.point ≤ site.buffer.end
  pub marks_fit : MarksFit id (length site.buffer.text) site.marks

pub record GoodSite (id : ℕ) (site : Site) : Type 0 where
  pub good : Good site.buffer
  pub fits : SiteFits id site

-- Overlays by number, as callers give and read them. Places count from 0 here, positions from 1.
use Rattle.std.specs.Prelude.{◌≡◌, ℕ, ◌+◌, ◌≤◌, false, List, [], map, Option, Some, None, IfSome}
use Rattle.std.specs.Prelude.{slice_get, option_map, unwrap_or, min, max}
use Rattle.text_model.specs.Properties.{PropVal, given}
use Rattle.text_model.specs.Marks.{Overlay, Span}

abbrev pub no_overlay : Overlay
no_overlay = record { span = None; front_advance = false; rear_advance = false; props = [] }

-- the overlay of a number that was made
abbrev pub overlay_at : List Overlay → (k : ℕ) → Overlay
overlay_at overlays k = unwrap_or (slice_get overlays k) no_overlay

-- a buffer with two places, as the program gives them
abbrev pub span_at : ℕ × ℕ × ℕ → Span
span_at stretch = record { buffer = stretch.0; start = stretch.1; end = stretch.2 }

abbrev pub span_of : Option (ℕ × ℕ × ℕ) → Option Span
span_of to = option_map span_at to

-- a value given for a property, or none; nil is none
abbrev pub given_of : Option PropVal → Option PropVal
given_of None = None
given_of (Some v) = given v

abbrev pub numbers_of : List (ℕ × Overlay) → List ℕ
numbers_of overlays = map (λ o. o.0) overlays

-- the position of a place that was found, or a last or first position that comes before it
abbrev pub next_or : (last : ℕ) → Option ℕ → ℕ
next_or last None = last
next_or last (Some place) = min last (place + 1)

abbrev pub previous_or : (first : ℕ) → Option ℕ → ℕ
previous_or first None = first
previous_or first (Some place) = max first (place + 1)

-- n characters more keep both places of an overlay of the buffer within the range of places
abbrev pub HasRoomFor : (buffer n : ℕ) → Overlay → Type 0
HasRoomFor buffer n o = IfSome o.span
    (λ s. s.buffer ≡ buffer → (n + s.start ≤ 0xffff_ffff_ffff_ffff) × (n + s.end ≤ 0xffff_ffff_ffff_ffff))

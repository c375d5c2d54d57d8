-- Markers by number.
use Rattle.std.specs.Prelude.{◌≡◌, ℕ, ◌+◌, ◌≤◌, ◌==◌, ◌&&◌, nat_le, if◌then◌else◌, Bool, false, List}
use Rattle.std.specs.Prelude.{Option, Some, None, IfSome, slice_get, option_map, unwrap_or}
use Rattle.std.specs.List.{filter_map, enumerate_from}
use Rattle.text_model.specs.Marks.{Marker, Spot}

abbrev pub nowhere : Marker
nowhere = record { spot = None; advances = false }

-- the marker of a number that was made
abbrev pub marker_at : List Marker → (k : ℕ) → Marker
marker_at markers k = unwrap_or (slice_get markers k) nowhere

-- a buffer and a place in it, as the program gives them
abbrev pub spot_of : Option (ℕ × ℕ) → Option Spot
spot_of to = option_map (λ p. record { buffer = p.0; place = p.1 }) to

abbrev pub points_into : (buffer : ℕ) → Option Spot → Bool
points_into buffer spot = elim spot [ None ↦ false | Some s ↦ s.buffer == buffer ]

abbrev pub spot_within : (buffer from to : ℕ) → Option Spot → Bool
spot_within buffer from to None = false
spot_within buffer from to (Some s) = (s.buffer == buffer) && (nat_le from s.place && nat_le s.place to)

-- it stands between two places of a buffer, or at one of them
abbrev pub stands_within : (buffer from to : ℕ) → Marker → Bool
stands_within buffer from to m = spot_within buffer from to m.spot

-- the number of an item that passes a test
abbrev pub numbered_if : {X : Type 0} → (X → Bool) → ℕ × X → Option ℕ
numbered_if test n = if test n.1 then Some n.0 else None

-- the markers that stand there, by rising number
abbrev pub numbers_within : (buffer from to : ℕ) → List Marker → List ℕ
numbers_within buffer from to markers =
    filter_map (numbered_if (stands_within buffer from to)) (enumerate_from 0 markers)

-- n characters more keep a marker of the buffer within the range of places
abbrev pub HasRoomFor : (buffer n : ℕ) → Marker → Type 0
HasRoomFor buffer n m = IfSome m.spot (λ s. s.buffer ≡ buffer → n + s.place ≤ 0xffff_ffff_ffff_ffff)

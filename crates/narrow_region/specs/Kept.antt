-- The kept places of the program as those of the definitions.
use Rattle.std.specs.Prelude.{◌≡◌, ℕ, ◌+◌, ◌≤◌, Some, None, max, List, [], ◌∷◌, Option}
use Rattle.text_model.specs.Marks as marks
use Rattle.narrow_region.specs.declared.kept.Saved.{Saved}
use Rattle.narrow_region.specs.declared.kept.Saved.TheVariants.{Excursion, Restriction, Change}

abbrev pub kept_of : Saved → marks.Saved
kept_of (Excursion buffer point) = marks.Excursion buffer point
kept_of (Restriction buffer ends) = marks.Restriction buffer ends
kept_of (Change buffer from to) = marks.Pending buffer from to

abbrev pub buffer_of : marks.Saved → ℕ
buffer_of (marks.Excursion buffer point) = buffer
buffer_of (marks.Restriction buffer ends) = buffer
buffer_of (marks.Pending buffer from to) = buffer

-- the last of the places that are kept
abbrev pub last_place : marks.Saved → ℕ
last_place (marks.Excursion buffer point) = point
last_place (marks.Restriction buffer None) = 0
last_place (marks.Restriction buffer (Some ends)) = max ends.0 ends.1
last_place (marks.Pending buffer from to) = max from to

-- n characters more keep each place within the range of places
abbrev pub HasRoomFor : (buffer n : ℕ) → marks.Saved → Type 0
HasRoomFor buffer n kept = buffer_of kept ≡ buffer → n + last_place kept ≤ 0xffff_ffff_ffff_ffff

-- the ends of a kept portion or of a change stand in order
abbrev pub IsOrdered : marks.Saved → Type 0
IsOrdered (marks.Excursion buffer point) = Unit {0}
IsOrdered (marks.Restriction buffer None) = Unit {0}
IsOrdered (marks.Restriction buffer (Some ends)) = ends.0 ≤ ends.1
IsOrdered (marks.Pending buffer from to) = from ≤ to

-- what was kept last
abbrev pub head_of : List marks.Saved → Option marks.Saved
head_of [] = None
head_of (kept ∷ rest) = Some kept

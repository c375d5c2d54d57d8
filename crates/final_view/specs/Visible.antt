-- The characters that are shown where all are hidden up to a place.
use Rattle.std.specs.Prelude.{ℕ, ◌+◌, ◌||◌, nat_lt, List, [], ◌∷◌, ◌++◌, map, if◌then◌else◌, Some, None}
use Rattle.std.specs.Prelude.{is_some, slice_get}
use Rattle.text_model.specs.Characters.{Ch}
use Rattle.text_model.specs.Properties.{Cell, get, part}
use Rattle.final_view.specs.Shown.{invisible}

abbrev pub visible_one : (until place : ℕ) → Cell → List Ch
visible_one until p c = if nat_lt p until || is_some (get c.1 invisible) then [] else c.0 ∷ []

abbrev pub visible : (until place : ℕ) → List Cell → List Ch
visible until p [] = []
visible until p (c ∷ cells) = visible_one until p c ++ visible until (p + 1) cells

-- a part, unless its first character is invisible
abbrev pub run_of : (from to : ℕ) → List Cell → List Ch
run_of from to cells = elim (slice_get cells from)
    [ None ↦ [] | Some c ↦ if is_some (get c.1 invisible) then [] else map (λ c. c.0) (part from to cells) ]

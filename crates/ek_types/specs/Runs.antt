-- Runs of one property set, and the sets that they give the characters.
use Rattle.std.specs.Prelude.{ℕ, zero, suc, ◌+◌, ◌-◌, ◌≤◌, nat_le, nat_lt, Bool, if◌then◌else◌, List}
use Rattle.std.specs.Prelude.{[], ◌∷◌, ◌++◌, map, replicate}
use Rattle.text_model.specs.Properties.{PropSet}
use Rattle.ek_types.specs.declared.content.Run.{Run}

-- the sets of the characters from a place on, one each; behind the last run there are none
abbrev pub sets_from : (place : ℕ) → List Run → (size : ℕ) → List PropSet
sets_from place [] size = replicate (size - place) []
sets_from place (r ∷ runs) size = replicate (r.end - place) r.set ++ sets_from r.end runs size

-- the ends rise, up to the number of characters
abbrev pub AreRising : (place : ℕ) → List Run → (size : ℕ) → Type 0
AreRising place [] size = place ≤ size
AreRising place (r ∷ runs) size = (place ≤ r.end) × AreRising r.end runs size

-- the place where the run of this number starts, and behind the last run the place where that one ends
abbrev pub start_of : (place number : ℕ) → List Run → ℕ
start_of place zero runs = place
start_of place (suc n) [] = place
start_of place (suc n) (r ∷ runs) = start_of r.end n runs

abbrev pub ends_by : ℕ → Run → Bool
ends_by place r = nat_le r.end place

-- the set of the run of this number, and behind the last run no property
abbrev pub set_at : (number : ℕ) → List Run → PropSet
set_at number [] = []
set_at zero (r ∷ runs) = r.set
set_at (suc n) (r ∷ runs) = set_at n runs

-- what of this run lies in front of a place, as a run that ends there; the first run starts at `low`
abbrev pub rest_to : (low place number : ℕ) → List Run → List Run
rest_to low place number runs =
    if nat_lt (start_of low number runs) place then record { end = place; set = set_at number runs } ∷
    [] else []

-- the same runs, each ending so many places later
abbrev pub later_runs : ℕ → List Run → List Run
later_runs by runs = map {A = Run} {B = Run} (λ r. record r { end = by + r.end }) runs

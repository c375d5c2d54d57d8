-- The runs whose set differs from a given one. They serve the search along runs alone: the clauses of `Props` say
-- what it finds in the words of the definitions.
use Rattle.std.specs.Prelude.{ℕ, ◌+◌, Bool, ◌&&◌, nat_le, nat_lt, filter, List, [], ◌∷◌, Option}
use Rattle.text_model.specs.Properties.{PropSet}
use Rattle.text_model.specs.PropertyQuestions.{first, last, unless_same}
use Rattle.prop_intervals.specs.Runs.{Run}
use Rattle.prop_intervals.specs.Sets.{same_by}

-- where those runs start, the first of all runs at a place
abbrev pub starts_of : Option ℕ → PropSet → (place : ℕ) → List Run → List ℕ
starts_of name set place [] = []
starts_of name set place (r ∷ runs) =
    unless_same (same_by name set r.0) place (starts_of name set (place + r.1) runs)

-- where they end
abbrev pub ends_of : Option ℕ → PropSet → (place : ℕ) → List Run → List ℕ
ends_of name set place [] = []
ends_of name set place (r ∷ runs) =
    unless_same (same_by name r.0 set) (place + r.1) (ends_of name set (place + r.1) runs)

-- whether a place lies from one on and before another
abbrev pub lies_from : (from to place : ℕ) → Bool
lies_from from to place = nat_le from place && nat_lt place to

abbrev pub first_from : (from to : ℕ) → List ℕ → Option ℕ
first_from from to places = first (filter (lies_from from to) places)

abbrev pub last_from : (from to : ℕ) → List ℕ → Option ℕ
last_from from to places = last (filter (lies_from from to) places)

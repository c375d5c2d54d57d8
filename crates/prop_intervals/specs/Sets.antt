-- The property sets of a text, and where they change.
use Rattle.std.specs.Prelude.{ℕ, Bool, ◌+◌, not, List, [], ◌∷◌, map, flat_map, length, drop, Option}
use Rattle.std.specs.Prelude.{Some, None, unwrap_or, nat_lt, if◌then◌else◌}
use Rattle.text_model.specs.Properties.{PropSet, Cell, get, same_set, same_value, same_option}
use Rattle.text_model.specs.PropertyQuestions.{first_where, changes}

abbrev pub sets_in : List Cell → List PropSet
sets_in text = map (λ c. c.1) text

-- pieces of text, one behind the other
abbrev pub together : (pieces : List (List Cell)) → List Cell
together pieces = flat_map (λ piece. piece) pieces

-- the first of some places, from this one on, whose set differs from a set, or the end
abbrev pub other_from : PropSet → (place : ℕ) → List PropSet → (end : ℕ) → ℕ
other_from set place sets end = unwrap_or (first_where (λ s. not (same_set set s)) place sets) end

-- the first place behind another whose set differs from the set there, or the end
abbrev pub run_end : (place : ℕ) → List PropSet → ℕ
run_end place sets =
    elim (drop place sets) [ [] ↦ place | set ∷ more ↦ other_from set (place + 1) more (length sets) ]

-- where the sets change, or the values of one property, if one is named
abbrev pub changes_of : Option ℕ → List PropSet → List ℕ
changes_of None sets = changes same_set sets
changes_of (Some name) sets = changes (same_option same_value) (map (λ s. get s name) sets)

-- a place that was found, where it lies before an end, or behind a start
abbrev pub before : (end : ℕ) → Option ℕ → Option ℕ
before end None = None
before end (Some place) = if nat_lt place end then Some place else None

abbrev pub behind : (start : ℕ) → Option ℕ → Option ℕ
behind start None = None
behind start (Some place) = if nat_lt start place then Some place else None

-- whether two sets are the same, or only the values of one property, if one is named
abbrev pub same_by : Option ℕ → PropSet → PropSet → Bool
same_by None a b = same_set a b
same_by (Some name) a b = same_option same_value (get a name) (get b name)

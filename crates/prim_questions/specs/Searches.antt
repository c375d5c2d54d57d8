-- What is sought among the properties of a text, and where a search may end.
use Rattle.std.specs.Prelude.{◌≡◌, ℕ, ◌+◌, ◌≤◌, ◌⊎◌, ℤ, pos, int_lt, Bool, true, false, not, List, Option, Some, None, IsSomeAnd}
use Rattle.text_model.specs.Properties.{Cell}
use Rattle.text_model.specs.PropertyQuestions.{set_changes, value_changes}

-- whether something is so where it is wanted, or isn't where it isn't
abbrev pub wanted : (has found : Bool) → Bool
wanted true found = found
wanted false found = not found

-- where a search for the next change may end: at an end, or in front of it, where a limit comes that counts
-- from 1
abbrev pub Ends : (end : ℕ) → (limit : Option ℤ) → (to : ℕ) → Type 0
Ends end limit to =
    (to ≡ end) ⊎ ((to ≤ end) × IsSomeAnd limit (λ l. int_lt (pos (to + 1)) l ≡ false))

-- where one for the change before may end: at a beginning, or behind it, where a limit comes
abbrev pub EndsBehind : (begin : ℕ) → (limit : Option ℤ) → (from : ℕ) → Type 0
EndsBehind begin limit from =
    (from ≡ begin) ⊎ ((begin ≤ from) × IsSomeAnd limit (λ l. int_lt (pos from) l ≡ true))

-- where the sets of a text change, or the values of one property, if one is named
abbrev pub changes_in : Option ℕ → List Cell → List ℕ
changes_in None text = set_changes text
changes_in (Some name) text = value_changes name text

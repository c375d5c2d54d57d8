-- Names, numbered from 0 in the order of their first use. Properties of a set are printed by rising number
-- of their names, so these numbers are seen.
use Rattle.std.specs.Prelude.{ℕ, ◌+◌, Bool, true, false, ◌==◌, List, [], ◌∷◌, ◌++◌, codes, Option, Some, None}
use Rattle.std.specs.List.{list_any}
use Rattle.text_model.specs.Properties.{same_list}

-- the names that have a number from the beginning
abbrev pub first_symbols : List (List ℕ)
first_symbols =
    codes "front-sticky" ∷ codes "rear-nonsticky" ∷ codes "evaporate" ∷ codes "priority" ∷
    codes "before-change-functions" ∷ codes "after-change-functions" ∷
    codes "run" ∷ codes "exit" ∷ codes "signal" ∷ codes "failed" ∷ codes "read-only" ∷ codes "invisible" ∷
    codes "before-string" ∷ codes "after-string" ∷
    codes "utf-8-unix" ∷ codes "utf-8-dos" ∷ codes "latin-1-unix" ∷ []

abbrev pub same_word : List ℕ → List ℕ → Bool
same_word a b = same_list (λ x y. x == y) a b

-- the number at which a name stands, where the first has the number n
abbrev pub number_from : ℕ → List (List ℕ) → List ℕ → Option ℕ
number_from n [] name = None
number_from n (s ∷ symbols) name =
    elim (same_word s name) [ true ↦ Some n | false ↦ number_from (n + 1) symbols name ]

-- a name that has no number gets the next one
abbrev pub with_name : List (List ℕ) → List ℕ → List (List ℕ)
with_name symbols name =
    elim (list_any (λ s. same_word s name) symbols) [ true ↦ symbols | false ↦ symbols ++ name ∷ [] ]

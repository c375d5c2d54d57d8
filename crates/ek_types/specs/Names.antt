-- Where names stand in their list.
use Rattle.std.specs.Prelude.{◌≡◌, ℕ, List, slice_get, Option, Some}
use Rattle.text_model.specs.Names.{number_from}

abbrev pub number_in : List (List ℕ) → List ℕ → Option ℕ
number_in symbols name = number_from 0 symbols name

-- each name is found at the place where it stands, so none stands there twice
abbrev pub AreNumbered : List (List ℕ) → Type 0
AreNumbered symbols =
    (n : ℕ) (name : List ℕ) → slice_get symbols n ≡ Some name → number_in symbols name ≡ Some n

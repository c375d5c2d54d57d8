-- Whether a change of properties has a record.
use Rattle.std.proofs.Common.{◌≡◌, ℕ, true, false, List, [], ◌∷◌, ◌++◌, Option, refl}
use Rattle.std.specs.List.{filter_map}
use Rattle.text_model.specs.Properties.{PropVal, same_option, same_value}
use Rattle.text_model.specs.Undo.{Rec}
use Rattle.text_model.specs.Commit.{stretch_record}
use Rattle.buffer_core.specs.Changes.{is_some_record}

-- a stretch of another value has one
pub some_first : (name : ℕ) (new v : Option PropVal) (start end : ℕ) (rest : List Rec) → same_option same_value v new ≡ false
    → is_some_record (filter_map (stretch_record name new) ((v, start, end) ∷ []) ++ rest) ≡ true
some_first name new v start end rest h = rw h refl

-- a stretch of the new value has none
pub none_first : (name : ℕ) (new v : Option PropVal) (start end : ℕ) (rest : List Rec) → same_option same_value v new ≡ true
    → filter_map (stretch_record name new) ((v, start, end) ∷ []) ++ rest ≡ rest
none_first name new v start end rest h = rw h refl

-- the records of one name, and those of the names behind it
pub some_then : (records rest : List Rec) → is_some_record records ≡ true → is_some_record (records ++ rest) ≡ true
some_then [] rest h = cc
some_then (r ∷ records) rest h = refl

pub none_then : (records rest : List Rec) → is_some_record records ≡ false → records ++ rest ≡ rest
none_then [] rest h = refl
none_then (r ∷ records) rest h = cc

-- What a deletion records.
use Rattle.std.specs.Prelude.{ℕ, List, [], ◌∷◌, ◌++◌, Option, Some, None}
use Rattle.text_model.specs.Properties.{Cell}
use Rattle.text_model.specs.Undo.{Rec, Deleted}

-- records with that of the text that is taken out at a place behind them, if there is one
abbrev pub with_text : List Rec → Option (List Cell) → (from : ℕ) → List Rec
with_text before None from = before
with_text before (Some piece) from = before ++ Deleted piece from ∷ []

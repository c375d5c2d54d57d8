-- Calls on text properties. The symbols: 20 is face, 21 bold, 22 italic, 23 n.
use Rattle.std.specs.Prelude.{◌≡◌, ℕ, [], ◌∷◌, ◌++◌, codes}
use Rattle.std.proofs.Common.{refl}
use Rattle.text_model.specs.Characters.{Scalar}
use Rattle.text_model.specs.Properties.{PropSet, Truth, Symbol, Symbols}
use Rattle.editor_model.specs.Values.{Value, Nil, T, Sym, Str, list, Refused, Prim, ArgsOutOfRange, WrongType}
use Rattle.worked_rows.specs.Row.{with_set, text}
use Rattle.worked_rows.proofs.Doing.{Calls, answers, num, is, yes, no}

abbrev face : (value : ℕ) → PropSet
face value = (20, Symbol value) ∷ []

-- where properties change
abbrev changes_calls : Calls
changes_calls =
    (Prim.Insert, Str (with_set [] (codes "a") ++ (with_set (face 21) (codes "bc") ++ with_set [] (codes "d"))) ∷ []) ∷
    (Prim.NextPropertyChange, num 1 ∷ []) ∷
    (Prim.NextPropertyChange, num 2 ∷ []) ∷
    (Prim.NextPropertyChange, num 4 ∷ []) ∷
    (Prim.NextPropertyChange, num 2 ∷ num 3 ∷ []) ∷
    (Prim.NextSinglePropertyChange, num 1 ∷ Sym 23 ∷ num 9 ∷ []) ∷
    (Prim.PreviousSinglePropertyChange, num 5 ∷ Sym 20 ∷ []) ∷
    (Prim.PreviousPropertyChange, num 4 ∷ num 3 ∷ []) ∷
    (Prim.PreviousPropertyChange, num 2 ∷ []) ∷
    (Prim.NextPropertyChange, num 6 ∷ []) ∷
    (Prim.AddTextProperties, num 2 ∷ num 4 ∷ list (Sym 20 ∷ Sym 21 ∷ []) ∷ []) ∷
    (Prim.TextPropertyNotAll, num 1 ∷ num 5 ∷ Sym 20 ∷ Sym 21 ∷ []) ∷
    (Prim.TextPropertyAny, num 1 ∷ num 5 ∷ Sym 20 ∷ Sym 21 ∷ []) ∷
    (Prim.TextPropertyAny, num 3 ∷ num 5 ∷ Sym 20 ∷ Nil ∷ []) ∷ []

pub changes : answers [] changes_calls ≡ no ∷ is (num 2) ∷ is (num 4) ∷ no ∷ is (num 3) ∷ is (num 9) ∷ is (num 4) ∷ is (num 3) ∷ no ∷ Refused ArgsOutOfRange ∷ no ∷ is (num 1) ∷ is (num 2) ∷ is (num 4) ∷ []
changes = refl

abbrev sticky : Value
sticky = Str ((Scalar 97, (1, Symbols (20 ∷ [])) ∷ (20, Symbol 21) ∷ []) ∷ (Scalar 98, (0, Truth) ∷ (20, Symbol 22) ∷ []) ∷ [])

abbrev stuck : Value
stuck = Str ((Scalar 97, (1, Symbols (20 ∷ [])) ∷ (20, Symbol 21) ∷ []) ∷ (Scalar 120, face 22) ∷ (Scalar 98, (0, Truth) ∷ (20, Symbol 22) ∷ []) ∷ [])

-- inherited properties and property lists
abbrev lists_calls : Calls
lists_calls =
    (Prim.Insert, sticky ∷ []) ∷
    (Prim.GotoChar, num 2 ∷ []) ∷
    (Prim.InsertAndInherit, text (codes "x") ∷ []) ∷
    (Prim.BufferString, []) ∷
    (Prim.TextPropertiesAt, num 2 ∷ []) ∷
    (Prim.TextPropertiesAt, num 4 ∷ []) ∷
    (Prim.GetTextProperty, num 5 ∷ Sym 20 ∷ []) ∷
    (Prim.PutTextProperty, num 1 ∷ num 3 ∷ Sym 20 ∷ Nil ∷ []) ∷
    (Prim.AddTextProperties, num 1 ∷ num 4 ∷ list (Sym 0 ∷ Nil ∷ Sym 23 ∷ num 1 ∷ []) ∷ []) ∷
    (Prim.AddTextProperties, num 1 ∷ num 4 ∷ list (Sym 23 ∷ num 1 ∷ Sym 23 ∷ num 2 ∷ []) ∷ []) ∷
    (Prim.AddTextProperties, num 1 ∷ num 4 ∷ list (Sym 23 ∷ []) ∷ []) ∷
    (Prim.AddTextProperties, num 1 ∷ num 9 ∷ list (Sym 23 ∷ num 1 ∷ T ∷ num 2 ∷ []) ∷ []) ∷
    (Prim.AddTextProperties, num 1 ∷ num 9 ∷ list (Sym 23 ∷ num 1 ∷ []) ∷ []) ∷
    (Prim.SetTextProperties, num 1 ∷ num 2 ∷ Nil ∷ []) ∷
    (Prim.RemoveTextProperties, num 1 ∷ num 4 ∷ list (Sym 23 ∷ num 5 ∷ []) ∷ []) ∷
    (Prim.RemoveTextProperties, num 1 ∷ num 4 ∷ list (Sym 23 ∷ num 5 ∷ []) ∷ []) ∷
    (Prim.BufferString, []) ∷ []

pub lists : answers [] lists_calls ≡ no ∷ is (num 2) ∷ no ∷ is stuck ∷ is (list (Sym 20 ∷ Sym 22 ∷ [])) ∷ no ∷ Refused ArgsOutOfRange ∷ no ∷ yes ∷ Refused WrongType ∷ Refused WrongType ∷ Refused WrongType ∷ Refused ArgsOutOfRange ∷ yes ∷ yes ∷ no ∷ is (Str ((Scalar 97, []) ∷ (Scalar 120, []) ∷ (Scalar 98, face 22) ∷ [])) ∷ []
lists = refl

-- Constants and names in the arguments of a call, by their words.
use Rattle.std.specs.Prelude.{◌≡◌, ◌⊎◌, ℕ, ◌+◌, ◌≤◌, ℤ, pos, List, [], ◌∷◌, ◌++◌, map, length, codes}
use Rattle.std.specs.Prelude.{not, ◌==◌, IsTrue, slice_get, Option, Some}
use Rattle.std.specs.List.{list_any}
use Rattle.text_model.specs.Characters.{Ch}
use Rattle.text_model.specs.Properties.{Cell, PropSet, PropVal, put, bare}
use Rattle.editor_model.specs.Values.{Value, Values, Nil, T, Int, Sym, Str, Items, End, More, as_prop}
use Rattle.editor_model.specs.Values.{Arg, Const, Name}
use Rattle.plain_machine.specs.Words.{Word, Plain, Named, opening, closing, quote, hash, is_name, IsInt}
use Rattle.plain_machine.specs.Words.{IsString}

-- the words of a thing with others behind them
abbrev pub Joined : (List Word → Type 0) → (List Word → Type 0) → List Word → Type 0
Joined First Rest words = (first rest : List Word) × (words ≡ first ++ rest) × First first × Rest rest

abbrev pub InParentheses : (List Word → Type 0) → List Word → Type 0
InParentheses Inside words = (inside : List Word) × (words ≡ opening ∷ (inside ++ closing ∷ [])) × Inside inside

-- a name that stands for this symbol
abbrev pub IsSymbol : (symbols : List (List ℕ)) → (s : ℕ) → List Word → Type 0
IsSymbol symbols s words =
    (name : List ℕ) × (words ≡ Named name ∷ []) × IsTrue (is_name name) × (slice_get symbols s ≡ Some name)

abbrev pub IsNumber : ℤ → List Word → Type 0
IsNumber i words = (word : List ℕ) × (words ≡ Plain word ∷ []) × IsInt word i

abbrev pub IsText : List Ch → List Word → Type 0
IsText text words = (word : List ℕ) × (words ≡ Plain word ∷ []) × IsString word text

-- LISTS
abbrev pub AreSymbols : (symbols : List (List ℕ)) → Values → List Word → Type 0
AreSymbols symbols End words = words ≡ []
AreSymbols symbols (More (Sym s) vs) words = Joined (IsSymbol symbols s) (AreSymbols symbols vs) words
AreSymbols symbols (More _ vs) words = ⊥

abbrev pub IsItem : (symbols : List (List ℕ)) → Value → List Word → Type 0
IsItem symbols Nil words = (words ≡ Plain (codes "nil") ∷ []) ⊎ (words ≡ opening ∷ closing ∷ [])
IsItem symbols T words = words ≡ Plain (codes "t") ∷ []
IsItem symbols (Int i) words = IsNumber i words
IsItem symbols (Sym s) words = IsSymbol symbols s words
IsItem symbols (Str text) words = (chars : List Ch) × (text ≡ bare chars) × IsText chars words
IsItem symbols (Items (More v vs)) words = InParentheses (AreSymbols symbols (More v vs)) words
IsItem symbols _ words = ⊥

abbrev pub AreItems : (symbols : List (List ℕ)) → Values → List Word → Type 0
AreItems symbols End words = words ≡ []
AreItems symbols (More v vs) words = Joined (IsItem symbols v) (AreItems symbols vs) words

-- STRINGS WITH PROPERTIES
abbrev pub IsNew : ℕ → List ℕ → Type 0
IsNew name seen = IsTrue (not (list_any (λ n. n == name) seen))

-- a list of names and property values, no name twice; nil leaves its property out
pub data IsPropertyList : (seen : List ℕ) → Values → PropSet → Type 0 where
  no_more : {seen : List ℕ} → IsPropertyList seen End []
  property : {seen : List ℕ} {name : ℕ} {v : Value} {more : Values} {value : Option PropVal} {set : PropSet} →
      IsNew name seen → as_prop v ≡ Some value → IsPropertyList (name ∷ seen) more set →
      IsPropertyList seen (More (Sym name) (More v more)) (put set name value)

-- Triples of two numbers and a property list, by rising places: each gives the characters from the one
-- place to the other its set, and all others have none.
pub data AreRuns (symbols : List (List ℕ)) : (at : ℕ) → List Cell → List Word → Type 0 where
  no_run : {at : ℕ} (left : List Ch) → AreRuns symbols at (bare left) []
  run : {at : ℕ} (gap chars : List Ch) (list : Values) (set : PropSet) (from to inside : List Word)
      {rest : List Cell} {words : List Word} →
      1 ≤ length chars → IsNumber (pos (at + length gap)) from →
      IsNumber (pos (at + length gap + length chars)) to →
      AreItems symbols list inside → IsPropertyList [] list set →
      AreRuns symbols (at + length gap + length chars) rest words →
      AreRuns symbols at (bare gap ++ (map (λ c. (c, set)) chars ++ rest))
      (from ++ (to ++ (opening ∷ (inside ++ closing ∷ words))))

abbrev pub IsPropString : (symbols : List (List ℕ)) → List Cell → List Word → Type 0
IsPropString symbols text words =
    (string runs : List Word) × (words ≡ hash ∷ opening ∷ (string ++ (runs ++ closing ∷ []))) ×
    IsText (map (λ c. c.0) text) string × AreRuns symbols 0 text runs

-- ATOMS
abbrev pub Quoted : (List Word → Type 0) → List Word → Type 0
Quoted Thing words = (thing : List Word) × (words ≡ quote ∷ thing) × Thing thing

abbrev pub IsConst : (symbols : List (List ℕ)) → Value → List Word → Type 0
IsConst symbols Nil words = (words ≡ Plain (codes "nil") ∷ []) ⊎ Quoted (IsItem symbols Nil) words
IsConst symbols T words = (words ≡ Plain (codes "t") ∷ []) ⊎ Quoted (IsItem symbols T) words
IsConst symbols (Int i) words = IsNumber i words
IsConst symbols (Sym s) words = Quoted (IsSymbol symbols s) words
IsConst symbols (Str text) words =
    ((chars : List Ch) × (text ≡ bare chars) × IsText chars words) ⊎ IsPropString symbols text words
IsConst symbols (Items (More v vs)) words = Quoted (InParentheses (AreItems symbols (More v vs))) words
IsConst symbols _ words = ⊥

abbrev pub IsArg : (symbols : List (List ℕ)) → Arg → List Word → Type 0
IsArg symbols (Const v) words = IsConst symbols v words
IsArg symbols (Name s) words = IsSymbol symbols s words

abbrev pub AreArgs : (symbols : List (List ℕ)) → List Arg → List Word → Type 0
AreArgs symbols [] words = words ≡ []
AreArgs symbols (a ∷ args) words = Joined (IsArg symbols a) (AreArgs symbols args) words

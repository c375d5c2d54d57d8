-- What every script keeps, so that no later layer asks again: each symbol has a name, each call as many
-- arguments as it takes, and the limits hold.
use Rattle.std.specs.Prelude.{ℕ, ◌<◌, ◌≤◌, IsTrue, List, [], ◌∷◌, map, length}
use Rattle.text_model.specs.Properties.{Cell, PropSet, PropVal, Symbol, Symbols}
use Rattle.editor_model.specs.Values.{Value, Values, Sym, Str, Items, End, More, Arg, Const, Name, Call}
use Rattle.editor_model.specs.Values.{Form, Forms, Do, Setq, In, WhenEq, NoForms, Then, HandlerDef}
use Rattle.editor_model.specs.Values.{Script}
use Rattle.plain_machine.specs.Natives.{takes}
use Rattle.plain_machine.specs.Grammar.{depth_all, size_all, all_differ}

-- SYMBOLS, of which there are so many
abbrev pub AreBelow : (count : ℕ) → List ℕ → Type 0
AreBelow count [] = Unit {0}
AreBelow count (s ∷ symbols) = (s < count) × AreBelow count symbols

abbrev pub IsNamedProperty : (count : ℕ) → PropVal → Type 0
IsNamedProperty count (Symbol s) = s < count
IsNamedProperty count (Symbols names) = AreBelow count names
IsNamedProperty count _ = Unit {0}

abbrev pub IsNamedSet : (count : ℕ) → PropSet → Type 0
IsNamedSet count [] = Unit {0}
IsNamedSet count (p ∷ set) = (p.0 < count) × IsNamedProperty count p.1 × IsNamedSet count set

abbrev pub IsNamedText : (count : ℕ) → List Cell → Type 0
IsNamedText count [] = Unit {0}
IsNamedText count (c ∷ text) = IsNamedSet count c.1 × IsNamedText count text

abbrev mutual
  pub IsNamed : (count : ℕ) → Value → Type 0
  IsNamed count (Sym s) = s < count
  IsNamed count (Str text) = IsNamedText count text
  IsNamed count (Items vs) = AreNamed count vs
  IsNamed count _ = Unit {0}

  pub AreNamed : (count : ℕ) → Values → Type 0
  AreNamed count End = Unit {0}
  AreNamed count (More v vs) = IsNamed count v × AreNamed count vs

abbrev pub IsNamedArg : (count : ℕ) → Arg → Type 0
IsNamedArg count (Const v) = IsNamed count v
IsNamedArg count (Name s) = s < count

abbrev pub AreNamedArgs : (count : ℕ) → List Arg → Type 0
AreNamedArgs count [] = Unit {0}
AreNamedArgs count (a ∷ args) = IsNamedArg count a × AreNamedArgs count args

-- CALLS AND FORMS
abbrev pub IsKeptCall : (count : ℕ) → Call → Type 0
IsKeptCall count c = IsTrue (takes c.prim (length c.args)) × AreNamedArgs count c.args

abbrev mutual
  pub IsKeptForm : (count : ℕ) → Form → Type 0
  IsKeptForm count (Do c) = IsKeptCall count c
  IsKeptForm count (Setq s c) = (s < count) × IsKeptCall count c
  IsKeptForm count (In kind forms) = AreKeptForms count forms
  IsKeptForm count (WhenEq a b forms) = IsNamedArg count a × IsNamedArg count b × AreKeptForms count forms

  pub AreKeptForms : (count : ℕ) → Forms → Type 0
  AreKeptForms count NoForms = Unit {0}
  AreKeptForms count (Then f fs) = IsKeptForm count f × AreKeptForms count fs

-- HANDLERS
pub record IsKeptHandler (count : ℕ) (d : HandlerDef) : Type 0 where
  pub name : d.name < count
  pub params : AreBelow count d.params
  pub few_params : length d.params ≤ 8
  pub params_differ : IsTrue (all_differ d.params)
  pub body : AreKeptForms count d.body
  pub few_forms : size_all d.body ≤ 256
  pub shallow : depth_all d.body ≤ 16

abbrev pub AreKeptHandlers : (count : ℕ) → List HandlerDef → Type 0
AreKeptHandlers count [] = Unit {0}
AreKeptHandlers count (d ∷ handlers) = IsKeptHandler count d × AreKeptHandlers count handlers

-- THE SCRIPT
pub record IsKept (script : Script) : Type 0 where
  pub handlers : AreKeptHandlers (length script.symbols) script.handlers
  pub few_handlers : length script.handlers ≤ 256
  pub handlers_differ : IsTrue (all_differ (map (λ d. d.name) script.handlers))
  pub forms : AreKeptForms (length script.symbols) script.forms
  pub shallow : depth_all script.forms ≤ 16

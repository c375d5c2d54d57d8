-- What calls take and answer, the forms of a script, and the faults that a call can meet.
-- Read this first: all files of the editor and of its machine speak of these types. An object in a value is
-- its number, in the order in which such objects were made; a symbol is its number in the run's list of
-- names.
use Rattle.std.specs.Prelude.{ℕ, ◌+◌, ℤ, pos, Bool, true, false, ◌&&◌, ◌==◌, List, [], ◌∷◌, map}
use Rattle.std.specs.Prelude.{if◌then◌else◌, Option, Some, None}
use Rattle.std.specs.List.{list_any}
use Rattle.std.specs.Ordering.{int_eq}
use Rattle.text_model.specs.Characters.{Ch}
use Rattle.text_model.specs.Properties.{Cell, same_list, same_ch, PropVal, PropSet, Truth, Number}
use Rattle.text_model.specs.Properties.{Symbol, Symbols, Text}

-- `Items` is a list that isn't empty; `Dotted` a list with a tail
mutual
  pub data Value : Type 0 where
    Nil : Value
    T : Value
    Int : ℤ → Value
    Sym : ℕ → Value
    Str : List Cell → Value
    Items : Values → Value
    Dotted : Values → Value → Value
    TheBuffer : ℕ → Value
    TheMarker : ℕ → Value
    TheOverlay : ℕ → Value
    TheProcess : ℕ → Value

  pub data Values : Type 0 where
    End : Values
    More : Value → Values → Values

-- equal: the same kind and the same content, strings by their characters alone
abbrev mutual
  pub equal : Value → Value → Bool
  equal Nil Nil = true
  equal T T = true
  equal (Int a) (Int b) = int_eq a b
  equal (Sym a) (Sym b) = a == b
  equal (Str a) (Str b) = same_list (λ c d. same_ch c.0 d.0) a b
  equal (Items a) (Items b) = equal_each a b
  equal (Dotted a x) (Dotted b y) = equal_each a b && equal x y
  equal (TheBuffer a) (TheBuffer b) = a == b
  equal (TheMarker a) (TheMarker b) = a == b
  equal (TheOverlay a) (TheOverlay b) = a == b
  equal (TheProcess a) (TheProcess b) = a == b
  equal _ _ = false

  pub equal_each : Values → Values → Bool
  equal_each End End = true
  equal_each (More x xs) (More y ys) = equal x y && equal_each xs ys
  equal_each _ _ = false

-- a list as a value: the empty one is nil
abbrev pub values : List Value → Values
values [] = End
values (v ∷ vs) = More v (values vs)

abbrev pub list : List Value → Value
list [] = Nil
list (v ∷ vs) = Items (More v (values vs))

abbrev pub items : Values → List Value
items End = []
items (More v vs) = v ∷ items vs

abbrev pub truth : Bool → Value
truth b = elim b [ true ↦ T | false ↦ Nil ]

abbrev pub is_nil : Value → Bool
is_nil Nil = true
is_nil _ = false

-- the position of a place: positions are counted from 1
abbrev pub at_place : ℕ → Value
at_place n = Int (pos (n + 1))

-- characters as a string without properties
abbrev pub plain : List Ch → Value
plain text = Str (map (λ c. (c, [])) text)

-- a property's value as a value, and a value as a property's; nil is none
abbrev pub of_prop : Option PropVal → Value
of_prop None = Nil
of_prop (Some Truth) = T
of_prop (Some (Number i)) = Int i
of_prop (Some (Symbol s)) = Sym s
of_prop (Some (Symbols names)) = list (map Sym names)
of_prop (Some (Text text)) = plain text

abbrev pub symbol_names : Values → Option (List ℕ)
symbol_names End = Some []
symbol_names (More (Sym s) rest) = elim (symbol_names rest) [ Some names ↦ Some (s ∷ names) | None ↦ None ]
symbol_names (More _ rest) = None

-- None where it is no property value; Some None is nil
abbrev pub as_prop : Value → Option (Option PropVal)
as_prop Nil = Some None
as_prop T = Some (Some Truth)
as_prop (Int i) = Some (Some (Number i))
as_prop (Sym s) = Some (Some (Symbol s))
as_prop (Str text) = Some (Some (Text (map (λ c. c.0) text)))
as_prop (Items End) = Some None
as_prop (Items (More v vs)) =
    elim (symbol_names (More v vs)) [ Some names ↦ Some (Some (Symbols names)) | None ↦ None ]
as_prop _ = None

-- a set of properties as a list of names and values
abbrev pub set_words : PropSet → List Value
set_words [] = []
set_words (p ∷ set) = Sym p.0 ∷ of_prop (Some p.1) ∷ set_words set

abbrev pub of_set : PropSet → Value
of_set set = list (set_words set)

-- names with values, where nil is none
abbrev pub Pairs : Type 0
Pairs = List (ℕ × Option PropVal)

abbrev pub with_pair : (name : ℕ) → Option (Option PropVal) → Option Pairs → Option Pairs
with_pair name (Some v) (Some pairs) =
    if list_any (λ p. p.0 == name) pairs then None else Some ((name, v) ∷ pairs)
with_pair name _ _ = None

abbrev pub pairs_of : List Value → Option Pairs
pairs_of [] = Some []
pairs_of (Sym name ∷ v ∷ rest) = with_pair name (as_prop v) (pairs_of rest)
pairs_of _ = None

-- None where it is no property list
abbrev pub as_pairs : Value → Option Pairs
as_pairs Nil = Some []
as_pairs (Items vs) = pairs_of (items vs)
as_pairs _ = None

-- why a call is refused
pub data Fault : Type 0 where
  ArgsOutOfRange : Fault
  WrongType : Fault
  VoidVariable : Fault
  NoSuchBuffer : Fault
  BufferKilled : Fault
  NoFurtherUndo : Fault
  UndoOutside : Fault
  UndoDisabled : Fault
  NoSuchProcess : Fault
  ProcessEnded : Fault
  BrokenPipe : Fault
  SpawnFailed : Fault
  Nesting : Fault
  ExchangesSpent : Fault
  BufferFull : Fault
  TooMany : Fault
  BufferReadOnly : Fault
  TextReadOnly : Fault
  CodingFixed : Fault

-- what a call comes to
pub data Reply : Type 0 where
  Answered : Value → Reply
  Refused : Fault → Reply

-- the primitive calls
pub data Prim : Type 0 where
  -- buffers
  CurrentBuffer SetBuffer GetBuffer GetBufferCreate GenerateNewBuffer RenameBuffer KillBuffer BufferLiveP : Prim
  BufferName BufferList BufferModifiedP SetBufferModifiedP BufferReadOnlyP SetBufferReadOnly : Prim
  -- texts
  PointAt PointMin PointMax BufferSize BufferNarrowedP GotoChar CharAfter BufferString BufferSubstring : Prim
  BufferSubstringNoProperties Insert InsertAndInherit InsertBeforeMarkers InsertBeforeMarkersAndInherit : Prim
  InsertBufferSubstring DeleteRegion DeleteAndExtractRegion EraseBuffer NarrowToRegion Widen : Prim
  -- markers
  MakeMarker PointMarker CopyMarker SetMarker MarkerPosition MarkerBuffer MarkerInsertionType : Prim
  SetMarkerInsertionType : Prim
  -- text properties
  GetTextProperty TextPropertiesAt PutTextProperty AddTextProperties RemoveTextProperties
      SetTextProperties : Prim
  NextPropertyChange NextSinglePropertyChange PreviousPropertyChange PreviousSinglePropertyChange : Prim
  TextPropertyAny TextPropertyNotAll : Prim
  -- overlays
  MakeOverlay OverlayStart OverlayEnd OverlayBuffer OverlayPut OverlayGet OverlayProperties MoveOverlay : Prim
  DeleteOverlay OverlaysAt OverlaysIn GetCharProperty NextOverlayChange PreviousOverlayChange : Prim
  -- hooks
  AddHook RemoveHook : Prim
  -- undo
  UndoBoundary UndoStart UndoMore BufferUndoList BufferDisableUndo BufferEnableUndo : Prim
  -- processes
  StartProcess ProcessList GetProcess ProcessName ProcessStatus ProcessBuffer ProcessMark ProcessLiveP : Prim
  ProcessExitStatus ProcessFilter ProcessSentinel SetProcessFilter SetProcessSentinel SetProcessBuffer : Prim
  ProcessSendString ProcessSendEof DeleteProcess AcceptProcessOutput : Prim
  SetProcessCodingSystem ProcessCodingSystem : Prim

-- FORMS
-- an argument of a call: a constant, or a name, which stands for a parameter or a register
pub data Arg : Type 0 where
  Const : Value → Arg
  Name : ℕ → Arg

pub record Call : Type 0 where
  pub prim : Prim
  pub args : List Arg

pub data Block : Type 0 where
  SaveExcursion SaveRestriction SaveCurrentBuffer InhibitHooks InhibitReadOnly : Block

-- a call; a call whose answer is kept under a name; a block; forms that are done where two arguments are equal
mutual
  pub data Form : Type 0 where
    Do : Call → Form
    Setq : ℕ → Call → Form
    In : Block → Forms → Form
    WhenEq : Arg → Arg → Forms → Form

  pub data Forms : Type 0 where
    NoForms : Forms
    Then : Form → Forms → Forms

pub record HandlerDef : Type 0 where
  pub name : ℕ
  pub params : List ℕ
  pub body : Forms

pub record Script : Type 0 where
  pub symbols : List (List ℕ)
  pub handlers : List HandlerDef
  pub forms : Forms

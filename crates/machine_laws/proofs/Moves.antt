-- What a run does to processes, seen from afar: the child, the bytes and the two ends of each process, and the entry
-- of a filter or sentinel that is the next step.
use Rattle.std.proofs.Common.{◌≡◌, ℕ, true, false, List, [], ◌∷◌, ◌++◌, map}
use Rattle.std.specs.Prelude.{Option, Some, None, is_some, unwrap_or, slice_get, slice_set, ◌+◌, ◌==◌}
use Rattle.text_model.specs.Characters.{Ch}
use Rattle.text_model.specs.Codings.{Coding, Utf8, decoded, all_decoded}
use Rattle.editor_model.specs.Values.{Value}
use Rattle.plain_machine.specs.Exchanges.{Ask, Read, AskEnd, Answer, Bytes, End, Failed, Exchange, children_started, gone}
use Rattle.plain_machine.specs.Lines.{Kind, OfFilter, OfSentinel, OfBefore, OfAfter, Event, Entered}
use Rattle.plain_machine.specs.Items.{Item, Top, Hooks, Enter, Finish, WriteDump, Said}
use Rattle.plain_machine.specs.Handling.{second}
use Rattle.plain_machine.specs.Waits.{more_characters}
use Rattle.machine_laws.proofs.Keeping.{Core}

-- ITEMS
abbrev pub IsHook : Kind → Type 0
IsHook (OfFilter p) = ⊥
IsHook (OfSentinel p) = ⊥
IsHook (OfBefore b) = Unit {0}
IsHook (OfAfter b) = Unit {0}

-- an item of the script's run that enters no filter and no sentinel
abbrev pub Plain : Item → Type 0
Plain (Enter kind handler args) = IsHook kind
Plain (Hooks kind names args) = IsHook kind
Plain (Top forms) = ⊥
Plain (Finish p) = ⊥
Plain WriteDump = ⊥
Plain _ = Unit {0}

-- such items, and the forms of the script last
abbrev pub AllPlain : List Item → Type 0
AllPlain [] = ⊥
AllPlain (Top forms ∷ work) = work ≡ []
AllPlain (item ∷ work) = Plain item × AllPlain work

-- only the first item may enter one; at the end of the script one item is left, and then none
abbrev pub Valid : List Item → Type 0
Valid [] = Unit {0}
Valid (Top forms ∷ work) = work ≡ []
Valid (Finish p ∷ work) = work ≡ []
Valid (WriteDump ∷ work) = work ≡ []
Valid (Enter kind handler args ∷ work) = AllPlain work
Valid (item ∷ work) = Plain item × AllPlain work

-- the script runs, or the kills at its end have come so far, or are made
pub data Phase : Type 0 where
  Working : Phase
  Killing : ℕ → Phase
  Over : Phase

abbrev pub phase : List Item → Phase
phase [] = Over
phase (Finish p ∷ work) = Killing p
phase (WriteDump ∷ work) = Over
phase _ = Working

abbrev pub IsQuiet : Event → Type 0
IsQuiet (Entered depth kind handler args) = IsHook kind
IsQuiet _ = Unit {0}

abbrev pub Silent : List Said → Type 0
Silent [] = Unit {0}
Silent (x ∷ said) = IsQuiet x.event × Silent said

-- the entry that is the next step
pub data Coming : Type 0 where
  Nobody : Coming
  Output : ℕ → List Ch → Coming
  Sentinel : ℕ → Coming

abbrev pub text_in : List Value → List Ch
text_in args = map (λ c. c.0) (second args)

abbrev pub coming_of : Kind → List Value → Coming
coming_of (OfFilter p) args = Output p (text_in args)
coming_of (OfSentinel p) args = Sentinel p
coming_of _ args = Nobody

abbrev pub coming : List Item → Coming
coming (Enter kind handler args ∷ work) = coming_of kind args
coming _ = Nobody

abbrev pub output_of : ℕ → List Ch → Coming
output_of p [] = Nobody
output_of p (c ∷ text) = Output p (c ∷ text)

-- EXCHANGES
-- an exchange that tells nothing of output; an end is asked of a drained process
abbrev pub IsIdle : List Core → Ask → Answer → Type 0
IsIdle cs (Read c) (Bytes bytes) = ⊥
IsIdle cs (Read c) End = ⊥
IsIdle cs (Read c) Failed = ⊥
IsIdle cs (AskEnd c) answer = (p : ℕ) × (x : Core) × (slice_get cs p ≡ Some x) × (x.child ≡ c) × (x.drained ≡ true)
IsIdle cs _ _ = Unit {0}

abbrev pub Idle : List Core → List Exchange → Type 0
Idle cs [] = Unit {0}
Idle cs (x ∷ xs) = IsIdle cs x.ask x.answer × (xs ≡ [])

abbrev pub IsNew : ℕ → List Core → Type 0
IsNew child cs = (p : ℕ) (x : Core) → slice_get cs p ≡ Some x → x.child ≡ child → ⊥

abbrev pub fresh : ℕ → Core
fresh child = record { child = child; live = true; bytes = None; drained = false; coding = Utf8 }

-- what was read of it
abbrev pub so_far : Core → List ℕ
so_far x = unwrap_or x.bytes []

-- a coding that the process may have
abbrev pub MayHave : Core → Coding → Type 0
MayHave x k = is_some x.bytes ≡ true → k ≡ x.coding

-- the event of an entry
abbrev pub EntryOf : Coming → Event → Type 0
EntryOf Nobody e = ⊥
EntryOf (Output p text) e = (depth : ℕ) × (handler : Option ℕ) × (args : List Value) × (e ≡ Entered depth (OfFilter p) handler args) × (text_in args ≡ text)
EntryOf (Sentinel p) e = (depth : ℕ) × (handler : Option ℕ) × (args : List Value) × (e ≡ Entered depth (OfSentinel p) handler args)

abbrev pub IsLast : Answer → Type 0
IsLast End = Unit {0}
IsLast Failed = Unit {0}
IsLast _ = ⊥

-- exchanges by which no child comes and none goes
abbrev pub Still : List Exchange → Type 0
Still xs = (children_started xs ≡ []) × ((c : ℕ) → gone c xs ≡ false)

-- exchanges by which one child goes
abbrev pub Ends : ℕ → List Exchange → Type 0
Ends child xs = (children_started xs ≡ []) × ((c : ℕ) → gone c xs ≡ (child == c))

abbrev pub Starts : ℕ → List Exchange → Type 0
Starts child xs = (children_started xs ≡ child ∷ []) × ((c : ℕ) → gone c xs ≡ false)

-- ONE STEP, seen so: while the script runs, and behind it
pub data Moves (cs : List Core) (e : Coming) (g : Phase) (xs : List Exchange) (said : List Said) (ds : List Core) (f : Coming) (h : Phase) : Type 0 where
  rests : e ≡ Nobody → f ≡ Nobody → ds ≡ cs → Idle cs xs → Silent said → g ≡ Working → h ≡ Working → Still xs → Moves cs e g xs said ds f h
  enters : (x : Said) → EntryOf e x.event → said ≡ x ∷ [] → f ≡ Nobody → ds ≡ cs → xs ≡ [] → g ≡ Working → h ≡ Working → Moves cs e g xs said ds f h
  spawns : (child : ℕ) → e ≡ Nobody → f ≡ Nobody → ds ≡ cs ++ fresh child ∷ [] → IsNew child cs → Idle cs xs → said ≡ [] → g ≡ Working → h ≡ Working → Starts child xs → Moves cs e g xs said ds f h
  hears : (p : ℕ) (x : Core) (k : Coding) (bytes : List ℕ) → MayHave x k → e ≡ Nobody → slice_get cs p ≡ Some x → x.live ≡ true → x.drained ≡ false → xs ≡ record { ask = Read x.child; answer = Bytes bytes } ∷ [] → said ≡ [] →
      ds ≡ slice_set cs p (record x { bytes = Some (so_far x ++ bytes); coding = k }) → f ≡ output_of p (more_characters (decoded k (so_far x)) (decoded k (so_far x ++ bytes))) → g ≡ Working → h ≡ Working → Moves cs e g xs said ds f h
  drains : (p : ℕ) (x : Core) (k : Coding) (answer : Answer) → MayHave x k → IsLast answer → e ≡ Nobody → slice_get cs p ≡ Some x → x.live ≡ true → x.drained ≡ false → xs ≡ record { ask = Read x.child; answer = answer } ∷ [] → said ≡ [] →
      ds ≡ slice_set cs p (record x { drained = true }) → f ≡ output_of p (more_characters (decoded k (so_far x)) (all_decoded k (so_far x))) → g ≡ Working → h ≡ Working → Moves cs e g xs said ds f h
  dies : (p : ℕ) (x : Core) → e ≡ Nobody → slice_get cs p ≡ Some x → x.live ≡ true → Idle cs xs → said ≡ [] → ds ≡ slice_set cs p (record x { live = false }) → f ≡ Sentinel p → g ≡ Working → h ≡ Working → Ends x.child xs → Moves cs e g xs said ds f h
  closes : e ≡ Nobody → f ≡ Nobody → ds ≡ cs → xs ≡ [] → Silent said → g ≡ Working → h ≡ Killing 0 → Moves cs e g xs said ds f h
  passes : (p : ℕ) (x : Core) → e ≡ Nobody → f ≡ Nobody → ds ≡ cs → xs ≡ [] → Silent said → slice_get cs p ≡ Some x → x.live ≡ false → g ≡ Killing p → h ≡ Killing (p + 1) → Moves cs e g xs said ds f h
  kills : (p : ℕ) (x : Core) → e ≡ Nobody → f ≡ Nobody → ds ≡ cs → Idle cs xs → Silent said → slice_get cs p ≡ Some x → x.live ≡ true → Ends x.child xs → g ≡ Killing p → h ≡ Killing (p + 1) → Moves cs e g xs said ds f h
  ends : (p : ℕ) → e ≡ Nobody → f ≡ Nobody → ds ≡ cs → xs ≡ [] → Silent said → slice_get cs p ≡ None → g ≡ Killing p → h ≡ Over → Moves cs e g xs said ds f h
  dumps : e ≡ Nobody → f ≡ Nobody → ds ≡ cs → xs ≡ [] → Silent said → g ≡ Over → h ≡ Over → Moves cs e g xs said ds f h

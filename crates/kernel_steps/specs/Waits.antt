-- Waits, deletions and the killing of buffers, as the code does them.
use Rattle.std.specs.Prelude.{◌≡◌, ℕ, Bool, true, false, List, [], ◌∷◌, ◌++◌, map, Option, Some, None}
use Rattle.std.specs.Prelude.{option_map, Result}
use Rattle.editor_model.specs.Values.{Value, Nil, T, Answered, Fault, Prim}
use Rattle.editor_model.specs.Editor.{Editor, is_live, killed}
use Rattle.editor_model.specs.Answers.{Applied, applied, first_fault}
use Rattle.plain_machine.specs.State.{State, Program, process, Process}
use Rattle.plain_machine.specs.Lines.{Kind, OfFilter, OfSentinel}
use Rattle.plain_machine.specs.Arguments.{runs}
use Rattle.plain_machine.specs.Items.{Item, Config, Enter, Wait, Delete, Target, Waiting}
use Rattle.plain_machine.specs.Refusals.{process_tests, must_be_replaceable, may_ask}
use Rattle.plain_machine.specs.Calls.{waiting}
use Rattle.plain_machine.specs.Run.{given}
use Rattle.editor_model.specs.Arguments.{arg}
use Rattle.wait_loop.specs.KeptWaits.{noted}
use Rattle.wait_loop.specs.Rounds.{Leads}
use Rattle.wait_loop.specs.declared.rounds.Step.TheVariants.{Ask}
use Rattle.ek_types.specs.Property.{number_of}
use Rattle.ek_types.specs.Listing.{items_of}
use Rattle.ek_call.specs.Meaning.{view}
use Rattle.kernel_steps.specs.Outside.{deepest}
use Rattle.kernel_steps.specs.Worlds.{World, Stands}
use Rattle.kernel_steps.specs.Work.{Work, working, at_item, onwards, outwards}
use Rattle.kernel_steps.specs.Handlers.{kind_of}
use Rattle.kernel_steps.specs.declared.kernel.Entry.{Entry}
use Rattle.kernel_steps.specs.declared.kernel.Heard.{Heard}
use Rattle.kernel_steps.specs.declared.stop.Halt.{Halt}

-- ENTRIES
-- what is entered: a filter or a sentinel
abbrev pub IsHeard : Kind → Type 0
IsHeard (OfFilter p) = Unit {0}
IsHeard (OfSentinel p) = Unit {0}
IsHeard _ = ⊥

abbrev pub entry_item : Entry → Item
entry_item e = Enter (kind_of e.kind) (option_map number_of e.handler) (map view (items_of e.args))

-- in front of a rest, if anything is entered
abbrev pub entering : Option Entry → List Item → List Item
entering None rest = rest
entering (Some e) rest = entry_item e ∷ rest

abbrev pub IsHeardIf : Option Entry → Type 0
IsHeardIf None = Unit {0}
IsHeardIf (Some e) = IsHeard (kind_of e.kind)

abbrev pub EntersIf : {A : Type 0} → Result A Halt → Program → Option Entry → (before now : World) → Type 0
EntersIf result program entry before now =
    Work result program before now (λ s rest. working s (entering entry rest)) onwards outwards

-- REFUSALS
-- why a call on hooks and processes is refused
abbrev pub refusal_of : Program → State → Prim → List Value → Option Fault
refusal_of program s prim args = first_fault (process_tests program deepest s prim args)

abbrev pub Passes : Program → State → Prim → List Value → Type 0
Passes program s prim args = refusal_of program s prim args ≡ None

-- WAITS
abbrev pub truth_of : Bool → Value
truth_of true = T
truth_of false = Nil

-- the wait that a call asks for
abbrev pub waiting_of : State → List Value → Waiting
waiting_of s args = waiting s (arg args 0) (arg args 1) (arg args 2)

-- a process that may be asked
pub record IsAsked (s : State) (p : ℕ) : Type 0 where
  pub one : Process
  pub found : process s p ≡ Some one
  pub running : runs one.status ≡ true
  pub may : may_ask s ≡ true

-- the wait asks this process next, and is left like that
abbrev pub AsksNow : (known : State) → (w : Waiting) → (p : ℕ) → (v : Waiting) → Type 0
AsksNow known w p v = (s : State) → Stands known s → Leads s w (Ask p) v

-- one process is asked: what was heard is to be entered
abbrev pub Hears : Result Heard Halt → Program → (p : ℕ) → (v : Waiting) → (before now : World) → Type 0
Hears result program p v before now =
    (w : Waiting) (target : Target) → AsksNow before.state w p v →
    Work result program before now (at_item (Wait w target))
    (λ heard s rest. working s (entering heard.entry (Wait (noted p heard.bytes v) target ∷ rest))) outwards

-- and was entered
abbrev pub AsksIn : {A : Type 0} → Result A Halt → Program → (p : ℕ) → (v v2 : Waiting) →
    (before now : World) → Type 0
AsksIn result program p v v2 before now =
    (w : Waiting) (target : Target) → AsksNow before.state w p v →
    Work result program before now (at_item (Wait w target)) (λ x. at_item (Wait v2 target)) outwards

-- a wait comes to its answer
abbrev pub WaitsOn : {A : Type 0} → Result A Halt → (A → Value) → Program → Waiting →
    (before now : World) → Type 0
WaitsOn result value program w before now =
    (target : Target) → Work result program before now (at_item (Wait w target))
    (λ x s rest. given (Answered (value x)) target s rest) outwards

-- DELETIONS
abbrev pub Kills : Result (Option Entry) Halt → Program → (p : ℕ) → (before now : World) → Type 0
Kills result program p before now =
    Work result program before now (at_item (Delete p))
    (λ entry s rest. working s (entering entry rest)) outwards

abbrev pub deleting : List ℕ → State → List Item → Config
deleting ps s rest = working s (map Delete ps ++ rest)

abbrev pub DeletesAll : {A : Type 0} → Result A Halt → Program → List ℕ → (before now : World) → Type 0
DeletesAll result program ps before now = Work result program before now (deleting ps) onwards outwards

-- a buffer is killed behind the deletions, unless it was meanwhile
abbrev pub killed_by : Editor → (b : ℕ) → Applied
killed_by e b = elim (is_live e b) [
  | true ↦ applied e (must_be_replaceable e b ∷ [])
      (killed b e) T
  | false ↦ record { editor = e; reply = Answered Nil }
]

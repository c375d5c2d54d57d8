-- What a piece of a run's work comes to: the one form of contract of all functions that do an item of the
-- machine.
use Rattle.std.specs.Prelude.{◌≡◌, ℕ, List, [], ◌∷◌, Option, Some, None, Result, Ok, Err}
use Rattle.editor_model.specs.Values.{Value, Reply, Answered, Refused, Fault, Prim, Call, Form, Do}
use Rattle.editor_model.specs.Values.{Setq, Forms, NoForms}
use Rattle.plain_machine.specs.State.{State, Program}
use Rattle.plain_machine.specs.Items.{Item, Top, DoForm, MakeCall, GiveAnswer, Refuse, Finish}
use Rattle.plain_machine.specs.Items.{WriteDump, Target, Nowhere, ToName, Config}
use Rattle.plain_machine.specs.Forms.{dropped, kept_reply}
use Rattle.plain_machine.specs.Handling.{without_hooks_item}
use Rattle.plain_machine.specs.Run.{given}
use Rattle.plain_machine.specs.WholeRuns.{IsBetweenEntries}
use Rattle.ek_types.specs.Io.{HasCause}
use Rattle.ek_call.specs.Faults.{fault_of}
use Rattle.kernel_steps.specs.Outside.{Goes, Breaks}
use Rattle.kernel_steps.specs.Worlds.{World, Stands, Hosted, Keeps, children, running}
use Rattle.kernel_steps.specs.declared.stop.Stop.{Stop}
use Rattle.kernel_steps.specs.declared.stop.Stop.TheVariants as stop
use Rattle.kernel_steps.specs.declared.stop.Halt.{Halt}
use Rattle.kernel_steps.specs.declared.stop.Halt.TheVariants as halt

abbrev pub working : State → List Item → Config
working s work = record { state = s; work = work }

-- the end of the script isn't reached
abbrev pub IsBeforeTheEnd : Config → Type 0
IsBeforeTheEnd c = elim c.work [
  | [] ↦ ⊥
  | item ∷ rest ↦ (elim item [
    | Finish p ↦ ⊥
    | WriteDump ↦ ⊥
    | _ ↦ Unit {0}
  ])
]

-- a run may be broken off here
pub record MayBreak (c : Config) : Type 0 where
  pub between : IsBetweenEntries c
  pub before_end : IsBeforeTheEnd c

-- What stands behind a piece of work: wherever that leaves the machine, a run may be broken off there.
pub record IsBehind (rest : List Item) : Type 0 where
  pub next : (s : State) → MayBreak (working s rest)
  pub replied : (r : Reply) (s : State) → MayBreak (working s (kept_reply r rest))
  pub unhooked : (s : State) → MayBreak (working s (without_hooks_item rest))
  pub faulted : (f : Fault) (s : State) → MayBreak (dropped f rest s)

-- the machine goes on to a configuration whose state the kernel stands for
pub record GoesTo (program : Program) (before now : World) (from : Config) (to : State → Config) : Type 0 where
  pub state : State
  pub stands : Stands now.state state
  pub goes : Goes program before.outside now.outside from (to state)

-- the run is broken off before the script's end, and these children run
pub record BreaksAt (program : Program) (before now : World) (from : Config) (why : Stop) : Type 0 where
  pub breaks : Breaks why program before.outside now.outside from
  pub before_end : IsBeforeTheEnd breaks.last
  pub left : children (running breaks.last.state.processes) ≡ children (running now.state.processes)

-- by the result: the machine goes on by what came of the work, or by a fault, or the run is broken off
abbrev pub Comes : {T : Type 0} → Result T Halt → Program → (before now : World) → (from : Config) →
    (T → State → Config) → (Fault → State → Config) → Type 0
Comes (Ok x) program before now from to thrown = GoesTo program before now from (to x)
Comes (Err (halt.Fault f)) program before now from to thrown =
    GoesTo program before now from (thrown (fault_of f))
Comes (Err (halt.Stop why)) program before now from to thrown = BreaksAt program before now from why

-- a result of work that no fault ends, as one of any work
abbrev pub lifted : {T : Type 0} → Result T Stop → Result T Halt
lifted (Ok x) = Ok x
lifted (Err why) = Err (halt.Stop why)

-- what is so afterwards of children and of nesting
abbrev pub Stays : {T : Type 0} → Result T Halt → (before now : World) → Type 0
Stays (Ok x) before now = Keeps before now
Stays (Err (halt.Fault f)) before now = Keeps before now
Stays (Err (halt.Stop why)) before now = Hosted now.state.processes now.kills

-- From a configuration the machine comes to what the work comes to, in front of every rest of its list.
pub record Path {T : Type 0} (result : Result T Halt) (program : Program) (before now : World)
    (from : State → List Item → Config) (to : T → State → List Item → Config)
    (thrown : Fault → State → List Item → Config) : Type 0 where
  pub comes : (s : State) (rest : List Item) → Stands before.state s → IsBehind rest →
      Comes result program before now (from s rest) (λ x t. to x t rest) (λ f t. thrown f t rest)
  pub cause : HasCause before.outside.sink.faults now.outside.sink.faults
      (result ≡ Err (halt.Stop stop.WriteFault))

-- a piece of work: its path, and what is so afterwards of children and of nesting
pub record Work {T : Type 0} (result : Result T Halt) (program : Program) (before now : World)
    (from : State → List Item → Config) (to : T → State → List Item → Config)
    (thrown : Fault → State → List Item → Config) : Type 0 where
  pub path : Path result program before now from to thrown
  pub stays : Stays result before now

abbrev pub onwards : {T : Type 0} → T → State → List Item → Config
onwards x s rest = working s rest

abbrev pub outwards : Fault → State → List Item → Config
outwards f s rest = dropped f rest s

abbrev pub at_item : Item → State → List Item → Config
at_item item s rest = working s (item ∷ rest)

-- the item is done: what stands behind it is next, or its fault dropped what it drops
abbrev pub Does : {T : Type 0} → Result T Halt → Program → Item → (before now : World) → Type 0
Does result program item before now = Work result program before now (at_item item) onwards outwards

-- a call is made, whatever becomes of its answer
abbrev pub Answers : {T : Type 0} → Result T Halt → (T → Value) → Program → Prim → List Value →
    (before now : World) → Type 0
Answers result value program prim args before now =
    (target : Target) → Work result program before now (at_item (MakeCall prim args target))
    (λ x s rest. given (Answered (value x)) target s rest) outwards

-- the reply of a call is told
abbrev pub reply_item : Reply → Target → Item
reply_item (Answered v) target = GiveAnswer v target
reply_item (Refused f) target = Refuse f

abbrev pub Tells : {T : Type 0} → Result T Halt → (T → Value) → Program → Reply → (before now : World) → Type 0
Tells result value program reply before now =
    (target : Target) → Work result program before now (at_item (reply_item reply target))
    (λ x s rest. given (Answered (value x)) target s rest) outwards

-- the form of a call, whose answer is kept under a name where there is one
abbrev pub call_form : Option ℕ → Call → Form
call_form None c = Do c
call_form (Some name) c = Setq name c

abbrev pub target_of : Option ℕ → Target
target_of None = Nowhere
target_of (Some name) = ToName name

-- a call is made as a form
abbrev pub AnswersForm : {T : Type 0} → Result T Halt → (T → Value) → Program → Call →
    (before now : World) → Type 0
AnswersForm result value program c before now =
    (name : Option ℕ) → Work result program before now (at_item (DoForm (call_form name c)))
    (λ x s rest. given (Answered (value x)) (target_of name) s rest) outwards

-- at the top level nothing stands behind
abbrev pub at_top : Forms → State → List Item → Config
at_top forms s rest = working s (Top forms ∷ [])

-- the forms of the top level are run; a fault ends its form alone
abbrev pub RunsTop : {T : Type 0} → Result T Halt → Program → Forms → (before now : World) → Type 0
RunsTop result program forms before now =
    Work result program before now (at_top forms) (λ x. at_top NoForms) outwards

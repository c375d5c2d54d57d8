-- What an item of the work comes to: one step of the machine, or none where the journal doesn't go on with it.
use Rattle.std.specs.Prelude.{◌≡◌, ◌⊎◌, Bool, true, false, List, [], ◌∷◌, Option, Some, None, Result, Ok, Err}
use Rattle.std.specs.Io.KnownBytes.{Appends}
use Rattle.editor_model.specs.Values.{Fault}
use Rattle.plain_machine.specs.Exchanges.{Ask, Answer, Exchange}
use Rattle.plain_machine.specs.State.{State, Program}
use Rattle.plain_machine.specs.Items.{Item, Next, Asks}
use Rattle.plain_machine.specs.Forms.{dropped}
use Rattle.plain_machine.specs.Step.{step}
use Rattle.plain_machine.specs.Run.{lines, same_ask}
use Rattle.ek_types.specs.Io.{SinkState}
use Rattle.kernel_steps.specs.Outside.{deepest, IsStep}
use Rattle.kernel_steps.specs.Work.{working}
use Rattle.kernel_steps.specs.Worlds.{Stands}
use Rattle.trace_check.specs.declared.turn.Done.{Done}
use Rattle.trace_check.specs.declared.turn.Done.TheVariants as done

-- STEPS
-- The machine's next step asks nothing, or makes the one exchange. It leaves this work, and a state that
-- the kernel stands for, and its line is written.
pub record Moves (program : Program) (s known : State) (work left : List Item) (made : List Exchange)
    (old new : SinkState) : Type 0 where
  pub next : Next
  pub steps : IsStep program (working s work) made next
  pub stands : Stands known next.config.state
  pub left_is : next.config.work ≡ left
  pub written : Appends old.held new.held (lines next.said)

-- in each state that the kernel stood for
abbrev pub Steps : Program → (known known2 : State) → (work left : List Item) → (made : List Exchange) →
    (old new : SinkState) → Type 0
Steps program known known2 work left made old new =
    (s : State) → Stands known s → Moves program s known2 work left made old new

-- it asks nothing, and says what is written
abbrev pub Aloud : Program → (known known2 : State) → (work left : List Item) → (old new : SinkState) → Type 0
Aloud program known known2 work left old new = Steps program known known2 work left [] old new

-- it asks and says nothing
abbrev pub Quietly : Program → (known known2 : State) → (work left : List Item) → Type 0
Quietly program known known2 work left = (sink : SinkState) → Steps program known known2 work left [] sink sink

-- WHERE NO STEP IS MADE
-- the next step asks
abbrev pub IsAsking : Program → State → List Item → Type 0
IsAsking program s work =
    (ask : Ask) × (next : Answer → Option Next) × (step program deepest (working s work) ≡ Asks ask next)

-- it asks something else than this exchange, or may not be answered so
abbrev pub IsOff : Program → State → List Item → Exchange → Type 0
IsOff program s work x = (ask : Ask) × (next : Answer → Option Next) ×
    (step program deepest (working s work) ≡ Asks ask next) ×
    ((same_ask ask x.ask ≡ false) ⊎ (next x.answer ≡ None))

-- nothing was changed
pub record IsSame (known known2 : State) (work left : List Item) (old new : SinkState) : Type 0 where
  pub state : known2 ≡ known
  pub work_is : left ≡ work
  pub sink : new ≡ old

-- WHAT AN ITEM COMES TO, where the journal has this exchange next
abbrev pub Comes : {E : Type 0} → Result Done E → Program → (next : Option Exchange) →
    (known known2 : State) → (work left : List Item) → (old new : SinkState) → Type 0
Comes (Ok done.Alone) program next known known2 work left old new =
    Steps program known known2 work left [] old new
Comes (Ok done.Answered) program next known known2 work left old new =
    (x : Exchange) × (next ≡ Some x) × Steps program known known2 work left (x ∷ []) old new
Comes (Ok done.Waits) program next known known2 work left old new =
    (next ≡ None) × IsSame known known2 work left old new ×
    ((s : State) → Stands known s → IsAsking program s work)
Comes (Ok done.Off) program next known known2 work left old new =
    (x : Exchange) × (next ≡ Some x) × IsSame known known2 work left old new ×
    ((s : State) → Stands known s → IsOff program s work x)
Comes (Err failed) program next known known2 work left old new = Unit {0}

-- an item that says nothing
abbrev pub Unheard : {E : Type 0} → Result Done E → Program → (next : Option Exchange) →
    (known known2 : State) → (work left : List Item) → Type 0
Unheard result program next known known2 work left =
    (sink : SinkState) → Comes result program next known known2 work left sink sink

-- FAULTS
-- a fault drops what it drops
abbrev pub Drops : Fault → (known known2 : State) → (work left : List Item) → Type 0
Drops f known known2 work left =
    (s : State) → Stands known s → (t : State) × Stands known2 t × (dropped f work s ≡ working t left)

-- it drops so much of it first
abbrev pub Sheds : Fault → (known known2 : State) → (work left : List Item) → Type 0
Sheds f known known2 work left =
    (s : State) → Stands known s → (t : State) × Stands known2 t × (dropped f work s ≡ dropped f left t)

-- it ends there, or goes on
abbrev pub DropsBy : (ends : Bool) → Fault → (known known2 : State) → (work left : List Item) → Type 0
DropsBy true f known known2 work left = Drops f known known2 work left
DropsBy false f known known2 work left = Sheds f known known2 work left

-- What a step of the machine comes to.
use Rattle.std.specs.Prelude.{◌≡◌, ℕ, ◌+◌, ◌≤◌, List, [], ◌∷◌, length, slice_get, Some, Result, Ok, Err}
use Rattle.plain_machine.specs.Exchanges.{Exchange}
use Rattle.plain_machine.specs.State.{State, Program}
use Rattle.plain_machine.specs.Items.{Item}
use Rattle.ek_types.specs.Io.{SinkState}
use Rattle.kernel_steps.specs.Worlds.{Stands}
use Rattle.trace_check.specs.Steps.{Steps, IsAsking, IsOff}
use Rattle.trace_check.specs.declared.turn.Turn.{Turn}
use Rattle.trace_check.specs.declared.turn.Turn.TheVariants as turn
use Rattle.trace_check.specs.declared.turn.StepFault.{StepFault}
use Rattle.trace_check.specs.declared.turn.StepFault.TheVariants as fault
use Rattle.trace_check.specs.declared.turn.Done.{Done}
use Rattle.trace_check.specs.declared.turn.Done.TheVariants as done
use Rattle.ek_types.specs.declared.memory.NoMemory.{NoMemory}

-- a machine as it is seen: what the kernel keeps of its state, the work that is left, and how many
-- exchanges are used
pub record Seen : Type 0 where
  pub state : State
  pub work : List Item
  pub used : ℕ

abbrev pub seen : State → List Item → ℕ → Seen
seen s work used = record { state = s; work = work; used = used }

-- these exchanges of the journal are used, one at most
abbrev pub Uses : (journal : List Exchange) → (old new : ℕ) → (made : List Exchange) → Type 0
Uses journal old new [] = new ≡ old
Uses journal old new (x ∷ []) = (slice_get journal old ≡ Some x) × (new ≡ old + 1)
Uses journal old new _ = ⊥

-- One step was made; or the run had ended; or its next step asks and the journal is used up; or the next
-- exchange isn't the one that this step makes. The last three change nothing. Behind a fault the item is
-- lost, its line may stand there in part, and nothing more is said of the machine.
abbrev pub Turns : Result Turn StepFault → Program → (journal : List Exchange) → (old new : Seen) →
    (sink sink2 : SinkState) → Type 0
Turns (Ok turn.Went) program journal old new sink sink2 =
    (made : List Exchange) × Uses journal old.used new.used made ×
    Steps program old.state new.state old.work new.work made sink sink2
Turns (Ok turn.Ended) program journal old new sink sink2 = (old.work ≡ []) × (new ≡ old) × (sink2 ≡ sink)
Turns (Ok turn.Waits) program journal old new sink sink2 =
    (length journal ≤ old.used) × (new ≡ old) × (sink2 ≡ sink) ×
    ((s : State) → Stands old.state s → IsAsking program s old.work)
Turns (Ok turn.Off) program journal old new sink sink2 =
    (x : Exchange) × (slice_get journal old.used ≡ Some x) × (new ≡ old) × (sink2 ≡ sink) ×
    ((s : State) → Stands old.state s → IsOff program s old.work x)
Turns (Err fault) program journal old new sink sink2 = Unit {0}

-- WHAT AN ITEM COMES TO, by the function that does it
abbrev pub alone_by : {T : Type 0} → Result T NoMemory → Result Done StepFault
alone_by (Ok x) = Ok done.Alone
alone_by (Err wanting) = Err fault.NoMemory

abbrev pub told_by : {T : Type 0} → Result T StepFault → Result Done StepFault
told_by (Ok x) = Ok done.Alone
told_by (Err why) = Err why

abbrev pub heard_by : Result Done NoMemory → Result Done StepFault
heard_by (Ok how) = Ok how
heard_by (Err wanting) = Err fault.NoMemory

abbrev pub quiet_by : {T : Type 0} → Result T NoMemory → Result Done NoMemory
quiet_by (Ok x) = Ok done.Alone
quiet_by (Err wanting) = Err wanting

-- Answers of children, taken up in front of other work.
pub use Rattle.kernel_steps.specs.Answers.{may_read, may_end, may_hear, IsAllowed, next_by, HeardIn}
pub use Rattle.kernel_steps.specs.Answers.{HearsAnswer, KilledIn, IsKilled}
use Rattle.std.specs.Prelude.{◌≡◌, ℕ, Bool, true, false, List, codes, Option}
use Rattle.std.specs.Prelude.{Some, None, Result, Ok, Err}
use Rattle.plain_machine.specs.Exchanges.{Answer, Killed, Failed}
use Rattle.plain_machine.specs.State.{State, Process, Signalled, process}
use Rattle.plain_machine.specs.Items.{Item, Target, Waiting, Next}
use Rattle.plain_machine.specs.Calls.{silent}
use Rattle.plain_machine.specs.Waits.{ends}
use Rattle.process_table.specs.Table.{with_table}
use Rattle.kernel_steps.specs.Worlds.{Stands}
use Rattle.trace_check.specs.Waits.{without_first}
use Rattle.trace_check.specs.declared.turn.Done.{Done}
use Rattle.trace_check.specs.declared.turn.Done.TheVariants as done

abbrev pub may_kill : Answer → Bool
may_kill Killed = true
may_kill Failed = true
may_kill _ = false

-- IN FRONT OF OTHER WORK
-- the machine, whose wait asked this process, takes its answer: this work is left
abbrev pub Hears : (known known2 : State) → Waiting → Target → (p : ℕ) → Answer →
    (rest left : List Item) → Type 0
Hears known known2 w target p answer rest left =
    (s : State) (x : Process) → Stands known s → process s p ≡ Some x → (t : State) × Stands known2 t ×
    (next_by x.drained s (without_first (with_table known.processes) w) target rest p x answer ≡
    Some (silent t left))

-- a process was deleted, and this work is left
abbrev pub Deletes : (known known2 : State) → (p : ℕ) → (rest left : List Item) → Type 0
Deletes known known2 p rest left =
    (s : State) (x : Process) → Stands known s → process s p ≡ Some x → (t : State) × Stands known2 t ×
    (ends s p x Signalled (codes "killed\n") rest ≡ silent t left)

-- An answer is taken up, or may not be given: then nothing changed. `go` is what the machine goes on to by it.
abbrev pub TakesUp : {E : Type 0} → Result Done E → (go : State → Option Next) →
    (known known2 : State) → (work left : List Item) → Type 0
TakesUp (Ok done.Answered) go known known2 work left =
    (s : State) → Stands known s → (t : State) × Stands known2 t × (go s ≡ Some (silent t left))
TakesUp (Ok done.Off) go known known2 work left =
    (known2 ≡ known) × (left ≡ work) × ((s : State) → Stands known s → go s ≡ None)
TakesUp (Ok done.Alone) go known known2 work left = ⊥
TakesUp (Ok done.Waits) go known known2 work left = ⊥
TakesUp (Err wanting) go known known2 work left = Unit {0}

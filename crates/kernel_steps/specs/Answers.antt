-- Answers of children that are told, and what the machine comes to by them.
use Rattle.std.specs.Prelude.{◌≡◌, ℕ, ◌∷◌, ◌&&◌, nat_le, Bool, true, false, List, length, codes, Option, Some}
use Rattle.plain_machine.specs.Exchanges.{Answer, Bytes, Nothing, End, Code, Signal, Running, Failed, most_read}
use Rattle.plain_machine.specs.State.{State, Process, Signalled, process}
use Rattle.plain_machine.specs.Items.{Item, Wait, Target, Waiting, Next}
use Rattle.plain_machine.specs.Calls.{silent}
use Rattle.plain_machine.specs.Waits.{read_answer, end_answer, ends}
use Rattle.wait_loop.specs.KeptWaits.{noted}
use Rattle.kernel_steps.specs.Worlds.{Stands}
use Rattle.kernel_steps.specs.Waits.{entering, entry_item}
use Rattle.kernel_steps.specs.declared.kernel.Entry.{Entry}
use Rattle.kernel_steps.specs.declared.kernel.Heard.{Heard}

-- WHICH ANSWERS ARE ALLOWED
-- a read gives 1 to `most_read` bytes
abbrev pub may_read : Answer → Bool
may_read (Bytes bytes) = nat_le 1 (length bytes) && nat_le (length bytes) most_read
may_read Nothing = true
may_read End = true
may_read Failed = true
may_read _ = false

abbrev pub may_end : Answer → Bool
may_end (Code n) = true
may_end Signal = true
may_end Running = true
may_end Failed = true
may_end _ = false

-- a process answers about its output first, and about its end once that has ended
abbrev pub may_hear : (drained : Bool) → Answer → Bool
may_hear false answer = may_read answer
may_hear true answer = may_end answer

abbrev pub IsAllowed : State → (p : ℕ) → Answer → Type 0
IsAllowed s p answer = (x : Process) × (process s p ≡ Some x) × (may_hear x.drained answer ≡ true)

-- WHAT THEY LEAD TO
abbrev pub next_by : (drained : Bool) → State → Waiting → Target → List Item → (p : ℕ) → Process →
    Answer → Option Next
next_by false s w target rest p x answer = read_answer s w target rest p x answer
next_by true s w target rest p x answer = end_answer s w target rest p x answer

-- the machine takes an answer of a process, whatever wait asked it: this is entered, and the kernel stands
-- for the state behind it
pub record HeardIn (s : State) (p : ℕ) (x : Process) (answer : Answer) (known : State)
    (heard : Heard) : Type 0 where
  pub now : State
  pub stands : Stands known now
  pub goes : (w : Waiting) (target : Target) (rest : List Item) →
      next_by x.drained s w target rest p x answer ≡
      Some (silent now (entering heard.entry (Wait (noted p heard.bytes w) target ∷ rest)))

abbrev pub HearsAnswer : (old new : State) → (p : ℕ) → Answer → Heard → Type 0
HearsAnswer old new p answer heard =
    (s : State) (x : Process) → Stands old s → process s p ≡ Some x → HeardIn s p x answer new heard

-- a process that runs was killed
pub record KilledIn (s : State) (p : ℕ) (x : Process) (known : State) (entry : Entry) : Type 0 where
  pub now : State
  pub stands : Stands known now
  pub goes : (rest : List Item) → ends s p x Signalled (codes "killed\n") rest ≡
      silent now (entry_item entry ∷ rest)

abbrev pub IsKilled : (old new : State) → (p : ℕ) → Entry → Type 0
IsKilled old new p entry =
    (s : State) (x : Process) → Stands old s → process s p ≡ Some x → KilledIn s p x new entry

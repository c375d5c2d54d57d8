-- One question to a child and its answer, on the host and in the machine; or an answer that was told.
use Rattle.std.specs.Prelude.{◌≡◌, ◌≢◌, ℕ, Bool, true, false, List, [], slice_set, ◌⊎◌, Some}
use Rattle.plain_machine.specs.Exchanges.{Ask, Answer, Bytes, Read, AskEnd, Kill, most_read}
use Rattle.plain_machine.specs.State.{State, Process, Signalled, process}
use Rattle.plain_machine.specs.Arguments.{child_of, runs}
use Rattle.process_table.specs.Table.{StandsFor, with_table, with_status, changed}
use Rattle.host_link.specs.Hosts.{HostState, Exchanged, ended_answer, kill_answer}
use Rattle.host_link.specs.Played.{read_as, end_as}
use Rattle.host_link.specs.declared.host.Ended.{Ended}
use Rattle.host_link.specs.declared.host.KillAnswer.{KillAnswer}
use Rattle.handler_run.specs.Answers.{Reads, Ends, Deletes, gave_bytes}
use Rattle.handler_run.specs.declared.entry.Entry.{Entry}
use Rattle.handler_run.specs.declared.entry.Entry.TheVariants as entry
use Rattle.handler_run.specs.declared.asking.Heard.{Heard}

-- a change of one process that leaves its child as it is, or ends it
pub record Touches (p : ℕ) (old new : List Process) : Type 0 where
  pub change : Process → Process
  pub same : new ≡ changed p change old
  pub child : (x : Process) → (change x).child ≡ x.child
  pub ends : (x : Process) → runs (change x).status ≡ true → runs x.status ≡ true

-- the table is as it was, or one process was touched
abbrev pub TouchesIf : (p : ℕ) → (old new : List Process) → Type 0
TouchesIf p old new = (new ≡ old) ⊎ Touches p old new

-- ANSWERS
-- a process answered a read: whether it gave bytes, what becomes of the table, and what the machine takes
pub record TakesOutput (old new : List Process) (p : ℕ) (answer : Answer) (heard : Heard) : Type 0 where
  pub bytes : heard.bytes ≡ gave_bytes answer
  pub touches : TouchesIf p old new
  pub machine : (s : State) (x : Process) → StandsFor old s.processes → process s p ≡ Some x →
      x.drained ≡ false → Reads s p x answer new heard.entry

-- it answered how it has ended
pub record TakesEnd (old new : List Process) (p : ℕ) (how : Ended) (heard : Heard) : Type 0 where
  pub bytes : heard.bytes ≡ false
  pub touches : TouchesIf p old new
  pub machine : (s : State) (x : Process) → StandsFor old s.processes → process s p ≡ Some x →
      Ends s p x how new heard.entry

-- it was killed, and has ended by that
pub record TakesKill (old new : List Process) (p : ℕ) (e : Entry) : Type 0 where
  pub table : new ≡ changed p (with_status Signalled) old
  pub entered : e ≢ entry.None
  pub machine : (s : State) (x : Process) → StandsFor old s.processes → process s p ≡ Some x →
      Deletes s p x new e

-- QUESTIONS TO A HOST
-- a read of its output
pub record HearsOutput {H : Type 0} (state : H → HostState) (made : H → H → Ask → ℕ → Answer → Type 0)
    (host host' : H) (old new : List Process) (p : ℕ) (heard : Heard) : Type 0 where
  pub answer : Answer
  pub called : made host host' (Read (child_of (with_table old) p)) most_read answer
  pub exchanged : Exchanged (state host) (state host') (state host).kills
      (Read (child_of (with_table old) p)) answer
  pub takes : TakesOutput old new p answer heard

-- the question how it has ended
pub record HearsEnd {H : Type 0} (state : H → HostState) (made : H → H → Ask → ℕ → Answer → Type 0)
    (host host' : H) (old new : List Process) (p : ℕ) (heard : Heard) : Type 0 where
  pub how : Ended
  pub called : made host host' (AskEnd (child_of (with_table old) p)) 0 (ended_answer how)
  pub exchanged : Exchanged (state host) (state host') (state host).kills
      (AskEnd (child_of (with_table old) p)) (ended_answer how)
  pub takes : TakesEnd old new p how heard

-- by whether its output had ended
pub record Hears {H : Type 0} (state : H → HostState) (made : H → H → Ask → ℕ → Answer → Type 0)
    (host host' : H) (old new : List Process) (p : ℕ) (heard : Heard) : Type 0 where
  pub one : Process
  pub found : process (with_table old) p ≡ Some one
  pub answered : ((one.drained ≡ false) × HearsOutput state made host host' old new p heard) ⊎
      ((one.drained ≡ true) × HearsEnd state made host host' old new p heard)

-- it was asked to be killed
pub record Kills {H : Type 0} (state : H → HostState) (made : H → H → Ask → ℕ → Answer → Type 0)
    (host host' : H) (old new : List Process) (p : ℕ) (entry : Entry) : Type 0 where
  pub how : KillAnswer
  pub called : made host host' (Kill (child_of (with_table old) p)) 0 (kill_answer how)
  pub exchanged : Exchanged (state host) (state host')
      (slice_set (state host).kills (child_of (with_table old) p) true)
      (Kill (child_of (with_table old) p)) (kill_answer how)
  pub takes : TakesKill old new p entry

-- ANSWERS THAT WERE TOLD
-- a process may answer so: to a read, and once its output has ended, about its end
abbrev pub MayAnswer : (drained : Bool) → Answer → Type 0
MayAnswer false answer = read_as most_read answer ≡ answer
MayAnswer true answer = end_as answer ≡ answer

abbrev pub MayBeTold : List Process → (p : ℕ) → Answer → Type 0
MayBeTold table p answer = (x : Process) → process (with_table table) p ≡ Some x → MayAnswer x.drained answer

-- the bytes of an answer
abbrev pub bytes_in : Answer → List ℕ
bytes_in (Bytes bytes) = bytes
bytes_in _ = []

-- an answer about the end is taken
pub record TakesToldEnd (old new : List Process) (p : ℕ) (answer : Answer) (heard : Heard) : Type 0 where
  pub how : Ended
  pub same : ended_answer how ≡ answer
  pub takes : TakesEnd old new p how heard

-- an answer is taken, by whether the output had ended
pub record TakesAnswer (old new : List Process) (p : ℕ) (answer : Answer) (heard : Heard) : Type 0 where
  pub one : Process
  pub found : process (with_table old) p ≡ Some one
  pub taken : ((one.drained ≡ false) × TakesOutput old new p answer heard) ⊎
      ((one.drained ≡ true) × TakesToldEnd old new p answer heard)

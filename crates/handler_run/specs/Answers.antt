-- Answers of a process: what they need, what they change in the table, and what the machine comes to by them.
use Rattle.std.specs.Prelude.{◌≡◌, ℕ, ◌+◌, ◌≤◌, Bool, true, false, List, [], ◌∷◌, ◌++◌, length, codes}
use Rattle.std.specs.Prelude.{Option, Some, None}
use Rattle.text_model.specs.Characters.{Ch}
use Rattle.text_model.specs.Codings.{Coding, decoded, undecoded, all_decoded}
use Rattle.plain_machine.specs.Exchanges.{Answer, Bytes, most_read}
use Rattle.plain_machine.specs.State.{State, Process, Status, Exited, Signalled, Lost}
use Rattle.plain_machine.specs.Items.{Item, Wait, Waiting, Target}
use Rattle.plain_machine.specs.Calls.{silent}
use Rattle.plain_machine.specs.Waits.{entry_of, read_answer, end_answer, ends, exit_text}
use Rattle.process_table.specs.Table.{StandsFor, changed, coding_by, held_by, with_held, with_drained}
use Rattle.process_table.specs.Table.{with_status}
use Rattle.wait_loop.specs.KeptWaits.{noted}
use Rattle.host_link.specs.Hosts.{ended_answer}
use Rattle.host_link.specs.declared.host.Got.{Got}
use Rattle.host_link.specs.declared.host.Got.TheVariants as got
use Rattle.host_link.specs.declared.host.Ended.{Ended}
use Rattle.host_link.specs.declared.host.Ended.TheVariants as ended
use Rattle.handler_run.specs.declared.entry.Entry.{Entry}
use Rattle.handler_run.specs.Entries.{entering}

-- ROOM
-- the most bytes that a decoder holds
abbrev pub most_held : ℕ
most_held = 3

-- the most characters that a sentinel is told: those of the smallest exit code
abbrev pub longest_told : ℕ
longest_told = 40

-- READS
-- the bytes are those that an answer gave, and else none
abbrev pub IsRead : Got → (bytes : List ℕ) → Type 0
IsRead (got.Bytes n) bytes = (length bytes ≡ n) × (1 ≤ n) × (n ≤ most_read)
IsRead _ bytes = bytes ≡ []

-- the characters that come out, by the coding and the bytes that were held
abbrev pub heard_of : Coding → Got → (bytes held : List ℕ) → List Ch
heard_of c (got.Bytes n) bytes held = decoded c (held ++ bytes)
heard_of c got.Nothing bytes held = []
heard_of c got.End bytes held = all_decoded c held
heard_of c got.Failed bytes held = all_decoded c held

-- the table behind a read
abbrev pub after_read : (p : ℕ) → Got → (bytes : List ℕ) → List Process → List Process
after_read p (got.Bytes n) bytes table =
    changed p (with_held (undecoded (coding_by table p) (held_by table p ++ bytes))) table
after_read p got.Nothing bytes table = table
after_read p got.End bytes table = changed p with_drained table
after_read p got.Failed bytes table = changed p with_drained table

abbrev pub gave_bytes : Answer → Bool
gave_bytes (Bytes bytes) = true
gave_bytes _ = false

-- The machine takes an answer to a read. Behind it these characters came out, the table stands for the
-- machine's processes, and beside them one exchange more was made.
pub record Takes (s : State) (p : ℕ) (x : Process) (answer : Answer) (table : List Process)
    (text : List Ch) : Type 0 where
  pub now : State
  pub stands : StandsFor table now.processes
  pub apart : now ≡ record s { processes = now.processes; asked = s.asked + 1 }
  pub goes : (w : Waiting) (target : Target) (rest : List Item) →
      read_answer s w target rest p x answer ≡
      Some (silent now (entry_of s p x text (Wait (noted p (gave_bytes answer) w) target ∷ rest)))

-- and this is entered
pub record Reads (s : State) (p : ℕ) (x : Process) (answer : Answer) (table : List Process)
    (entry : Entry) : Type 0 where
  pub now : State
  pub stands : StandsFor table now.processes
  pub apart : now ≡ record s { processes = now.processes; asked = s.asked + 1 }
  pub goes : (w : Waiting) (target : Target) (rest : List Item) →
      read_answer s w target rest p x answer ≡
      Some (silent now (entering p entry (Wait (noted p (gave_bytes answer) w) target ∷ rest)))

-- ENDS
-- what a sentinel is told
abbrev pub told_of : Ended → List ℕ
told_of (ended.Code n) = exit_text n
told_of ended.Signal = codes "killed\n"
told_of ended.Failed = codes "failed\n"
told_of ended.Running = []

-- the status that a process has come to
abbrev pub came_to : Ended → Option Status
came_to (ended.Code n) = Some (Exited n)
came_to ended.Signal = Some Signalled
came_to ended.Failed = Some Lost
came_to ended.Running = None

-- the table behind an end
abbrev pub after_end : (p : ℕ) → Ended → List Process → List Process
after_end p how table = elim (came_to how) [ Some status ↦ changed p (with_status status) table | None ↦ table ]

-- the machine takes an answer about the end
pub record Ends (s : State) (p : ℕ) (x : Process) (how : Ended) (table : List Process)
    (entry : Entry) : Type 0 where
  pub now : State
  pub stands : StandsFor table now.processes
  pub apart : now ≡ record s { processes = now.processes; asked = s.asked + 1 }
  pub goes : (w : Waiting) (target : Target) (rest : List Item) →
      end_answer s w target rest p x (ended_answer how) ≡
      Some (silent now (entering p entry (Wait w target ∷ rest)))

-- the machine ends a process that was killed
pub record Deletes (s : State) (p : ℕ) (x : Process) (table : List Process) (entry : Entry) : Type 0 where
  pub now : State
  pub stands : StandsFor table now.processes
  pub apart : now ≡ record s { processes = now.processes }
  pub goes : (rest : List Item) → ends s p x Signalled (codes "killed\n") rest ≡
      silent now (entering p entry rest)

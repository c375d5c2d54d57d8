-- A table of processes beside the machine's list of them.
use Rattle.std.specs.Prelude.{◌≡◌, ℕ, Bool, true, false, List, [], map, slice_get, if◌then◌else◌}
use Rattle.std.specs.Prelude.{Option, Some, None, option_map}
use Rattle.text_model.specs.Codings.{Coding, Utf8, undecoded}
use Rattle.editor_model.specs.Editor.{Name}
use Rattle.plain_machine.specs.State.{State, Process, Status, Runs, Default, new_state, change_process}
use Rattle.plain_machine.specs.State.{read_so_far}
use Rattle.plain_machine.specs.Arguments.{find_process}

-- Of all bytes read the program keeps those that the next bytes may still change, until the output has ended.
abbrev pub kept_bytes : (drained : Bool) → Coding → List ℕ → List ℕ
kept_bytes drained coding bytes = if drained then [] else undecoded coding bytes

-- a process as the program keeps it
abbrev pub kept : Process → Process
kept x = record x { bytes = option_map (kept_bytes x.drained x.coding) x.bytes }

-- the table holds the processes of the machine
abbrev pub StandsFor : (table all : List Process) → Type 0
StandsFor table all = table ≡ map kept all

-- Each listed process is found under its name, so no other listed one has this name.
abbrev pub NamesDiffer : List Process → Type 0
NamesDiffer table =
    (p : ℕ) (x : Process) → slice_get table p ≡ Some x → x.listed ≡ true → find_process 0 table x.name ≡ Some p

-- a state of the machine with these processes
abbrev pub with_table : List Process → State
with_table table = record new_state { processes = table }

-- the machine's change of one process
abbrev pub changed : (p : ℕ) → (Process → Process) → List Process → List Process
changed p change table = (change_process p change (with_table table)).processes

-- a process that just started
abbrev pub new_process : Name → (child : ℕ) → (buffer : Option ℕ) → (mark : ℕ) → Process
new_process name child buffer mark =
    record {
      name = name;
      child = child;
      status = Runs;
      buffer = buffer;
      mark = mark;
      filter = Default;
      sentinel = None;
      coding = Utf8;
      bytes = None;
      drained = false;
      closed = false;
      listed = true;
    }

-- room for a process more, of this name, in a table of at most so many
pub record Room : Type 0 where
  pub name : Name
  pub processes : ℕ

-- how a process is decoded, and the bytes that its decoder holds
abbrev pub coding_by : List Process → (p : ℕ) → Coding
coding_by table p = elim (slice_get table p) [ None ↦ Utf8 | Some x ↦ x.coding ]

abbrev pub held_by : List Process → (p : ℕ) → List ℕ
held_by table p = elim (slice_get table p) [ None ↦ [] | Some x ↦ read_so_far x ]

abbrev pub with_status : Status → Process → Process
with_status status x = record x { status = status }

abbrev pub with_held : List ℕ → Process → Process
with_held bytes x = record x { bytes = Some bytes }

abbrev pub with_drained : Process → Process
with_drained x = record x { bytes = option_map (λ b. []) x.bytes; drained = true }

-- Bytes that are no script.
use Rattle.std.specs.Prelude.{◌≡◌, ℕ, ◌+◌, ◌<◌, ◌≤◌, List, length}
use Rattle.std.specs.Io.KnownBytes.{Consumes}
use Rattle.editor_model.specs.Values.{Script}
use Rattle.plain_machine.specs.Grammar.{longest_script, IsScript, IsFaultLine}
use Rattle.ek_types.specs.Io.{SourceState}
use Rattle.kernel_top.specs.declared.status.Status.{Status}
use Rattle.kernel_top.specs.declared.status.Status.TheVariants as status

-- these bytes are no script, and this is the line of the fault
pub record IsNoScript (bytes : List ℕ) (line : ℕ) : Type 0 where
  pub none : (script : Script) → IsScript bytes script → ⊥
  pub at : IsFaultLine bytes line

-- the bytes are no script, or memory was wanting
abbrev pub TellsNoScript : Status → (bytes : List ℕ) → Type 0
TellsNoScript (status.Script line) bytes = IsNoScript bytes line
TellsNoScript status.NoMemory bytes = Unit {0}
TellsNoScript _ bytes = ⊥

-- the source wasn't read to its end: it failed, memory was wanting, or it has more bytes than a script may have
abbrev pub IsUnreadScript : Status → (read : List ℕ) → Type 0
IsUnreadScript (status.Script line) read = (line ≡ 0) × (longest_script < length read)
IsUnreadScript status.ReadFault read = Unit {0}
IsUnreadScript status.NoMemory read = Unit {0}
IsUnreadScript _ read = ⊥

-- bytes were read that aren't those of a script, or not all of them
pub record LeavesScriptUnread (answer : Status) (source source' : SourceState) : Type 0 where
  pub read : List ℕ
  pub taken : Consumes source.left source'.left read
  pub few : length read ≤ longest_script + 1
  pub unread : IsUnreadScript answer read

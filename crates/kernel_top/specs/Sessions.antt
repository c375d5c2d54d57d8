-- The session of a run, and what became of it: the exchanges of the run as a journal, and behind it the
-- bytes of the script.
use Rattle.std.specs.Prelude.{◌≡◌, ℕ, ◌<◌, ◌≤◌, nat_le, Bool, List, [], length}
use Rattle.editor_model.specs.Values.{Script}
use Rattle.plain_machine.specs.Exchanges.{Exchange}
use Rattle.plain_machine.specs.State.{Program}
use Rattle.ek_types.specs.Io.{SinkState}
use Rattle.journal_text.specs.Lines.{session, longest_session}
use Rattle.journal_text.specs.Allowed.{AreLines}
use Rattle.kernel_top.specs.Unseen.{IsWhole, IsBrokenOff}
use Rattle.kernel_top.specs.Writing.{IsWhollyWritten, IsFrontWritten}
use Rattle.kernel_top.specs.declared.status.Status.{Status}
use Rattle.kernel_top.specs.declared.status.Status.TheVariants as status

abbrev pub fits : List ℕ → Bool
fits bytes = nat_le (length bytes) longest_session

-- the session isn't too long, and was written whole
pub record IsWritten (bytes written : List ℕ) (before now : SinkState) : Type 0 where
  pub short : length bytes ≤ longest_session
  pub whole : IsWhollyWritten bytes written before now

-- the session isn't too long, and a front of it was written
pub record IsCut (bytes written : List ℕ) (before : SinkState) : Type 0 where
  pub short : length bytes ≤ longest_session
  pub part : IsFrontWritten bytes written before

-- the session is too long, and nothing was written
pub record IsTooLong (bytes written : List ℕ) (before now : SinkState) : Type 0 where
  pub long : longest_session < length bytes
  pub nothing : written ≡ []
  pub same : now ≡ before

-- what became of a session
abbrev pub Written : Status → (bytes written : List ℕ) → (before now : SinkState) → Type 0
Written status.Done bytes written before now = IsWritten bytes written before now
Written status.WriteFault bytes written before now = IsCut bytes written before
Written status.JournalFull bytes written before now = IsTooLong bytes written before now
Written _ bytes written before now = ⊥

-- The script was run to its end over just these exchanges, and this became of its session. Each exchange
-- has a line, and children are numbered in order behind those that were started before.
pub record Records (answer : Status) (program : Program) (script : Script) (read written : List ℕ)
    (exchanges : List Exchange) (children : List Bool) (before now : SinkState) : Type 0 where
  pub whole : IsWhole program script exchanges
  pub lines : AreLines (length children) exchanges
  pub session : Written answer (session exchanges read) written before now

-- the run of the script was broken off for want of memory, and nothing was written
pub record BreaksOffUnseen (program : Program) (script : Script) (written : List ℕ)
    (exchanges : List Exchange) (before now : SinkState) : Type 0 where
  pub broken : IsBrokenOff program script exchanges
  pub nothing : written ≡ []
  pub same : now ≡ before

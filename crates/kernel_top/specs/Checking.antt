-- What a check comes to: claimed lines beside those of the machine's run of a script on the exchanges of a
-- journal.
pub use Rattle.trace_check.specs.Verdicts.{IsClaimed, DiffersIn}
use Rattle.std.specs.Prelude.{◌≡◌, ℕ, List, codes}
use Rattle.editor_model.specs.Values.{Script}
use Rattle.plain_machine.specs.Exchanges.{Exchange}
use Rattle.plain_machine.specs.State.{Program}
use Rattle.plain_machine.specs.Grammar.{IsScript}
use Rattle.ek_types.specs.Io.{SinkState}
use Rattle.journal_text.specs.Lines.{transcript}
use Rattle.journal_text.specs.Allowed.{IsJournal}
use Rattle.journal_text.specs.Transcripts.{HasNoTranscript, IsTranscriptFault}
use Rattle.kernel_top.specs.Scripts.{IsNoScript}
use Rattle.kernel_top.specs.Writing.{IsWhollyWritten, IsFrontWritten}
use Rattle.kernel_top.specs.Replaying.{Strays, IsUnwritten}
use Rattle.kernel_top.specs.declared.status.Status.{Status}
use Rattle.kernel_top.specs.declared.status.Status.TheVariants as status

-- VERDICTS on claimed lines, as statuses
abbrev pub Judged : Status → Program → Script → (journal : List Exchange) → (claimed : List ℕ) → Type 0
Judged status.Done program script journal claimed = IsClaimed program script journal claimed
Judged (status.Differs line) program script journal claimed = DiffersIn program script journal claimed line
Judged (status.Strayed most) program script journal claimed = Strays program script journal most
Judged status.NoMemory program script journal claimed = Unit {0}
Judged _ program script journal claimed = ⊥

-- TRANSCRIPTS
-- the bytes read are the transcript of a journal, claimed lines and some bytes, and this is so of them
pub record OfTranscript (read : List ℕ) (So : List Exchange → (claimed bytes : List ℕ) → Type 0) : Type 0 where
  pub journal : List Exchange
  pub claimed : List ℕ
  pub bytes : List ℕ
  pub lines : IsJournal journal
  pub is : read ≡ transcript journal claimed bytes
  pub so : So journal claimed bytes

-- its bytes are a script, and this is so of the journal, the claimed lines and the script
abbrev pub OfCheck : (read : List ℕ) → (So : List Exchange → (claimed : List ℕ) → Script → Type 0) → Type 0
OfCheck read So =
    OfTranscript read (λ journal claimed bytes. (script : Script) × IsScript bytes script ×
    So journal claimed script)

-- the bytes are no transcript, and this is the line of the fault
pub record IsNoTranscript (read : List ℕ) (line : ℕ) : Type 0 where
  pub none : HasNoTranscript read
  pub at : IsTranscriptFault read line

-- the verdict on bytes
abbrev pub Checked : (Script → Program) → Status → (read : List ℕ) → Type 0
Checked program (status.Journal line) read = IsNoTranscript read line
Checked program (status.Script line) read = OfTranscript read (λ journal claimed bytes. IsNoScript bytes line)
Checked program status.NoMemory read = Unit {0}
Checked program answer read =
    OfCheck read (λ journal claimed script. Judged answer (program script) script journal claimed)

-- WHAT IS WRITTEN: one line where the verdict is yes, and else nothing
abbrev pub yes : List ℕ
yes = codes "yes\n"

abbrev pub Told : (Script → Program) → Status → (read written : List ℕ) → (before now : SinkState) → Type 0
Told program status.Done read written before now =
    Checked program status.Done read × IsWhollyWritten yes written before now
Told program status.WriteFault read written before now =
    Checked program status.Done read × IsFrontWritten yes written before
Told program answer read written before now = IsUnwritten written before now × Checked program answer read

-- What a replay comes to: the machine's run of a script on the exchanges of a journal.
pub use Rattle.trace_check.specs.Runs.{GoesThrough, Strays}
use Rattle.std.specs.Prelude.{◌≡◌, ℕ, ◌+◌, ◌≤◌, ◌<◌, ◌⊎◌, List, [], ◌++◌, length, Result, Ok, Err}
use Rattle.text_model.specs.Fronts.{IsPrefixOf}
use Rattle.editor_model.specs.Values.{Script}
use Rattle.plain_machine.specs.Exchanges.{Exchange}
use Rattle.plain_machine.specs.State.{Program}
use Rattle.plain_machine.specs.Run.{lines}
use Rattle.plain_machine.specs.Grammar.{IsScript}
use Rattle.std.specs.Io.KnownBytes.{Consumes, Appends}
use Rattle.ek_types.specs.Io.{SourceState, SinkState}
use Rattle.journal_text.specs.Lines.{session, longest_session}
use Rattle.journal_text.specs.Allowed.{IsJournal}
use Rattle.journal_text.specs.Journals as journals
use Rattle.kernel_steps.specs.Outcomes.{RanScript}
use Rattle.kernel_top.specs.Reading.{HasEnded}
use Rattle.kernel_top.specs.Scripts.{IsNoScript}
use Rattle.kernel_top.specs.Unseen.{IsWhole}
use Rattle.kernel_top.specs.declared.status.Status.{Status}
use Rattle.kernel_top.specs.declared.status.Status.TheVariants as status

-- RUNS ON A JOURNAL
-- a front of the lines of the whole run was written, and the sink hasn't failed where it had room for them all
pub record CutsLines (program : Program) (script : Script) (journal : List Exchange) (written : List ℕ)
    (before now : SinkState) : Type 0 where
  pub whole : IsWhole program script journal
  pub front : IsPrefixOf written whole.lines
  pub roomy : length whole.lines ≤ before.room → now.faults ≡ before.faults

-- Memory was wanting in the run, behind a front of the journal. All that it had said was written, so whole
-- lines.
pub record StopsBetweenLines (program : Program) (script : Script) (journal : List Exchange)
    (written : List ℕ) (before now : SinkState) : Type 0 where
  pub made : List Exchange
  pub others : List Exchange
  pub in_order : journal ≡ made ++ others
  pub goes : GoesThrough program script made
  pub all_said : written ≡ lines goes.said
  pub cut : CutsLines program script journal written before now

-- SESSIONS
-- the bytes read are the session of a journal and some bytes, and this is so of them
pub record OfSession (read : List ℕ) (So : List Exchange → (bytes : List ℕ) → Type 0) : Type 0 where
  pub journal : List Exchange
  pub bytes : List ℕ
  pub lines : IsJournal journal
  pub is : read ≡ session journal bytes
  pub so : So journal bytes

-- the bytes of the session are a script, and this is so of the journal and of it
abbrev pub OfReplay : (read : List ℕ) → (So : List Exchange → Script → Type 0) → Type 0
OfReplay read So =
    OfSession read (λ journal bytes. (script : Script) × IsScript bytes script × So journal script)

-- no front of the bytes is a journal with its last line, and this is the line of the fault
pub record IsNoSession (read : List ℕ) (line : ℕ) : Type 0 where
  pub none : journals.HasNoJournal read
  pub at : journals.IsFaultLine read line

-- nothing was written
abbrev pub IsUnwritten : (written : List ℕ) → (before now : SinkState) → Type 0
IsUnwritten written before now = (written ≡ []) × (now ≡ before)

-- what a replay of a script over a journal came to, by its status
abbrev pub ReplayedOn :
    Program → Status → Script → (journal : List Exchange) → (written : List ℕ) →
    (before now : SinkState) → Type 0
ReplayedOn program status.Done script journal written before now =
    RanScript program script journal written before now
ReplayedOn program status.WriteFault script journal written before now =
    CutsLines program script journal written before now
ReplayedOn program status.NoMemory script journal written before now =
    IsUnwritten written before now ⊎ StopsBetweenLines program script journal written before now
ReplayedOn program (status.Strayed most) script journal written before now =
    IsUnwritten written before now × Strays program script journal most
ReplayedOn program _ script journal written before now = ⊥

-- what a replay of these bytes came to, by its status
abbrev pub Replayed : (Script → Program) → Status → (read written : List ℕ) → (before now : SinkState) → Type 0
Replayed program status.NoMemory read written before now =
    IsUnwritten written before now ⊎
    OfReplay read (λ journal script. StopsBetweenLines (program script) script journal written before now)
Replayed program (status.Journal line) read written before now =
    IsUnwritten written before now × IsNoSession read line
Replayed program (status.Script line) read written before now =
    IsUnwritten written before now × OfSession read (λ journal bytes. IsNoScript bytes line)
Replayed program answer read written before now =
    OfReplay read (λ journal script. ReplayedOn (program script) answer script journal written before now)

-- the source wasn't read to its end: it failed, memory was wanting, or it has more bytes than a session may
-- have
abbrev pub IsUnreadSession : Status → (read : List ℕ) → Type 0
IsUnreadSession status.ReadFault read = Unit {0}
IsUnreadSession status.NoMemory read = Unit {0}
IsUnreadSession (status.Journal line) read = (line ≡ 0) × (longest_session < length read)
IsUnreadSession _ read = ⊥

-- SOURCES
-- what became of the bytes read from a source, which has ended or was given up: this is so of them, or they
-- weren't had
abbrev pub ReadAnd :
    (So : Status → (read written : List ℕ) → (before now : SinkState) → Type 0) →
    Status → (read written : List ℕ) → (Ended : Type 0) → (before now : SinkState) → Type 0
ReadAnd So answer read written Ended before now =
    (Ended × (length read ≤ longest_session) × So answer read written before now) ⊎
    (IsUnwritten written before now × IsUnreadSession answer read)

-- what the session or the transcript that a source holds came to
pub record SourceSettled (So : Status → (read written : List ℕ) → (before now : SinkState) → Type 0)
    (answer : Status) (source source' : SourceState) (sink sink' : SinkState) : Type 0 where
  pub read : List ℕ
  pub written : List ℕ
  pub taken : Consumes source.left source'.left read
  pub few : length read ≤ longest_session + 1
  pub put : Appends sink.held sink'.held written
  pub so : ReadAnd So answer read written (HasEnded source.left source'.left) sink sink'

-- bytes were read that aren't those of a session or a transcript, or not all of them
pub record LeavesSessionUnread (answer : Status) (source source' : SourceState) : Type 0 where
  pub read : List ℕ
  pub taken : Consumes source.left source'.left read
  pub few : length read ≤ longest_session + 1
  pub unread : IsUnreadSession answer read

-- how the first run over a journal ended, whose lines are thrown away
abbrev pub Followed : Result (Unit {0}) Status → Program → Script → (journal : List Exchange) → Type 0
Followed (Ok x) program script journal = IsWhole program script journal
Followed (Err status.NoMemory) program script journal = Unit {0}
Followed (Err (status.Strayed most)) program script journal = Strays program script journal most
Followed (Err _) program script journal = ⊥

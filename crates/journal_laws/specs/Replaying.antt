-- What follows of a session's bytes: how it is read, and what its replay writes.
use Rattle.std.specs.Prelude.{◌≡◌, ℕ, List}
use Rattle.editor_model.specs.Values.{Script}
use Rattle.plain_machine.specs.Exchanges.{Exchange}
use Rattle.plain_machine.specs.State.{Program}
use Rattle.plain_machine.specs.Grammar.{IsScript}
use Rattle.plain_machine.specs.WholeRuns.{Ran}
use Rattle.journal_text.specs.Lines.{session}
use Rattle.journal_text.specs.Allowed.{IsJournal}

pub record SameParts (exchanges journal : List Exchange) (bytes script : List ℕ) : Type 0 where
  pub journals : exchanges ≡ journal
  pub scripts : bytes ≡ script

-- A session has one journal, and one rest behind it.
abbrev pub OneSession : Type 0
OneSession =
    (exchanges journal : List Exchange) (bytes script : List ℕ) → IsJournal exchanges →
    IsJournal journal → session exchanges bytes ≡ session journal script →
    SameParts exchanges journal bytes script

-- All whole runs of a script over the same exchanges write the same.
abbrev pub OneText : Program → (bound : ℕ) → Script → Type 0
OneText program bound script =
    (exchanges : List Exchange) (lines others : List ℕ) → Ran program bound script exchanges lines →
    Ran program bound script exchanges others → others ≡ lines

-- A script was run, and its exchanges have lines. Their session is that of a journal and the bytes of a
-- script, and this script's run over this journal has ended with all of it used up. So what that writes is
-- what the first run wrote.
abbrev pub OneReplay : (Script → Program) → (bound : ℕ) → Type 0
OneReplay program bound =
    (exchanges journal : List Exchange) (bytes rest lines written : List ℕ) (script other : Script) →
    IsJournal exchanges → IsScript bytes script → Ran (program script) bound script exchanges lines →
    session exchanges bytes ≡ session journal rest → IsJournal journal → IsScript rest other →
    Ran (program other) bound other journal written →
    written ≡ lines

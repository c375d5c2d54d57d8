-- What the run of a script comes to: the bytes that it wrote, and the exchanges that it made.
use Rattle.std.specs.Prelude.{◌≡◌, ◌⊎◌, ℕ, ◌≤◌, true, All, List, ◌++◌, length, Some, Result, Ok, Err}
use Rattle.editor_model.specs.Values.{Script}
use Rattle.plain_machine.specs.Exchanges.{Exchange}
use Rattle.plain_machine.specs.State.{State, Process, Program, process}
use Rattle.plain_machine.specs.Items.{Said, Config}
use Rattle.plain_machine.specs.Run.{Reaches, lines, start}
use Rattle.plain_machine.specs.WholeRuns.{Ran, BrokenOff}
use Rattle.machine_laws.specs.Entries.{AreHeard, SentinelsComeLast, EndsComeAfterOutput}
use Rattle.machine_laws.specs.Entries.{has_entry, output_ended, killed}
use Rattle.machine_laws.specs.UndoneRuns.{UndoReturnsBetween}
use Rattle.ek_types.specs.Io.{SinkState}
use Rattle.kernel_steps.specs.Outside.{deepest, CameTo}
use Rattle.kernel_steps.specs.Worlds.{Stands}
use Rattle.kernel_steps.specs.Ending.{IsAnsweredKill}
use Rattle.kernel_steps.specs.declared.stop.Stop.{Stop}

-- At any moment of these exchanges: a process whose sentinel has been entered is one whose child was asked
-- to be killed, or whose output has ended. So a sentinel that no kill caused comes after the output.
abbrev pub SentinelsComeAfterOutput : Program → Script → List Exchange → Type 0
SentinelsComeAfterOutput program script exchanges =
    (before after : List Exchange) (said : List Said) (c : Config) (p : ℕ) (x : Process) →
    exchanges ≡ before ++ after → Reaches program deepest (start script) before said c →
    process c.state p ≡ Some x → has_entry true p said ≡ true →
    (killed x.child before ≡ true) ⊎ (output_ended x.child before ≡ true)

-- Between any two moments of these exchanges: undoing back to a boundary that is still kept gave the text
-- of the moment at which it was pushed, with its properties.
abbrev pub UndoGivesBack : Program → Script → List Exchange → Type 0
UndoGivesBack program script exchanges =
    (first second later : List Exchange) → exchanges ≡ first ++ (second ++ later) →
    UndoReturnsBetween program deepest (start script) first second

-- A run that came to its end. The sink hasn't failed where it had room for what was written.
pub record RanScript (program : Program) (script : Script) (exchanges : List Exchange)
    (written : List ℕ) (before now : SinkState) : Type 0 where
  pub ran : Ran program deepest script exchanges written
  pub entries : AreHeard ran.last.state exchanges ran.said
  pub sentinels : SentinelsComeLast ran.said
  pub ends : EndsComeAfterOutput exchanges
  pub sentinels_after_output : SentinelsComeAfterOutput program script exchanges
  pub undo : UndoGivesBack program script exchanges
  pub roomy : length written ≤ before.room → now.faults ≡ before.faults

-- A run that was broken off. For want of memory what it wrote is whole lines: with all entries, for it
-- isn't broken off between a read and the entry that this causes. After a failed write it stopped at that
-- line, and nothing was asked behind it but the kills. The sink hasn't failed where it had room for all
-- that was said.
pub record StoppedScript (why : Stop) (program : Program) (script : Script) (exchanges : List Exchange)
    (written : List ℕ) (before now : SinkState) : Type 0 where
  pub broken : BrokenOff program deepest script exchanges written
  pub answered : All IsAnsweredKill broken.kills
  pub came : CameTo why program (start script) broken.made broken.said broken.last written
  pub entries : AreHeard broken.last.state broken.made broken.said
  pub sentinels : SentinelsComeLast broken.said
  pub ends : EndsComeAfterOutput broken.made
  pub sentinels_after_output : SentinelsComeAfterOutput program script broken.made
  pub undo : UndoGivesBack program script broken.made
  pub roomy : length (lines broken.said) ≤ before.room → now.faults ≡ before.faults

-- How the run of a script ended, by its result. One that came to its end left what stands for the machine's
-- last state.
abbrev pub EndsAs : {T : Type 0} → Result T Stop → Program → Script → List Exchange →
    (written : List ℕ) → (before now : SinkState) → (left : State) → Type 0
EndsAs (Ok x) program script exchanges written before now left =
    (whole : RanScript program script exchanges written before now) × Stands left whole.ran.last.state
EndsAs (Err why) program script exchanges written before now left =
    StoppedScript why program script exchanges written before now

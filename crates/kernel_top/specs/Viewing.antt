-- What the word `view` comes to: a script is run with its lines thrown away, and its last current buffer is
-- written as it would be seen.
use Rattle.std.specs.Prelude.{◌≡◌, ℕ, ◌⊎◌, List, [], flat_map, Result, Ok, Err}
use Rattle.text_model.specs.Characters.{encoded}
use Rattle.editor_model.specs.Values.{Script}
use Rattle.editor_model.specs.Editor.{Editor}
use Rattle.plain_machine.specs.Exchanges.{Exchange}
use Rattle.plain_machine.specs.State.{Program}
use Rattle.plain_machine.specs.WholeRuns.{Ran}
use Rattle.ek_types.specs.Io.{SinkState}
use Rattle.final_view.specs.Shown.{shown}
use Rattle.final_view.specs.declared.fault.ViewFault.{ViewFault}
use Rattle.final_view.specs.declared.fault.ViewFault.TheVariants as fault
use Rattle.kernel_steps.specs.Outside.{deepest}
use Rattle.kernel_top.specs.Unseen.{IsWhole, IsBrokenOff}
use Rattle.kernel_top.specs.Writing.{IsWhollyWritten, IsFrontWritten}
use Rattle.kernel_top.specs.declared.status.Status.{Status}
use Rattle.kernel_top.specs.declared.status.Status.TheVariants as status

-- the bytes of the current buffer as it would be seen
abbrev pub view_of : Editor → List ℕ
view_of e = flat_map encoded (shown e e.current)

-- the script has run to its end over just these exchanges, and the view of its last state was written whole
pub record ShowsView (program : Program) (script : Script) (written : List ℕ)
    (exchanges : List Exchange) (before now : SinkState) : Type 0 where
  pub lines : List ℕ
  pub ran : Ran program deepest script exchanges lines
  pub view : IsWhollyWritten (view_of ran.last.state.editor) written before now

-- the same, but a front of the view was written
pub record CutsView (program : Program) (script : Script) (written : List ℕ) (exchanges : List Exchange)
    (before : SinkState) : Type 0 where
  pub lines : List ℕ
  pub ran : Ran program deepest script exchanges lines
  pub view : IsFrontWritten (view_of ran.last.state.editor) written before

-- memory was wanting in the run of the script, or behind its end, and nothing was written
pub record ShowsNothing (program : Program) (script : Script) (written : List ℕ)
    (exchanges : List Exchange) (before now : SinkState) : Type 0 where
  pub came : IsWhole program script exchanges ⊎ IsBrokenOff program script exchanges
  pub nothing : written ≡ []
  pub same : now ≡ before

-- what became of a script that was run to be viewed, by the status
abbrev pub Viewed : Status → Program → Script → (written : List ℕ) → List Exchange →
    (before now : SinkState) → Type 0
Viewed status.Done program script written exchanges before now =
    ShowsView program script written exchanges before now
Viewed status.WriteFault program script written exchanges before now =
    CutsView program script written exchanges before
Viewed status.NoMemory program script written exchanges before now =
    ShowsNothing program script written exchanges before now
Viewed _ program script written exchanges before now = ⊥

-- the status of a view, by how its writing ended
abbrev pub viewed_status : {T : Type 0} → Result T ViewFault → Status
viewed_status (Ok x) = status.Done
viewed_status (Err fault.Sink) = status.WriteFault
viewed_status (Err fault.NoMemory) = status.NoMemory

-- The run of a script whose lines are thrown away.
pub use Rattle.trace_check.specs.Runs.{IsWhole}
use Rattle.std.specs.Prelude.{◌≡◌, ℕ, ◌⊎◌, All, List, [], Result, Ok, Err}
use Rattle.editor_model.specs.Values.{Script}
use Rattle.plain_machine.specs.Exchanges.{Exchange}
use Rattle.plain_machine.specs.State.{State, Program}
use Rattle.plain_machine.specs.WholeRuns.{BrokenOff}
use Rattle.kernel_steps.specs.Outside.{deepest}
use Rattle.kernel_steps.specs.Worlds.{Stands}
use Rattle.kernel_steps.specs.Ending.{IsAnsweredKill}

-- the run of the script was broken off, and these exchanges are those that it made and the kills
pub record IsBrokenOff (program : Program) (script : Script) (exchanges : List Exchange) : Type 0 where
  pub lines : List ℕ
  pub broken : BrokenOff program deepest script exchanges lines
  pub answered : All IsAnsweredKill broken.kills

-- the script was run to its end; or memory was wanting before anything was asked, or in the run
abbrev pub RanUnseen : {T E : Type 0} → Result T E → Program → Script → List Exchange → Type 0
RanUnseen (Ok x) program script exchanges = IsWhole program script exchanges
RanUnseen (Err e) program script exchanges = (exchanges ≡ []) ⊎ IsBrokenOff program script exchanges

-- the script was run on a kernel, which stands for the machine's last state then; or that run was broken off
abbrev pub RanOn : {T E : Type 0} → Result T E → Program → Script → List Exchange → (left : State) → Type 0
RanOn (Ok x) program script exchanges left =
    (whole : IsWhole program script exchanges) × Stands left whole.ran.last.state
RanOn (Err e) program script exchanges left = IsBrokenOff program script exchanges

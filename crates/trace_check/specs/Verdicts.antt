-- The verdict on claimed lines, by a journal and the run of a script on it.
use Rattle.std.specs.Prelude.{◌≡◌, ℕ, ◌≤◌, List, length, take}
use Rattle.editor_model.specs.Values.{Script}
use Rattle.plain_machine.specs.Exchanges.{Exchange}
use Rattle.plain_machine.specs.State.{State, Program}
use Rattle.plain_machine.specs.Items.{Said, Config}
use Rattle.plain_machine.specs.Run.{Reaches, lines}
use Rattle.kernel_steps.specs.Outside.{deepest}
use Rattle.kernel_steps.specs.Work.{working}
use Rattle.kernel_steps.specs.Worlds.{Stands}
use Rattle.trace_check.specs.Comparing.{DiffersAt}
use Rattle.trace_check.specs.Runs.{IsWhole, Strays}
use Rattle.trace_check.specs.Turns.{Seen}
use Rattle.trace_check.specs.declared.checking.Verdict.{Verdict}
use Rattle.trace_check.specs.declared.checking.Verdict.TheVariants as verdict

-- VERDICTS
-- the run has ended with the journal used up, and these are its lines and its dump
pub record IsClaimed (program : Program) (script : Script) (journal : List Exchange)
    (claimed : List ℕ) : Type 0 where
  pub whole : IsWhole program script journal
  pub same : claimed ≡ whole.lines

-- it has, and they are others, first in this line
pub record DiffersIn (program : Program) (script : Script) (journal : List Exchange) (claimed : List ℕ)
    (line : ℕ) : Type 0 where
  pub whole : IsWhole program script journal
  pub first : DiffersAt line claimed whole.lines

abbrev pub IsVerdict : Program → Script → (journal : List Exchange) → (claimed : List ℕ) → Verdict → Type 0
IsVerdict program script journal claimed verdict.Yes = IsClaimed program script journal claimed
IsVerdict program script journal claimed (verdict.Strayed most) = Strays program script journal most
IsVerdict program script journal claimed (verdict.Differs line) = DiffersIn program script journal claimed line

-- ON THE WAY
-- the run has come so far on a journal: the exchanges that are used are those at its front, and these bytes
-- were written
pub record HasCome (program : Program) (from : Config) (journal : List Exchange) (now : Seen)
    (written : List ℕ) : Type 0 where
  pub state : State
  pub stands : Stands now.state state
  pub said : List Said
  pub within : now.used ≤ length journal
  pub run : Reaches program deepest from (take now.used journal) said (working state now.work)
  pub bytes : written ≡ lines said

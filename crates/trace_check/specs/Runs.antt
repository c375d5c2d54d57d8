-- The run of a script on the exchanges of a journal.
use Rattle.std.specs.Prelude.{ℕ, ◌≤◌, List, length, take}
use Rattle.editor_model.specs.Values.{Script}
use Rattle.plain_machine.specs.Exchanges.{Exchange}
use Rattle.plain_machine.specs.State.{Program}
use Rattle.plain_machine.specs.Items.{Said, Config}
use Rattle.plain_machine.specs.Run.{Reaches, start}
use Rattle.plain_machine.specs.WholeRuns.{Ran}
use Rattle.kernel_steps.specs.Outside.{deepest}

-- the machine's run on the script has ended with just these exchanges used up
pub record IsWhole (program : Program) (script : Script) (exchanges : List Exchange) : Type 0 where
  pub lines : List ℕ
  pub ran : Ran program deepest script exchanges lines

-- the machine goes through just these exchanges
pub record GoesThrough (program : Program) (script : Script) (exchanges : List Exchange) : Type 0 where
  pub said : List Said
  pub last : Config
  pub run : Reaches program deepest (start script) exchanges said last

-- the run on a journal hasn't ended with all of it used up, and the machine goes through so many of its
-- exchanges at most
pub record Strays (program : Program) (script : Script) (journal : List Exchange) (most : ℕ) : Type 0 where
  pub unended : IsWhole program script journal → ⊥
  pub within : most ≤ length journal
  pub goes : GoesThrough program script (take most journal)
  pub no_more : (k : ℕ) → k ≤ length journal → GoesThrough program script (take k journal) → k ≤ most

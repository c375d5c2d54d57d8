-- What a drill comes to: its script is run, and what the run says is counted and not written.
use Rattle.std.specs.Prelude.{◌≡◌, ℕ, ◌%◌, ◌^◌, List, length, Result, Ok, Err}
use Rattle.editor_model.specs.Editor.{characters_in}
use Rattle.plain_machine.specs.Exchanges.{Exchange}
use Rattle.plain_machine.specs.State.{State, Program}
use Rattle.plain_machine.specs.Items.{Said}
use Rattle.plain_machine.specs.Run.{lines}
use Rattle.plain_machine.specs.Drill.{drill_script, summary, summary_line}
use Rattle.plain_machine.specs.Grammar.{line_feeds}
use Rattle.kernel_steps.specs.declared.stop.Stop.{Stop}
use Rattle.kernel_top.specs.declared.summing.Counts.{Counts}
use Rattle.kernel_top.specs.Unseen.{IsWhole, IsBrokenOff}

-- A DRILL
-- the drill's script has run to its end over just these exchanges, and the line is the summary of that run
pub record SumsUp (program : Program) (count : ℕ) (exchanges : List Exchange) (line : List ℕ) : Type 0 where
  pub whole : IsWhole program (drill_script count) exchanges
  pub summed : line ≡ summary count whole.ran.said exchanges whole.ran.last.state

-- COUNTS
-- the counts of a run, each modulo 2^64
pub record AreCounts (said : List Said) (made : List Exchange) (last : State) (counts : Counts) : Type 0 where
  pub lines : counts.lines ≡ line_feeds (lines said) % 2 ^ 64
  pub exchanges : counts.exchanges ≡ length made % 2 ^ 64
  pub characters : counts.characters ≡ characters_in last.editor.buffers % 2 ^ 64

-- the line that tells them
abbrev pub line_of : (count : ℕ) → Counts → List ℕ
line_of count counts = summary_line count counts.lines counts.exchanges counts.characters

-- the drill's script was run and counted, or that run was broken off
abbrev pub Counted : Result Counts Stop → Program → (count : ℕ) → List Exchange → Type 0
Counted (Ok counts) program count exchanges = SumsUp program count exchanges (line_of count counts)
Counted (Err why) program count exchanges = IsBrokenOff program (drill_script count) exchanges

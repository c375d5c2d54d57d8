-- What a run comes to that was counted.
use Rattle.std.proofs.Common.{◌≡◌, ℕ, ◌%◌, ◌^◌, List, length, All, refl, sym, ap, ◌∙◌, subst}
use Rattle.editor_model.specs.Values.{Script}
use Rattle.editor_model.specs.Editor.{Editor, characters_in}
use Rattle.plain_machine.specs.Exchanges.{Exchange}
use Rattle.plain_machine.specs.State.{State, Program}
use Rattle.plain_machine.specs.Items.{Said}
use Rattle.plain_machine.specs.WholeRuns.{Ran, BrokenOff}
use Rattle.plain_machine.specs.Drill.{drill_script, summary}
use Rattle.ek_types.specs.Io.{SinkState}
use Rattle.kernel_steps.specs.Outside.{deepest}
use Rattle.kernel_steps.specs.Ending.{IsAnsweredKill}
use Rattle.kernel_steps.specs.Outcomes.{RanScript, StoppedScript}
use Rattle.kernel_steps.specs.declared.stop.Stop.{Stop}
use Rattle.plain_machine.specs.Grammar.{line_feeds}
use Rattle.kernel_top.specs.Drills.{SumsUp, AreCounts, line_of}
use Rattle.kernel_top.specs.Unseen.{IsBrokenOff}
use Rattle.kernel_top.specs.declared.summing.Counts.{Counts}

summary_is : (count : ℕ) (said : List Said) (exchanges : List Exchange) (last : State) (counts : Counts) → AreCounts said exchanges last counts → line_of count counts ≡ summary count said exchanges last
summary_is count said exchanges last counts are = rw (are.lines, are.exchanges, are.characters) refl

module _ (program : Script → Program) (script : Script) (count : ℕ) (is : script ≡ drill_script count) (exchanges : List Exchange) (written : List ℕ) (before now : SinkState) where
  -- the counts of a script that ran to its end
  pub sums_up : (whole : RanScript (program script) script exchanges written before now) (left : Editor) (counts : Counts) → whole.ran.last.state.editor ≡ left →
      counts.lines ≡ line_feeds written % 2 ^ 64 → counts.exchanges ≡ length exchanges % 2 ^ 64 → counts.characters ≡ characters_in left.buffers % 2 ^ 64 →
      SumsUp (program (drill_script count)) count exchanges (line_of count counts)
  sums_up whole left counts last line_count exchange_count character_count =
      let are : AreCounts whole.ran.said exchanges whole.ran.last.state counts = record {
        lines = line_count ∙ ap (λ l. line_feeds l % 2 ^ 64) whole.ran.bytes;
        exchanges = exchange_count;
        characters = character_count ∙ ap (λ e. characters_in e.buffers % 2 ^ 64) (sym last);
      } in
      let summed : line_of count counts ≡ summary count whole.ran.said exchanges whole.ran.last.state = summary_is count whole.ran.said exchanges whole.ran.last.state counts are in
      let (ran, same) = subst (λ s. (r : Ran (program s) deepest s exchanges written) × (line_of count counts ≡ summary count r.said exchanges r.last.state)) is (whole.ran, summed) in
      record { whole = record { lines = written; ran = ran }; summed = same }

  pub breaks_off : (why : Stop) → StoppedScript why (program script) script exchanges written before now → IsBrokenOff (program (drill_script count)) (drill_script count) exchanges
  breaks_off why stopped =
      let (broken, answered) = subst (λ s. (b : BrokenOff (program s) deepest s exchanges written) × All IsAnsweredKill b.kills) is (stopped.broken, stopped.answered) in
      record { lines = written; broken = broken; answered = answered }

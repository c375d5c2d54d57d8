use Rattle.overlay_set.proofs.RivalLemmas.{winner_is_one}
use Rattle.overlay_set.proofs.laws.the_winner_wins_over_each_other.Goals as goal

-- src/laws.rt:9:1
pub returns-clause-one : goal.returns-clause-one
returns-clause-one c = winner_is_one

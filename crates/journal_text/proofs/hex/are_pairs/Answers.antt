use Rattle.journal_text.proofs.Hexes.{pairs_even}
use Rattle.journal_text.proofs.hex.are_pairs.Goals as goal

pub returns : goal.returns
returns c = pairs_even c.args.digits.now

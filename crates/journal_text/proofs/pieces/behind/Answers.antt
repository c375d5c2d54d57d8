use Rattle.journal_text.proofs.Finding.{stripped}
use Rattle.journal_text.proofs.pieces.behind.Goals as goal

pub returns : goal.returns
returns c = stripped (λ rest. rest.now) c.args.text.now c.args.bytes.now c.strip_prefix.result c.strip_prefix.ensures.cases

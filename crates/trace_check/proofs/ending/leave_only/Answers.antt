use Rattle.std.proofs.Common.{◌∷◌, ap, ◌∙◌, arith}
use Rattle.trace_check.specs.Meaning.{item_of}
use Rattle.trace_check.proofs.ending.leave_only.Goals as goal

pub put_back-requires : goal.put_back-requires
put_back-requires c = omega (arith, c.requires, c.clear.ensures.places)

pub returns : goal.returns
returns c = c.put_back.ensures ∙ ap (λ l. item_of c.args.item ∷ l) c.clear.ensures.work

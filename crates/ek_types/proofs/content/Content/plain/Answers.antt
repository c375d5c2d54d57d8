use Rattle.std.proofs.Common.{arith}
use Rattle.ek_types.proofs.Pieces.{zip-nothing}
use Rattle.ek_types.proofs.content.Content.plain.Goals as goal

pub returns : goal.returns
returns c = rw (c.own.ensures, c.new.ensures.items) (zip-nothing c.args.text.items _ (omega arith))

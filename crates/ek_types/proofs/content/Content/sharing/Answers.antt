use Rattle.std.proofs.Common.{arith}
use Rattle.ek_types.proofs.Pieces.{zip-nothing}
use Rattle.ek_types.proofs.content.Content.sharing.Goals as goal

pub returns : goal.returns
returns c = rw (c.in_ok-sharing.ensures, c.new.ensures.items) (zip-nothing c.args.text.now.value.items _ (omega arith))

use Rattle.std.proofs.Common.{arith}
use Rattle.prim_arguments.proofs.Words.{words_more, words_all}
use Rattle.prim_arguments.proofs.values.set_words.Goals as goal

pub loop-i-preserved : goal.loop-i-preserved
loop-i-preserved c = words_more c.args.set.now _ _ _ c.loop-i.i _ _ c.at.ensures c.in_ok-push_pair.ensures c.loop-i.invariant

pub returns : goal.returns
returns c = words_all c.args.set.now _ c.loop-i.i (omega arith) c.loop-i.invariant

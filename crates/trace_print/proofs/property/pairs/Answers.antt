use Rattle.std.proofs.Common.{◌∙◌, arith}
use Rattle.trace_print.specs.Pairs.{pair_word}
use Rattle.sink_printer.proofs.Printing.{prints_then, prints_same, prints_nothing}
use Rattle.trace_print.proofs.Spaced.{spaced_item, spaced_all, pairs_spaced}
use Rattle.trace_print.proofs.property.pairs.Goals as goal

pub loop-i-init : goal.loop-i-init
loop-i-init g c = prints_nothing

pub loop-i-preserved : goal.loop-i-preserved
loop-i-preserved g c =
    prints_same (spaced_item (pair_word c.args.symbols.now) c.args.set.now c.loop-i.i _ c.at.ensures) (prints_then c.loop-i.invariant (prints_then c.gap.ensures c.pair.ensures))

pub returns : goal.returns
returns g c =
    prints_same (spaced_all (pair_word c.args.symbols.now) c.args.set.now c.loop-i.i (omega (arith, c.len-i-end.ensures.exact, c.loop-i-test.false)) ∙ pairs_spaced c.args.symbols.now c.args.set.now) c.loop-i.invariant

use Rattle.std.proofs.Common.{arith}
use Rattle.plain_machine.specs.Lines.{shown_ch}
use Rattle.sink_printer.proofs.Printing.{prints_then, prints_same, prints_nothing}
use Rattle.trace_print.proofs.Gathering.{some_on, all_of}
use Rattle.trace_print.proofs.text.unquoted.Goals as goal

pub loop-i-init : goal.loop-i-init
loop-i-init g c = record { within = omega arith; prints = prints_nothing }

pub loop-i-preserved : goal.loop-i-preserved
loop-i-preserved g c =
    record {
      within = c.some_characters-i.ensures.range;
      prints = prints_same (some_on shown_ch (g.T.Characters.chars c.args.text.now) c.loop-i.i c.some_characters-i.result) (prints_then c.loop-i.invariant.prints c.some_characters-i.ensures.prints);
    }

pub loop-i-smaller : goal.loop-i-smaller
loop-i-smaller g c = omega (arith, c.some_characters-i.ensures.some, c.some_characters-i.ensures.range)

pub returns : goal.returns
returns g c = prints_same (all_of shown_ch (g.T.Characters.chars c.args.text.now) c.loop-i.i (omega (arith, c.count.ensures, c.loop-i-test.false))) c.loop-i.invariant.prints

use Rattle.plain_machine.specs.Drill.{output_from}
use Rattle.line_drill.proofs.DrillOutput.{line_more}
use Rattle.line_drill.proofs.drill_child.output.Goals as goal

pub loop-k-preserved : goal.loop-k-preserved
loop-k-preserved c =
    rw (c.in_ok-push.ensures.items, c.in_ok-extend_from_slice-2.ensures.items, c.in_ok-extend_from_slice.ensures.items, c.as_bytes-in-loop-k.ensures.value, c.format.ensures.text, c.as_bytes.ensures.value)
    (line_more c.loop-k.k c.args.lines c.loop-k.all.items (output_from 0 c.args.lines) c.loop-k-test.true c.loop-k.invariant)

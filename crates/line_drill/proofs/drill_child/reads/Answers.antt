use Rattle.std.proofs.Common.{length, map, ap, ◌∙◌, arith}
use Rattle.std.proofs.lemmas.Nat.{mod_below}
use Rattle.plain_machine.specs.Exchanges.{Bytes}
use Rattle.plain_machine.specs.Drill.{pieces}
use Rattle.host_link.specs.declared.asking.Answer.TheVariants as answer
use Rattle.line_drill.proofs.DrillOutput.{lesser_is, read_more, is_some}
use Rattle.line_drill.proofs.drill_child.reads.Goals as goal

pub loop-left-preserved : goal.loop-left-preserved
loop-left-preserved c = record {
  given = read_more c.loop-left.size c.min.result c.loop-left.left.now c.split_at.result.0.now c.split_at.result.1.now c.loop-left.reads c.push.new.self (answer.Bytes c.in_ok-list_of.field-0) (map Bytes (pieces (length c.args.output.now) 1 c.args.output.now))
      (c.min.ensures ∙ lesser_is c.loop-left.size (length c.loop-left.left.now)) c.split_at.ensures.front c.split_at.ensures.back (ap Bytes c.in_ok-list_of.ensures) c.in_ok-push.ensures.ok c.loop-left.invariant.some (is_some (length c.loop-left.left.now) c.is_empty.result c.is_empty.ensures c.loop-left-test.true) c.loop-left.invariant.given;
  some = omega arith;
  few = omega (arith, mod_below c.loop-left.size 7 (omega arith));
}

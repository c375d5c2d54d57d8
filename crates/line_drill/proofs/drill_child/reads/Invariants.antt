use Rattle.std.proofs.Common.{◌≡◌, ◌≤◌, ◌++◌, length, map}
use Rattle.plain_machine.specs.Exchanges.{Bytes}
use Rattle.plain_machine.specs.Drill.{pieces}
use Rattle.ek_types.specs.Listing.{items_of}
use Rattle.host_link.specs.Meaning.{answer_of}
use Rattle.line_drill.proofs.drill_child.reads.Given as goal

abbrev pub invariant-loop-left : goal.invariant-loop-left
invariant-loop-left l = record {
  given : map answer_of (items_of l.reads) ++ map Bytes (pieces (length l.left) l.size l.left) ≡ map Bytes (pieces (length l.output) 1 l.output);
  some : 1 ≤ l.size;
  few : l.size ≤ 7;
}

abbrev pub decreases-loop-left : goal.decreases-loop-left
decreases-loop-left l = length l.left

use Rattle.std.proofs.Common.{◌≡◌, ◌+◌, ◌≤◌, length}
use Rattle.plain_machine.specs.Grammar.{line_feeds}
use Rattle.run_counters.proofs.counting_sink.feeds.Given as goal

abbrev pub invariant-loop-left : goal.invariant-loop-left
invariant-loop-left l = record {
  exact : l.count + line_feeds l.left ≡ line_feeds l.bytes;
  few : l.count + length l.left ≤ length l.bytes;
}

abbrev pub decreases-loop-left : goal.decreases-loop-left
decreases-loop-left l = length l.left

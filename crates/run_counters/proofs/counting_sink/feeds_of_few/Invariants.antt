use Rattle.std.proofs.Common.{◌≡◌, ◌+◌, ◌≤◌, drop}
use Rattle.plain_machine.specs.Grammar.{line_feeds}
use Rattle.run_counters.proofs.counting_sink.feeds_of_few.Given as goal

abbrev pub invariant-loop-byte : goal.invariant-loop-byte
invariant-loop-byte l = record {
  feeds : l.count + line_feeds (drop l.byte-index l.bytes) ≡ line_feeds l.bytes;
  small : l.count ≤ l.byte-index;
}

use Rattle.std.proofs.Common.{◌≡◌, ◌+◌, ◌≤◌, drop}
use Rattle.plain_machine.specs.Grammar.{line_feeds}
use Rattle.journal_text.proofs.journal.line_feeds.Given as goal

abbrev pub invariant-bytes : goal.invariant-bytes
invariant-bytes l = record {
  feeds : l.count + line_feeds (drop l.byte-index l.bytes) ≡ line_feeds l.bytes;
  small : l.count ≤ l.byte-index;
}

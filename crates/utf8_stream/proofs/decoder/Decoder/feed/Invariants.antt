use Rattle.std.proofs.Common.{◌≡◌, ◌+◌, ◌≤◌, ◌++◌, length}
use Rattle.text_model.specs.Codings.{decoded, undecoded}
use Rattle.utf8_stream.proofs.decoder.Decoder.feed.Given as goal

abbrev pub invariant-loop-self : goal.invariant-loop-self
invariant-loop-self l = record {
  coding : l.self.coding ≡ l.initial.self.coding;
  items : l.out.items ++ decoded l.self.coding (l.self.bytes ++ l.rest) ≡ l.initial.out.items ++ decoded l.initial.self.coding (l.initial.self.bytes ++ l.bytes);
  spare : l.out.spare + length (decoded l.initial.self.coding (l.initial.self.bytes ++ l.bytes)) ≡ l.initial.out.spare + length (decoded l.self.coding (l.self.bytes ++ l.rest));
  room : length l.self.bytes + length l.rest ≤ l.out.spare;
  tail : undecoded l.self.coding (l.self.bytes ++ l.rest) ≡ undecoded l.initial.self.coding (l.initial.self.bytes ++ l.bytes);
}

abbrev pub decreases-loop-self : goal.decreases-loop-self
decreases-loop-self l = length l.rest

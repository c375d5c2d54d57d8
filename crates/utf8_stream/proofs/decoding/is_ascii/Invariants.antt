use Rattle.std.proofs.Common.{◌≡◌, ℕ, ◌<◌, ◌≤◌, true, slice_index}
use Rattle.utf8_stream.proofs.decoding.is_ascii.Given as goal

abbrev pub invariant-loop-n : goal.invariant-loop-n
invariant-loop-n l = l.all ≡ true → (k : ℕ) → l.start ≤ k → k < l.n → slice_index l.bytes k < 0x80

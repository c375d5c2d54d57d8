use Rattle.std.proofs.Common.{ℕ, ◌-◌, ◌<◌, ◌≤◌, length, slice_index}
use Rattle.utf8_stream.proofs.decoding.count_ascii.Given as goal

abbrev pub invariant-loop-count : goal.invariant-loop-count
invariant-loop-count l = record {
  range : l.count ≤ length l.bytes;
  ascii : (k : ℕ) → k < l.count → slice_index l.bytes k < 0x80;
}

abbrev pub decreases-loop-count : goal.decreases-loop-count
decreases-loop-count l = length l.bytes - l.count

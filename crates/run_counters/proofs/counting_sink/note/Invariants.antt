use Rattle.std.proofs.Common.{◌≡◌, ◌++◌, take}
use Rattle.run_counters.specs.Counting.{bytes_given}
use Rattle.run_counters.proofs.counting_sink.note.Given as goal

abbrev pub invariant-loop-byte : goal.invariant-loop-byte
invariant-loop-byte l = bytes_given l.given.items ≡ bytes_given l.fn.given.items ++ take l.byte-index l.bytes

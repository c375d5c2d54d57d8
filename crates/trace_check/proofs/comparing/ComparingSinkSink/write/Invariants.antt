use Rattle.std.proofs.Common.{◌≡◌, ◌++◌, take}
use Rattle.trace_check.proofs.comparing.ComparingSinkSink.write.Given as goal

abbrev pub invariant-loop-byte : goal.invariant-loop-byte
invariant-loop-byte l = l.self ≡ record l.fn.self { given = l.fn.self.given ++ take l.byte-index l.from }

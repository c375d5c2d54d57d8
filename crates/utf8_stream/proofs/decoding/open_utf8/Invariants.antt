use Rattle.std.proofs.Common.{length}
use Rattle.utf8_stream.specs.Steps.{Decodes}
use Rattle.utf8_stream.proofs.decoding.open_utf8.Given as goal

abbrev pub invariant-loop-rest : goal.invariant-loop-rest
invariant-loop-rest l = Decodes l.initial.out l.out l.bytes l.rest

abbrev pub decreases-loop-rest : goal.decreases-loop-rest
decreases-loop-rest l = length l.rest

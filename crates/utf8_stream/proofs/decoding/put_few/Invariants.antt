use Rattle.std.proofs.Common.{◌+◌, ◌≤◌, length}
use Rattle.utf8_stream.specs.Steps.{Decodes}
use Rattle.utf8_stream.proofs.decoding.put_few.Given as goal

abbrev pub invariant-loop-n : goal.invariant-loop-n
invariant-loop-n l = record {
  decodes : Decodes l.initial.out l.out l.bytes l.rest;
  less : length l.rest + l.n ≤ length l.bytes;
}

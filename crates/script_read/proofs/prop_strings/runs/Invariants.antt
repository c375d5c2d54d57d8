use Rattle.std.proofs.Common.{length, map}
use Rattle.ek_types.specs.Listing.{items_of}
use Rattle.script_read.specs.PropStrings.{run_at}
use Rattle.script_read.specs.Runs.{run_of}
use Rattle.script_read.proofs.Listed.{SoFar}
use Rattle.script_read.proofs.prop_strings.runs.Given as goal

abbrev pub invariant-triples : goal.invariant-triples
invariant-triples l = SoFar run_at (map run_of (items_of l.list)) (l.rest, l.symbols) (l.bytes, l.initial.symbols)

abbrev pub decreases-triples : goal.decreases-triples
decreases-triples l = length l.rest

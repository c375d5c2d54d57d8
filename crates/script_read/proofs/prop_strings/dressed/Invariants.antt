use Rattle.std.proofs.Common.{map, drop}
use Rattle.script_read.specs.Runs.{run_of}
use Rattle.script_read.proofs.Dressing.{Dressed}
use Rattle.script_read.proofs.prop_strings.dressed.Given as goal

abbrev pub invariant-triples : goal.invariant-triples
invariant-triples l = Dressed l.fn.chars.items (map run_of l.runs) l.place l.text (map run_of (drop l.run-index l.runs))

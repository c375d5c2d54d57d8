use Rattle.std.proofs.Common.{map, length}
use Rattle.script_read.specs.Runs.{run_of}
use Rattle.script_read.proofs.Dressing.{undressed, unfit_next, put_next, all_put, fits_within}
use Rattle.script_read.proofs.prop_strings.dressed.Goals as goal

pub triples-init : goal.triples-init
triples-init c = rw c.in_ok-text.ensures (undressed c.args.chars.items (map run_of c.args.runs.now))

pub returns-then-not-stands : goal.returns-then-not-stands
returns-then-not-stands c =
    unfit_next run_of c.args.chars.items c.args.runs.now c.triples.place c.triples.text c.triples.run-index c.run-item.result c.len.result c.triples-test.true c.run-item.is c.len.ensures c.triples.invariant c.if-not-stands.ensures

pub put-requires : goal.put-requires
put-requires c = fits_within c.triples.place c.run-item.result.from c.run-item.result.to c.len.result (length c.triples.text) c.if-not-stands.ensures c.len.ensures

pub triples-preserved : goal.triples-preserved
triples-preserved c =
    put_next run_of c.args.chars.items c.args.runs.now c.triples.place c.triples.text c.put.new.self c.triples.run-index c.run-item.result c.len.result c.triples-test.true c.run-item.is c.len.ensures c.triples.invariant c.if-not-stands.ensures
    c.in_ok-put.ensures.ok

pub returns : goal.returns
returns c = all_put run_of c.args.chars.items c.args.runs.now c.triples.place c.triples.text c.triples.run-index c.triples-test.false c.triples.invariant

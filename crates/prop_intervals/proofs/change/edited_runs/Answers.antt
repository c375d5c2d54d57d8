use Rattle.std.proofs.Common.{◌-◌, ap, length, length-take, length-drop, take, arith}
use Rattle.std.proofs.lemmas.List.{length-map}
use Rattle.text_model.specs.Properties.{edited}
use Rattle.prop_intervals.specs.Edits.{edit_of}
use Rattle.prop_intervals.specs.Runs.{sets_of}
use Rattle.prop_intervals.proofs.SetLemmas.{length-sets_of}
use Rattle.prop_intervals.proofs.ChangeLemmas.{part_of, part_more, sets_more, changed_more}
use Rattle.prop_intervals.proofs.change.edited_runs.Goals as goal

pub pushed-requires-clause-fits : goal.pushed-requires-clause-fits
pushed-requires-clause-fits c =
    let sets = sets_of c.args.tree.now in
    let f = edited (edit_of c.args.edit.now) in
    omega (arith, length-sets_of c.loop-i.runs, ap length c.loop-i.invariant.sets, length-map (part_of c.args.from c.loop-i.i sets) f, length-drop c.args.from (take c.loop-i.i sets), length-take c.loop-i.i sets)

pub loop-i-preserved : goal.loop-i-preserved
loop-i-preserved c =
    let sets = sets_of c.args.tree.now in
    let f = edited (edit_of c.args.edit.now) in
    let set = c.find-run.result.set.now in
    let part = part_of c.args.from c.loop-i.i sets in
    let more = part_more c.args.tree.now c.args.from c.loop-i.i c.min-end.result set c.find-run.result.start c.find-run.result.end c.loop-i.invariant.from (let t = c.find-run.ensures.exact.ends in omega arith) (omega arith) c.find-run.ensures.within c.find-run.ensures.exact in
    record {
      from = (let t = c.find-run.ensures.exact.ends in omega arith);
      to = omega arith;
      sets = rw more (sets_more f (sets_of c.loop-i.runs) (sets_of c.in_ok-runs.runs) part (c.min-end.result - c.loop-i.i) set c.in_ok-new.new c.in_ok-new.ensures c.loop-i.invariant.sets c.in_ok-runs.ensures.sets);
      apart = c.in_ok-runs.ensures.apart;
      changed = rw (more, c.same.ensures)
          (changed_more f part (sets_of c.loop-i.runs) (sets_of c.in_ok-runs.runs) (c.min-end.result - c.loop-i.i) set c.in_ok-new.new c.loop-i.changed (let t = c.find-run.ensures.exact.ends in omega arith) c.loop-i.invariant.sets c.loop-i.invariant.changed c.in_ok-runs.ensures.sets);
    }

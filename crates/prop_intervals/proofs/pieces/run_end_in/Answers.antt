use Rattle.std.proofs.Common.{◌+◌, ◌∙◌, sym, length, subst, arith}
use Rattle.std.proofs.lemmas.Option.{slice_get-map}
use Rattle.text_model.proofs.Sameness.{same_set-same}
use Rattle.prop_intervals.specs.Sets.{sets_in}
use Rattle.prop_intervals.proofs.SetLemmas.{run_start}
use Rattle.prop_intervals.proofs.Stepping.{set_of, passed_to, one_set_to, end_of_run, other_here, OneSet}
use Rattle.prop_intervals.proofs.pieces.run_end_in.Goals as goal

pub loop-end-init : goal.loop-end-init
loop-end-init c =
    let sets = sets_in c.args.piece.now in
    let set = c.props-set.result.now in
    let here = slice_get-map set_of c.args.piece.now c.args.i ∙ c.props-set.ensures in
    record {
      behind = c.run_end-end.ensures.behind;
      within = c.run_end-end.ensures.within;
      same = end_of_run sets set c.args.i here ∙ passed_to c.args.piece.now set set (length sets) c.args.i (c.args.i + 1) c.run_end-end.result (same_set-same set) c.props-set.ensures (omega arith) (omega (arith, c.run_end-end.ensures.behind)) c.run_end-end.ensures.same;
      all = one_set_to c.args.piece.now set set c.args.i c.args.i (c.args.i + 1) c.run_end-end.result (omega arith) (same_set-same set) c.props-set.ensures (omega arith) (omega (arith, c.run_end-end.ensures.behind)) c.run_end-end.ensures.same (run_start set sets c.args.i here);
    }

pub loop-end-preserved : goal.loop-end-preserved
loop-end-preserved c =
    let sets = sets_in c.args.piece.now in
    let set = c.props-set.result.now in
    let next = c.run_end-end-in-loop-end in
    let same = sym c.same.ensures ∙ c.if-same.true in
    record {
      behind = omega (arith, c.loop-end.invariant.behind, next.ensures.behind);
      within = next.ensures.within;
      same = c.loop-end.invariant.same ∙ passed_to c.args.piece.now set c.props.result.now (length sets) c.loop-end.end c.loop-end.end next.result same c.props.ensures (omega arith) (omega (arith, next.ensures.behind)) next.ensures.same;
      all = one_set_to c.args.piece.now set c.props.result.now c.args.i c.loop-end.end c.loop-end.end next.result (omega (arith, c.loop-end.invariant.behind)) same c.props.ensures (omega arith) (omega (arith, next.ensures.behind)) next.ensures.same c.loop-end.invariant.all;
    }

pub returns-else-same-clause-exact : goal.returns-else-same-clause-exact
returns-else-same-clause-exact c =
    let sets = sets_in c.args.piece.now in
    sym (c.loop-end.invariant.same ∙ other_here sets c.props-set.result.now c.props.result.now c.loop-end.end (length sets)
    (slice_get-map set_of c.args.piece.now c.loop-end.end ∙ c.props.ensures) (sym c.same.ensures ∙ c.if-same.false))

pub returns-else-same-clause-all : goal.returns-else-same-clause-all
returns-else-same-clause-all c set h =
    subst (OneSet (sets_in c.args.piece.now) c.args.i c.loop-end.end) (let e = sym (slice_get-map set_of c.args.piece.now c.args.i ∙ c.props-set.ensures) ∙ h in cc) c.loop-end.invariant.all

pub returns-after-loop-end-clause-all : goal.returns-after-loop-end-clause-all
returns-after-loop-end-clause-all c set h =
    subst (OneSet (sets_in c.args.piece.now) c.args.i c.loop-end.end) (let e = sym (slice_get-map set_of c.args.piece.now c.args.i ∙ c.props-set.ensures) ∙ h in cc) c.loop-end.invariant.all

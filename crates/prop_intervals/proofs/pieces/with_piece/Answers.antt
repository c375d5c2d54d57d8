use Rattle.std.proofs.Common.{◌-◌, ◌++◌, sym, ap, ◌∙◌, length, take, length-take, length-append, append_assoc, arith}
use Rattle.std.specs.Prelude.{replicate, Some}
use Rattle.std.proofs.lemmas.Option.{slice_get-map}
use Rattle.prop_intervals.specs.Runs.{sets_of}
use Rattle.prop_intervals.specs.Sets.{sets_in}
use Rattle.prop_intervals.proofs.SetLemmas.{length-sets_of}
use Rattle.prop_intervals.proofs.pieces.with_piece.Goals as goal

pub pushed-requires-clause-fits : goal.pushed-requires-clause-fits
pushed-requires-clause-fits c =
    let sets = sets_in c.args.piece.now in
    omega (arith, length-sets_of c.loop-i.tree, length-sets_of c.args.tree, ap length c.loop-i.invariant.1, length-append (sets_of c.args.tree) (take c.loop-i.i sets), length-take c.loop-i.i sets, c.run_end_in-end.ensures.behind, c.run_end_in-end.ensures.within, c.requires.fits)

pub loop-i-preserved : goal.loop-i-preserved
loop-i-preserved c =
    let sets = sets_in c.args.piece.now in
    let end = c.run_end_in-end.result in
    let at = slice_get-map (λ d. d.1) c.args.piece.now c.loop-i.i ∙ c.props.ensures ∙ ap Some (sym c.in_ok-set.ensures) in (
      c.run_end_in-end.ensures.within,
      c.in_ok-tree.ensures.sets ∙ ap (λ s. s ++ replicate (end - c.loop-i.i) c.in_ok-set.set) c.loop-i.invariant.1
          ∙ append_assoc (sets_of c.args.tree) (take c.loop-i.i sets) (replicate (end - c.loop-i.i) c.in_ok-set.set) ∙ ap (λ s. sets_of c.args.tree ++ s) (sym (c.run_end_in-end.ensures.all c.in_ok-set.set at)),
      c.in_ok-tree.ensures.apart,
    )

use Rattle.std.proofs.Common.{sym, ◌∙◌}
use Rattle.text_model.proofs.Sameness.{same_set-sound}
use Rattle.prim_changes.proofs.Inheriting.{run_kept}
use Rattle.prim_changes.proofs.inserts.put_in_run.Goals as goal

pub returns-then-same : goal.returns-then-same
returns-then-same c =
    let same = same_set-sound c.args.set.now c.props.result.now (sym c.same.ensures ∙ c.if-same.true) in
    run_kept c.args.set.now c.props.result.now c.args.piece.now c.args.i c.args.end (sym same) (λ j a b. c.requires.one j a b ∙ c.props.ensures) c.requires.run.0 c.requires.run.1

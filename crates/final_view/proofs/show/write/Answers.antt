use Rattle.std.proofs.Common.{sym, arith, ◌∙◌, subst₂}
use Rattle.sink_printer.proofs.Printing.{written}
use Rattle.final_view.specs.Shown.{Scene, scene_in}
use Rattle.final_view.specs.Scenes.{Fits}
use Rattle.final_view.proofs.show.write.Goals as goal

pub returns : goal.returns
returns g c =
    let scene : Scene = scene_in c.args.buffer c.args.first c.args.last c.args.overlays.now in
    let fits : Fits c.args.overlays.now c.as_slice-openers.result.now c.as_slice-closers.result.now c.args.first c.args.last scene =
    subst₂ (λ a b. Fits c.args.overlays.now a b c.args.first c.args.last scene) (sym c.as_slice-openers.ensures.value) (sym c.as_slice-closers.ensures.value) (c.requires.edges.fits c.args.first c.args.last) in
    let said = c.sweep.ensures scene fits in
    let same = sym (said.same ∙ c.new-out.ensures.same) in
    written c.new-out.ensures.sink c.new-out.ensures.fresh c.new-out.ensures.empty (grind (arith, same)) said c.finish.ensures

use Rattle.std.proofs.Common.{◌++◌, [], ap, ◌∙◌, append_assoc, arith}
use Rattle.text_model.specs.Properties.{part}
use Rattle.final_view.specs.Visible.{run_of, visible}
use Rattle.final_view.proofs.Showing.{shows_then, shows_nothing}
use Rattle.final_view.proofs.Visible.{visible_behind, run_visible, run_behind}
use Rattle.final_view.proofs.characters.stretch.Goals as goal

pub loop-at-init : goal.loop-at-init
loop-at-init g c = record {
  printed = [];
  prints = shows_nothing;
  shown = visible_behind c.args.until c.args.from c.min-at.result c.args.to c.args.text.now.buffer.text (omega (arith, c.max.ensures, c.min-at.ensures, c.requires.order)) (omega (arith, c.min-at.ensures)) c.requires.within (omega (arith, c.max.ensures, c.min-at.ensures));
  within = omega (arith, c.min-at.ensures);
  hidden = λ h. omega (arith, h, c.max.ensures, c.min-at.ensures);
}

pub run-requires-clause-order : goal.run-requires-clause-order
run-requires-clause-order g c =
    omega (arith, c.min-end.ensures, c.run_end.ensures, c.loop-at-test.true, run_behind c.args.text.now.buffer.text c.loop-at.at (omega (arith, c.loop-at-test.true, c.requires.within)))

pub loop-at-smaller : goal.loop-at-smaller
loop-at-smaller g c =
    omega (arith, c.min-end.ensures, c.run_end.ensures, c.loop-at-test.true, run_behind c.args.text.now.buffer.text c.loop-at.at (omega (arith, c.loop-at-test.true, c.requires.within)))

pub loop-at-preserved : goal.loop-at-preserved
loop-at-preserved g c =
    let cells = c.args.text.now.buffer.text in
    let at = c.loop-at.at in
    let end = c.min-end.result in
    let to = c.args.to in
    let until = c.args.until in
    let before = c.loop-at.invariant in
    let one = run_of at end cells in
    let behind = run_behind cells at (omega (arith, c.loop-at-test.true, c.requires.within)) in
    record {
      printed = before.printed ++ one;
      prints = shows_then before.printed one before.prints c.run.ensures;
      shown = append_assoc before.printed one (visible until end (part end to cells))
          ∙ ap (λ l. before.printed ++ l) (run_visible until at end to cells (omega (arith, c.min-end.ensures, c.run_end.ensures, c.loop-at-test.true, behind)) (omega (arith, c.min-end.ensures)) c.requires.within (omega (arith, c.min-end.ensures, c.run_end.ensures)) (before.hidden c.loop-at-test.true))
          ∙ before.shown;
      within = omega (arith, c.min-end.ensures);
      hidden = λ h. omega (arith, before.hidden c.loop-at-test.true, c.min-end.ensures, c.run_end.ensures, c.loop-at-test.true, behind);
    }

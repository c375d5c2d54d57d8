use Rattle.std.proofs.Common.{ap, ◌∙◌, arith}
use Rattle.std.specs.Prelude.{Some}
use Rattle.text_model.specs.Marks.{Overlay}
use Rattle.editor_model.specs.Editor.{change_overlay}
use Rattle.editor_model.specs.OverlayCalls.{kept}
use Rattle.buffer_table.specs.Kept.{editor_of}
use Rattle.prim_questions.proofs.Evaporating.{twice, nowhere}
use Rattle.prim_questions.proofs.overlays.shift.Goals as goal

pub returns-then-count-k : goal.returns-then-count-k
returns-then-count-k c =
    let change : Overlay → Overlay = λ (o : Overlay). kept (record o { span = Some (record { buffer = c.args.id; start = c.args.from; end = c.args.to }) }) in
    record { ok = nowhere (editor_of c.args.editor.now) c.args.k change (omega (arith, c.overlay_count-count.ensures)); err = tt }

pub returns : goal.returns
returns c =
    let change : Overlay → Overlay = λ (o : Overlay). record o { span = Some (record { buffer = c.args.id; start = c.args.from; end = c.args.to }) } in
    record {
      ok = c.evaporate.ensures ∙ ap (change_overlay c.args.k kept) c.in_ok-move_overlay.ensures.ok
          ∙ twice (editor_of c.args.editor.now) c.args.k change kept (omega (arith, c.overlay_count-count.ensures));
      err = tt;
    }

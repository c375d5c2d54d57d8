use Rattle.std.proofs.Common.{ap, ◌∙◌, arith}
use Rattle.std.specs.Prelude.{option_map}
use Rattle.text_model.specs.Properties.{put}
use Rattle.text_model.specs.Marks.{Overlay}
use Rattle.editor_model.specs.Editor.{change_overlay}
use Rattle.editor_model.specs.OverlayCalls.{kept}
use Rattle.ek_types.specs.Property.{number_of, prop_of}
use Rattle.overlay_set.specs.Numbered.{given_of}
use Rattle.buffer_table.specs.Kept.{editor_of}
use Rattle.prim_questions.proofs.Evaporating.{twice, nowhere}
use Rattle.prim_questions.proofs.overlays.put.Goals as goal

pub returns-then-count-k : goal.returns-then-count-k
returns-then-count-k c =
    let given = given_of (option_map (λ p. prop_of p.now) c.args.v) in
    let change : Overlay → Overlay = λ (o : Overlay). kept (record o { props = put o.props (number_of c.args.name) given }) in
    record { ok = nowhere (editor_of c.args.editor.now) c.args.k change (omega (arith, c.overlay_count-count.ensures)); err = tt }

pub returns : goal.returns
returns c =
    let given = given_of (option_map (λ p. prop_of p.now) c.args.v) in
    let change : Overlay → Overlay = λ (o : Overlay). record o { props = put o.props (number_of c.args.name) given } in
    record {
      ok = c.evaporate.ensures ∙ ap (change_overlay c.args.k kept) c.in_ok-put_overlay.ensures.ok
          ∙ twice (editor_of c.args.editor.now) c.args.k change kept (omega (arith, c.overlay_count-count.ensures));
      err = tt;
    }

use Rattle.std.proofs.Common.{ap, subst, flat_map, ◌∙◌}
use Rattle.text_model.specs.Marks.{Marks}
use Rattle.text_model.specs.Characters.{encoded}
use Rattle.buffer_table.specs.Kept.{editor_of}
use Rattle.final_view.specs.Faults.{Views}
use Rattle.final_view.proofs.Viewed.{viewed}
use Rattle.final_view.proofs.buffer_view.view.Goals as goal

pub returns : goal.returns
returns g c =
    let e = editor_of c.args.editor.now in
    let same = viewed e c.args.buffer c.in-Some.text c.bounds-bounds.result.start c.bounds-bounds.result.end c.behind-editor.inside.overlays c.in-Some.ensures c.bounds-bounds.ensures.start c.bounds-bounds.ensures.end (ap (λ (m : Marks). m.overlays) (c.behind-editor.view_is ∙ c.marks.ensures)) in
    subst (λ l. Views (g.K.Sink.state c.args.sink.now) (g.K.Sink.state c.show.new.sink) c.show.result (flat_map encoded l)) same c.show.ensures

use Rattle.std.proofs.Common.{◌≡◌, sym, ap, subst, ◌∙◌}
use Rattle.std.specs.Prelude.{Some}
use Rattle.buffer_table.specs.declared.editor.Editor.TheInside.{Inside}
use Rattle.editor_model.specs.Editor as shown
use Rattle.marker_set.specs.Numbered.{marker_at, spot_of}
use Rattle.buffer_table.specs.Kept.{Kept, IsKept, editor_of}
use Rattle.buffer_table.proofs.Shown.{marker_place}
use Rattle.buffer_table.proofs.editor.Editor.spot.Goals as goal

pub returns-in-Some-clause-place : goal.returns-in-Some-clause-place
returns-in-Some-clause-place c =
    let at : Some (record { buffer = c.in-Some.id; place = c.in-Some.place }) ≡ (shown.marker_of (editor_of c.args.self.now) c.args.k).spot =
    ap spot_of (sym c.in-Some.is) ∙ c.place.ensures ∙ ap (λ (x : Inside). (marker_at x.marks.markers c.args.k).spot) c.self-inside.view_is
    ∙ ap (λ (k : Kept). (marker_at k.marks.markers c.args.k).spot) c.self.view_is in
    marker_place c.args.self.now c.args.k c.in-Some.id c.in-Some.place c.size-size.result (subst IsKept c.self.view_is c.self.invariant) (sym at) c.size-size.ensures.exact c.size-size.ensures.sets

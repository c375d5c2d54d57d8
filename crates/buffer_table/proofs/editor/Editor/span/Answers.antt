use Rattle.std.proofs.Common.{◌≡◌, sym, ap, subst, ◌∙◌}
use Rattle.std.specs.Prelude.{Some}
use Rattle.buffer_table.specs.declared.editor.Editor.TheInside.{Inside}
use Rattle.editor_model.specs.Editor as shown
use Rattle.overlay_set.specs.Numbered.{overlay_at, span_at, span_of}
use Rattle.buffer_table.specs.Kept.{Kept, IsKept, editor_of}
use Rattle.buffer_table.proofs.Shown.{overlay_places}
use Rattle.buffer_table.proofs.editor.Editor.span.Goals as goal

pub returns-in-Some-clause-start : goal.returns-in-Some-clause-start
returns-in-Some-clause-start c =
    let at : Some (span_at (c.in-Some.id, c.in-Some.from, c.in-Some.to)) ≡ (shown.overlay_of (editor_of c.args.self.now) c.args.k).span =
    ap span_of (sym c.in-Some.is) ∙ c.span.ensures ∙ ap (λ (x : Inside). (overlay_at x.marks.overlays c.args.k).span) c.self-inside.view_is
    ∙ ap (λ (k : Kept). (overlay_at k.marks.overlays c.args.k).span) c.self.view_is in
    (overlay_places c.args.self.now c.args.k c.in-Some.id c.in-Some.from c.in-Some.to c.size-size.result (subst IsKept c.self.view_is c.self.invariant) (sym at) c.size-size.ensures.exact c.size-size.ensures.sets).0

pub returns-in-Some-clause-end : goal.returns-in-Some-clause-end
returns-in-Some-clause-end c =
    let at : Some (span_at (c.in-Some.id, c.in-Some.from, c.in-Some.to)) ≡ (shown.overlay_of (editor_of c.args.self.now) c.args.k).span =
    ap span_of (sym c.in-Some.is) ∙ c.span.ensures ∙ ap (λ (x : Inside). (overlay_at x.marks.overlays c.args.k).span) c.self-inside.view_is
    ∙ ap (λ (k : Kept). (overlay_at k.marks.overlays c.args.k).span) c.self.view_is in
    (overlay_places c.args.self.now c.args.k c.in-Some.id c.in-Some.from c.in-Some.to c.size-size.result (subst IsKept c.self.view_is c.self.invariant) (sym at) c.size-size.ensures.exact c.size-size.ensures.sets).1

use Rattle.std.proofs.Common.{ℕ, Bool, All, sym, subst}
use Rattle.std.proofs.lemmas.List.Elements.{All-push}
use Rattle.text_model.specs.Marks.{Marks}
use Rattle.marker_set.specs.Numbered.{nowhere}
use Rattle.buffer_core.specs.Standing.{AreWithin, MarkerWithin}
use Rattle.buffer_table.specs.Kept.{Kept, is_live}
use Rattle.buffer_table.specs.Standing.{MarkerIn, StandIn}
use Rattle.buffer_table.proofs.MarkLemmas.{marks_only, marker_made}
use Rattle.buffer_table.proofs.editor.Editor.make_marker_reserved.Goals as goal

pub invariant_of-self : goal.invariant_of-self
invariant_of-self c =
    let kept : Kept = record { buffers = c.self.inside.buffers.items; current = c.self.inside.current; marks = c.self.inside.marks; registers = c.self.inside.registers.items; pool = c.self.inside.pool; lifted = c.self.inside.lifted } in
    let old : Marks = record { markers = c.marks.inside.markers; overlays = c.marks.inside.overlays; saved = c.marks.inside.saved } in
    let new : Marks = record old { markers = c.make_reserved.new.self } in
    let among : ℕ → Bool = is_live c.self.inside.buffers.items in
    let stood : StandIn among old = subst (StandIn among) (sym c.marks.view_is) c.self.invariant.all.stand in
    marks_only kept new c.self.invariant
    (record { markers = subst (All (MarkerIn among)) (sym c.make_reserved.ensures.markers) (All-push (MarkerIn among) c.marks.inside.markers nowhere stood.markers tt); overlays = stood.overlays })
    (λ id size stands w. let was : AreWithin id size old = subst (λ (m : Marks). AreWithin id size m) (sym c.marks.view_is) w in
    record { markers = subst (All (MarkerWithin id size)) (sym c.make_reserved.ensures.markers) (marker_made id size c.marks.inside.markers was.markers); overlays = was.overlays; saved = was.saved })

use Rattle.std.proofs.Common.{ℕ, Bool, All, sym, subst}
use Rattle.std.specs.Prelude.{IfSome}
use Rattle.std.proofs.lemmas.List.Elements.{All-set}
use Rattle.text_model.specs.Marks.{Marks}
use Rattle.marker_set.specs.Numbered.{marker_at, spot_of}
use Rattle.buffer_core.specs.Standing.{AreWithin, MarkerWithin}
use Rattle.buffer_table.specs.Kept.{Kept, is_live, editor_of}
use Rattle.buffer_table.specs.Standing.{MarkerIn, StandIn}
use Rattle.buffer_table.specs.Places.{IsPlace}
use Rattle.buffer_table.proofs.MarkLemmas.{marker_put, marks_only, marker_placed}
use Rattle.buffer_table.proofs.editor.Editor.set_marker.Goals as goal

pub invariant_of-self : goal.invariant_of-self
invariant_of-self c =
    let kept : Kept = record { buffers = c.self.inside.buffers.items; current = c.self.inside.current; marks = c.self.inside.marks; registers = c.self.inside.registers.items; pool = c.self.inside.pool; lifted = c.self.inside.lifted } in
    let old : Marks = record { markers = c.marks.inside.markers; overlays = c.marks.inside.overlays; saved = c.marks.inside.saved } in
    let new : Marks = record { markers = c.set.new.self; overlays = c.marks.inside.overlays; saved = c.marks.inside.saved } in
    let place : IfSome c.args.to (λ p. IsPlace (editor_of kept) p.0 p.1) = subst (λ (k : Kept). IfSome c.args.to (λ p. IsPlace (editor_of k) p.0 p.1)) (sym c.self.view_is) c.requires.place in
    let among : ℕ → Bool = is_live c.self.inside.buffers.items in
    let stood : StandIn among old = subst (StandIn among) (sym c.marks.view_is) c.self.invariant.all.stand in
    marks_only kept new c.self.invariant
    (record { markers = subst (All (MarkerIn among)) (sym c.set.ensures) (All-set (MarkerIn among) c.marks.inside.markers c.args.k (record (marker_at c.marks.inside.markers c.args.k) { spot = spot_of c.args.to }) (marker_put kept (marker_at c.marks.inside.markers c.args.k) c.args.to place) stood.markers); overlays = stood.overlays })
    (λ id size stands w. let was : AreWithin id size old = subst (λ (m : Marks). AreWithin id size m) (sym c.marks.view_is) w in
    record { markers = subst (All (MarkerWithin id size)) (sym c.set.ensures) (All-set (MarkerWithin id size) c.marks.inside.markers c.args.k (record (marker_at c.marks.inside.markers c.args.k) { spot = spot_of c.args.to }) (marker_placed kept (marker_at c.marks.inside.markers c.args.k) c.args.to id size stands place) was.markers); overlays = was.overlays; saved = was.saved })

use Rattle.std.proofs.Common.{ℕ, Bool, All, sym, subst}
use Rattle.std.specs.Prelude.{slice_set, Some}
use Rattle.std.proofs.lemmas.List.Elements.{All-set}
use Rattle.text_model.specs.Marks.{Marks, Overlay}
use Rattle.overlay_set.specs.Numbered.{overlay_at, span_at}
use Rattle.buffer_core.specs.Standing.{AreWithin, OverlayWithin}
use Rattle.buffer_table.specs.Kept.{Kept, is_live, editor_of}
use Rattle.buffer_table.specs.Standing.{OverlayIn, StandIn}
use Rattle.buffer_table.specs.Places.{IsPlace}
use Rattle.buffer_table.proofs.MarkLemmas.{overlay_put, marks_only, made_or_not, overlay_placed}
use Rattle.buffer_table.proofs.editor.Editor.move_overlay.Goals as goal

pub invariant_of-self : goal.invariant_of-self
invariant_of-self c =
    let kept : Kept = record { buffers = c.self.inside.buffers.items; current = c.self.inside.current; marks = c.self.inside.marks; registers = c.self.inside.registers.items; pool = c.self.inside.pool; lifted = c.self.inside.lifted } in
    let old : Marks = record { markers = c.marks.inside.markers; overlays = c.marks.inside.overlays; saved = c.marks.inside.saved } in
    let new : Marks = record { markers = c.marks.inside.markers; overlays = c.shift.new.self; saved = c.marks.inside.saved } in
    let place : IsPlace (editor_of kept) c.args.id c.args.to = subst (λ (k : Kept). IsPlace (editor_of k) c.args.id c.args.to) (sym c.self.view_is) c.requires.place in
    let moved : Overlay = record (overlay_at c.marks.inside.overlays c.args.k) { span = Some (span_at (c.args.id, c.args.from, c.args.to)) } in
    let among : ℕ → Bool = is_live c.self.inside.buffers.items in
    let stood : StandIn among old = subst (StandIn among) (sym c.marks.view_is) c.self.invariant.all.stand in
    marks_only kept new c.self.invariant
    (record { markers = stood.markers; overlays = made_or_not (All (OverlayIn among)) c.shift.result c.shift.new.self (slice_set c.marks.inside.overlays c.args.k moved) c.marks.inside.overlays c.shift.ensures.ok c.shift.ensures.err (All-set (OverlayIn among) c.marks.inside.overlays c.args.k moved (overlay_put kept moved c.args.id c.args.from c.args.to place) stood.overlays) stood.overlays })
    (λ id size stands w. let was : AreWithin id size old = subst (λ (m : Marks). AreWithin id size m) (sym c.marks.view_is) w in
    record { markers = was.markers; overlays = made_or_not (All (OverlayWithin id size)) c.shift.result c.shift.new.self (slice_set c.marks.inside.overlays c.args.k moved) c.marks.inside.overlays c.shift.ensures.ok c.shift.ensures.err (All-set (OverlayWithin id size) c.marks.inside.overlays c.args.k moved (overlay_placed kept moved c.args.id c.args.from c.args.to id size stands c.requires.order place) was.overlays) was.overlays; saved = was.saved })

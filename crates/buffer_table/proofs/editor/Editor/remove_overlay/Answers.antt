use Rattle.std.proofs.Common.{ℕ, Bool, All, sym, subst}
use Rattle.std.specs.Prelude.{None}
use Rattle.std.proofs.lemmas.List.Elements.{All-set}
use Rattle.text_model.specs.Marks.{Marks}
use Rattle.overlay_set.specs.Numbered.{overlay_at}
use Rattle.buffer_core.specs.Standing.{AreWithin, OverlayWithin}
use Rattle.buffer_table.specs.Kept.{Kept, is_live}
use Rattle.buffer_table.specs.Standing.{OverlayIn, StandIn}
use Rattle.buffer_table.proofs.MarkLemmas.{marks_only}
use Rattle.buffer_table.proofs.editor.Editor.remove_overlay.Goals as goal

pub invariant_of-self : goal.invariant_of-self
invariant_of-self c =
    let kept : Kept = record { buffers = c.self.inside.buffers.items; current = c.self.inside.current; marks = c.self.inside.marks; registers = c.self.inside.registers.items; pool = c.self.inside.pool; lifted = c.self.inside.lifted } in
    let old : Marks = record { markers = c.marks.inside.markers; overlays = c.marks.inside.overlays; saved = c.marks.inside.saved } in
    let new : Marks = record { markers = c.marks.inside.markers; overlays = c.remove.new.self; saved = c.marks.inside.saved } in
    let among : ℕ → Bool = is_live c.self.inside.buffers.items in
    let stood : StandIn among old = subst (StandIn among) (sym c.marks.view_is) c.self.invariant.all.stand in
    marks_only kept new c.self.invariant
    (record { markers = stood.markers; overlays = subst (All (OverlayIn among)) (sym c.remove.ensures) (All-set (OverlayIn among) c.marks.inside.overlays c.args.k (record (overlay_at c.marks.inside.overlays c.args.k) { span = None }) tt stood.overlays) })
    (λ id size stands w. let was : AreWithin id size old = subst (λ (m : Marks). AreWithin id size m) (sym c.marks.view_is) w in
    record { markers = was.markers; overlays = subst (All (OverlayWithin id size)) (sym c.remove.ensures) (All-set (OverlayWithin id size) c.marks.inside.overlays c.args.k (record (overlay_at c.marks.inside.overlays c.args.k) { span = None }) tt was.overlays); saved = was.saved })

use Rattle.std.proofs.Common.{ℕ, Bool, All, sym, subst}
use Rattle.std.specs.Prelude.{slice_set, option_map}
use Rattle.std.proofs.lemmas.List.Elements.{All-set}
use Rattle.text_model.specs.Properties.{put}
use Rattle.text_model.specs.Marks.{Marks, Overlay}
use Rattle.ek_types.specs.Property.{prop_of, number_of}
use Rattle.overlay_set.specs.Numbered.{overlay_at, given_of}
use Rattle.buffer_core.specs.Standing.{AreWithin, OverlayWithin}
use Rattle.buffer_table.specs.Kept.{Kept, is_live}
use Rattle.buffer_table.specs.Standing.{OverlayIn, StandIn}
use Rattle.buffer_table.proofs.MarkLemmas.{overlay_alike, marks_only, made_or_not, overlay_found}
use Rattle.buffer_table.proofs.editor.Editor.put_overlay.Goals as goal

pub invariant_of-self : goal.invariant_of-self
invariant_of-self c =
    let kept : Kept = record { buffers = c.self.inside.buffers.items; current = c.self.inside.current; marks = c.self.inside.marks; registers = c.self.inside.registers.items; pool = c.self.inside.pool; lifted = c.self.inside.lifted } in
    let old : Marks = record { markers = c.marks.inside.markers; overlays = c.marks.inside.overlays; saved = c.marks.inside.saved } in
    let new : Marks = record { markers = c.marks.inside.markers; overlays = c.put.new.self; saved = c.marks.inside.saved } in
    let given : Overlay = record (overlay_at c.marks.inside.overlays c.args.k) { props = put (overlay_at c.marks.inside.overlays c.args.k).props (number_of c.args.name) (given_of (option_map (λ p. prop_of p.now) c.args.v)) } in
    let among : ℕ → Bool = is_live c.self.inside.buffers.items in
    let stood : StandIn among old = subst (StandIn among) (sym c.marks.view_is) c.self.invariant.all.stand in
    marks_only kept new c.self.invariant
    (record { markers = stood.markers; overlays = made_or_not (All (OverlayIn among)) c.put.result c.put.new.self (slice_set c.marks.inside.overlays c.args.k given) c.marks.inside.overlays c.put.ensures.ok c.put.ensures.err (All-set (OverlayIn among) c.marks.inside.overlays c.args.k given (overlay_alike among c.marks.inside.overlays c.args.k stood.overlays) stood.overlays) stood.overlays })
    (λ id size stands w. let was : AreWithin id size old = subst (λ (m : Marks). AreWithin id size m) (sym c.marks.view_is) w in
    record { markers = was.markers; overlays = made_or_not (All (OverlayWithin id size)) c.put.result c.put.new.self (slice_set c.marks.inside.overlays c.args.k given) c.marks.inside.overlays c.put.ensures.ok c.put.ensures.err (All-set (OverlayWithin id size) c.marks.inside.overlays c.args.k given (overlay_found id size c.marks.inside.overlays c.args.k was.overlays) was.overlays) was.overlays; saved = was.saved })

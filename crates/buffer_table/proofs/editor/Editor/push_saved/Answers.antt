use Rattle.std.proofs.Common.{ℕ, Bool, ◌∷◌, All, sym, subst}
use Rattle.std.proofs.lemmas.List.Elements.{All-cons}
use Rattle.text_model.specs.Marks.{Marks}
use Rattle.narrow_region.specs.Kept.{kept_of}
use Rattle.buffer_core.specs.Standing.{AreWithin, SavedWithin}
use Rattle.buffer_table.specs.Kept.{Kept, is_live, editor_of}
use Rattle.buffer_table.specs.Standing.{StandIn}
use Rattle.buffer_table.specs.Places.{IsKeptPlace}
use Rattle.buffer_table.proofs.MarkLemmas.{marks_only, made_or_not, saved_placed}
use Rattle.buffer_table.proofs.editor.Editor.push_saved.Goals as goal

pub invariant_of-self : goal.invariant_of-self
invariant_of-self c =
    let kept : Kept = record { buffers = c.self.inside.buffers.items; current = c.self.inside.current; marks = c.self.inside.marks; registers = c.self.inside.registers.items; pool = c.self.inside.pool; lifted = c.self.inside.lifted } in
    let old : Marks = record { markers = c.marks.inside.markers; overlays = c.marks.inside.overlays; saved = c.marks.inside.saved } in
    let new : Marks = record { markers = c.marks.inside.markers; overlays = c.marks.inside.overlays; saved = c.push.new.self } in
    let place : IsKeptPlace (editor_of kept) (kept_of c.args.s) = subst (λ (k : Kept). IsKeptPlace (editor_of k) (kept_of c.args.s)) (sym c.self.view_is) c.requires in
    let among : ℕ → Bool = is_live c.self.inside.buffers.items in
    let stood : StandIn among old = subst (StandIn among) (sym c.marks.view_is) c.self.invariant.all.stand in
    marks_only kept new c.self.invariant
    (record { markers = stood.markers; overlays = stood.overlays })
    (λ id size stands w. let was : AreWithin id size old = subst (λ (m : Marks). AreWithin id size m) (sym c.marks.view_is) w in
    record { markers = was.markers; overlays = was.overlays; saved = made_or_not (All (SavedWithin id size)) c.push.result c.push.new.self (kept_of c.args.s ∷ c.marks.inside.saved) c.marks.inside.saved c.push.ensures.ok c.push.ensures.err (All-cons (SavedWithin id size) (kept_of c.args.s) c.marks.inside.saved (saved_placed kept (kept_of c.args.s) id size stands place) was.saved) was.saved })

use Rattle.std.proofs.Common.{ℕ, Bool, List, All, length, refl, sym, ap, subst, ◌∙◌}
use Rattle.std.proofs.lemmas.List.Elements.{All-head}
use Rattle.std.proofs.lemmas.Option.{IfSome_then}
use Rattle.text_model.specs.Marks.{Marks, Saved}
use Rattle.editor_model.specs.Editor.{Editor}
use Rattle.narrow_region.specs.Kept.{kept_of, buffer_of}
use Rattle.buffer_core.specs.Standing.{AreWithin, SavedWithin}
use Rattle.buffer_table.specs.Kept.{Kept, is_live, editor_of}
use Rattle.buffer_table.specs.Standing.{StandIn}
use Rattle.buffer_table.proofs.MarkLemmas.{marks_only, saved_popped}
use Rattle.buffer_table.proofs.editor.Editor.take_saved.Goals as goal

pub invariant_of-self : goal.invariant_of-self
invariant_of-self c =
    let kept : Kept = record { buffers = c.self.inside.buffers.items; current = c.self.inside.current; marks = c.self.inside.marks; registers = c.self.inside.registers.items; pool = c.self.inside.pool; lifted = c.self.inside.lifted } in
    let old : Marks = record { markers = c.marks.inside.markers; overlays = c.marks.inside.overlays; saved = c.marks.inside.saved } in
    let new : Marks = record { markers = c.marks.inside.markers; overlays = c.marks.inside.overlays; saved = c.pop.new.self } in
    let among : ℕ → Bool = is_live c.self.inside.buffers.items in
    let stood : StandIn among old = subst (StandIn among) (sym c.marks.view_is) c.self.invariant.all.stand in
    marks_only kept new c.self.invariant
    (record { markers = stood.markers; overlays = stood.overlays })
    (λ id size stands w. let was : AreWithin id size old = subst (λ (m : Marks). AreWithin id size m) (sym c.marks.view_is) w in
    record { markers = was.markers; overlays = was.overlays; saved = saved_popped id size c.pop.result kept_of c.marks.inside.saved c.pop.new.self c.pop.ensures.newest c.pop.ensures.unchanged was.saved })

pub returns-clause-newest : goal.returns-clause-newest
returns-clause-newest c =
    let kept : Kept = record { buffers = c.self.inside.buffers.items; current = c.self.inside.current; marks = c.self.inside.marks; registers = c.self.inside.registers.items; pool = c.self.inside.pool; lifted = c.self.inside.lifted } in
    IfSome_then c.pop.result c.pop.ensures.newest
    (λ s e. sym (ap editor_of c.self.view_is) ∙ ap (λ (m : Marks). let x : Editor = record (editor_of kept) { marks = m } in x) (sym c.marks.view_is)
    ∙ ap (λ (ss : List Saved). let x : Editor = record (editor_of kept) { marks = record { markers = c.marks.inside.markers; overlays = c.marks.inside.overlays; saved = ss } } in x) e)

pub returns-clause-within : goal.returns-clause-within
returns-clause-within c =
    let old : Marks = record { markers = c.marks.inside.markers; overlays = c.marks.inside.overlays; saved = c.marks.inside.saved } in
    IfSome_then c.pop.result c.pop.ensures.newest
    (λ s e n l.
    let was : AreWithin (buffer_of (kept_of s)) (length n.buffer.sets) old = subst (λ (m : Marks). AreWithin (buffer_of (kept_of s)) (length n.buffer.sets) m) (sym c.marks.view_is) (c.self.invariant.all.within (buffer_of (kept_of s)) n l) in
    All-head (SavedWithin (buffer_of (kept_of s)) (length n.buffer.sets)) (kept_of s) c.pop.new.self (subst (All (SavedWithin (buffer_of (kept_of s)) (length n.buffer.sets))) e was.saved) refl)

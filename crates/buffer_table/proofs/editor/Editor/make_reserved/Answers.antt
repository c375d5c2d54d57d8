use Rattle.std.proofs.Common.{true, ◌≡◌, ◌≢◌, ℕ, ◌<◌, ◌++◌, List, [], ◌∷◌, Option, Some, None, length, sym, ap, subst, ◌∙◌, arith}
use Rattle.std.specs.Prelude.{option_map}
use Rattle.std.proofs.lemmas.List.{length-map}
use Rattle.text_model.specs.Characters.{Ch}
use Rattle.editor_model.specs.Editor as shown
use Rattle.buffer_table.specs.Room.{Room}
use Rattle.buffer_table.specs.Kept.{Named, Kept, Lives, IsKept, is_live, named_at, live_of, editor_of}
use Rattle.buffer_table.proofs.NameLemmas.{name_is_free}
use Rattle.buffer_table.proofs.KeptLemmas.{kept_with, editor_with, live_last, live_out}
use Rattle.buffer_table.proofs.Removing.{front_kept}
use Rattle.buffer_table.proofs.editor.Editor.make_reserved.Goals as goal

pub invariant_of-self : goal.invariant_of-self
invariant_of-self c =
    let kept : Kept = record { buffers = c.self.inside.buffers.items; current = c.self.inside.current; marks = c.self.inside.marks; registers = c.self.inside.registers.items; pool = c.self.inside.pool; lifted = c.self.inside.lifted } in
    let new : Named = c.new-live.result in
    let items : c.push_reserved.new.self.items ≡ c.self.inside.buffers.items ++ Some new ∷ [] = c.push_reserved.ensures.items ∙ ap (λ (bs : List (Option Named)). bs ++ Some new ∷ []) c.move_to.ensures.items in
    let name : c.new-live.result.name ≡ c.args.room.name = c.new-live.ensures.name ∙ ap (λ (r : Room). r.name) c.room.view_is in
    let none : shown.find (editor_of kept) c.args.room.name ≡ None = subst (λ (k : Kept). shown.find (editor_of k) c.args.room.name ≡ None) (sym c.self.view_is) c.requires.free in
    let free : (j : ℕ) (m : Named) → Lives c.self.inside.buffers.items j m → m.name ≢ c.new-live.result.name = λ j m l e. name_is_free kept c.args.room.name none j m l (e ∙ name) in
    let few : length c.self.inside.buffers.items < 256 = omega (arith, c.requires.few, ap (λ (k : Kept). length (editor_of k).buffers) c.self.view_is, length-map c.self.inside.buffers.items (option_map (live_of c.self.inside.pool))) in
    subst (λ (bs : List (Option Named)). IsKept (record { buffers = bs; current = c.self.inside.current; marks = c.self.inside.marks; registers = c.self.inside.registers.items; pool = c.self.inside.pool; lifted = c.self.inside.lifted })) (sym items)
    (kept_with kept new c.self.invariant few free c.new-live.ensures.blocks c.new-live.ensures.sets (c.new-live.ensures.lies c.self.inside.pool))

pub returns-clause-editor : goal.returns-clause-editor
returns-clause-editor c =
    let kept : Kept = record { buffers = c.self.inside.buffers.items; current = c.self.inside.current; marks = c.self.inside.marks; registers = c.self.inside.registers.items; pool = c.self.inside.pool; lifted = c.self.inside.lifted } in
    let new : Named = c.new-live.result in
    let items : c.push_reserved.new.self.items ≡ c.self.inside.buffers.items ++ Some new ∷ [] = c.push_reserved.ensures.items ∙ ap (λ (bs : List (Option Named)). bs ++ Some new ∷ []) c.move_to.ensures.items in
    ap (λ (bs : List (Option Named)). let k : Kept = record { buffers = bs; current = c.self.inside.current; marks = c.self.inside.marks; registers = c.self.inside.registers.items; pool = c.self.inside.pool; lifted = c.self.inside.lifted } in editor_of k) items
    ∙ editor_with kept c.room.inside.name.items c.new-live.result (c.new-live.ensures.shown c.self.inside.pool)
    ∙ ap (λ (n : List Ch). shown.with_buffer n (editor_of kept)) (ap (λ (r : Room). r.name) c.room.view_is)
    ∙ ap (λ (k : Kept). shown.with_buffer c.args.room.name (editor_of k)) c.self.view_is

pub returns-clause-others : goal.returns-clause-others
returns-clause-others c id h =
    let new : Named = c.new-live.result in
    let items : c.push_reserved.new.self.items ≡ c.self.inside.buffers.items ++ Some new ∷ [] = c.push_reserved.ensures.items ∙ ap (λ (bs : List (Option Named)). bs ++ Some new ∷ []) c.move_to.ensures.items in
    ap (λ (bs : List (Option Named)). named_at bs id) items
    ∙ front_kept c.self.inside.buffers.items (Some new) id (omega (arith, h, ap (λ (k : Kept). length k.buffers) c.self.view_is))
    ∙ ap (λ (k : Kept). named_at k.buffers id) c.self.view_is

pub returns-clause-live : goal.returns-clause-live
returns-clause-live c =
    let new : Named = c.new-live.result in
    let items : c.push_reserved.new.self.items ≡ c.self.inside.buffers.items ++ Some new ∷ [] = c.push_reserved.ensures.items ∙ ap (λ (bs : List (Option Named)). bs ++ Some new ∷ []) c.move_to.ensures.items in
    let number : c.len-number.result ≡ length c.self.inside.buffers.items = omega (arith, c.len-number.ensures, c.self.inside.buffers.ok.0) in
    let now : Kept = record { buffers = c.push_reserved.new.self.items; current = c.self.inside.current; marks = c.self.inside.marks; registers = c.self.inside.registers.items; pool = c.self.inside.pool; lifted = c.self.inside.lifted } in
    live_out now c.len-number.result
    (subst (λ i. is_live c.push_reserved.new.self.items i ≡ true) (sym number) (subst (λ (bs : List (Option Named)). is_live bs (length c.self.inside.buffers.items) ≡ true) (sym items) (live_last c.self.inside.buffers.items new)))

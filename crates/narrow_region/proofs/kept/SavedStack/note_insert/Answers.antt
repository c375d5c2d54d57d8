use Rattle.std.proofs.Common.{◌≡◌, map, reverse, All, ap, subst, sym, ◌∙◌, arith}
use Rattle.std.proofs.lemmas.List.{length-map, reverse-reverse, with_items_is}
use Rattle.std.specs.Vec.{with_items}
use Rattle.text_model.specs.Marks.{move_saved, insertion}
use Rattle.ek_types.proofs.InTurn.{next_moved, moved_at_end, next_holds, All-reverse, map-reverse}
use Rattle.narrow_region.specs.Kept.{kept_of, IsOrdered, HasRoomFor}
use Rattle.narrow_region.specs.declared.kept.Saved.{Saved}
use Rattle.narrow_region.specs.declared.kept.Saved.TheVariants.{Excursion}
use Rattle.narrow_region.proofs.Ordered.{moved_ordered, insertion_ordered}
use Rattle.narrow_region.proofs.kept.SavedStack.note_insert.Goals as goal

pub loop-item-preserved : goal.loop-item-preserved
loop-item-preserved c =
    next_moved kept_of (move_saved c.args.buffer (insertion c.args.at c.args.n)) c.loop-item.item-items _ c.loop-item.item-index (Excursion 0 0) c.after_insert.result (omega arith) c.after_insert.ensures c.loop-item.invariant

pub returns : goal.returns
returns c =
    let move = move_saved c.args.buffer (insertion c.args.at c.args.n) in
    let olds = map kept_of c.deref_mut-item-items.result.now in
    let same : (with_items c.self.inside.items c.loop-item.item-items).items ≡ c.loop-item.item-items = with_items_is c.self.inside.items c.loop-item.item-items (omega arith) in
    ap (λ xs. reverse (map kept_of xs)) same
    ∙ ap reverse (moved_at_end kept_of move c.loop-item.item-items olds c.loop-item.item-index (omega (arith, length-map c.deref_mut-item-items.result.now kept_of)) c.loop-item.invariant)
    ∙ sym (map-reverse move olds)
    ∙ ap (map move) (ap (λ xs. reverse (map kept_of xs)) c.deref_mut-item-items.ensures.value ∙ c.self.view_is)

pub after_insert-requires : goal.after_insert-requires
after_insert-requires c =
    let P = HasRoomFor c.args.buffer c.args.n in
    let kept = map kept_of c.self.inside.items.items in
    let all : All P kept = subst (All P) (reverse-reverse kept) (All-reverse P (reverse kept) (subst (All P) (sym c.self.view_is) c.requires)) in
    next_holds P kept_of (move_saved c.args.buffer (insertion c.args.at c.args.n)) c.loop-item.item-items _ c.loop-item.item-index (Excursion 0 0) (omega arith)
    (subst (All P) (ap (λ xs. map kept_of xs) (sym c.deref_mut-item-items.ensures.value)) all) c.loop-item.invariant

pub invariant_of-self : goal.invariant_of-self
invariant_of-self c =
    let move = move_saved c.args.buffer (insertion c.args.at c.args.n) in
    let olds = c.deref_mut-item-items.result.now in
    let same : (with_items c.self.inside.items c.loop-item.item-items).items ≡ c.loop-item.item-items = with_items_is c.self.inside.items c.loop-item.item-items (omega arith) in
    let ordered : All (λ (s : Saved). IsOrdered (kept_of s)) olds = subst (All (λ (s : Saved). IsOrdered (kept_of s))) (sym c.deref_mut-item-items.ensures.value) c.self.invariant in
    moved_ordered move (insertion_ordered c.args.buffer c.args.at c.args.n) olds (with_items c.self.inside.items c.loop-item.item-items).items
    (ap (map kept_of) same ∙ moved_at_end kept_of move c.loop-item.item-items (map kept_of olds) c.loop-item.item-index (omega (arith, length-map olds kept_of)) c.loop-item.invariant)
    ordered

use Rattle.std.proofs.Common.{◌≡◌, map, ap, sym, ◌∙◌}
use Rattle.text_model.specs.Marks.{Overlay}
use Rattle.overlay_set.specs.Numbered.{overlay_at}
use Rattle.overlay_set.specs.Slots.{bare_of, with_span, moved_by}
use Rattle.overlay_set.specs.Entries.{entry_of}
use Rattle.overlay_set.proofs.Lists.{slot_at}
use Rattle.overlay_set.proofs.moves.moved_stretch.Goals as goal

pub returns-then-not-is_touched : goal.returns-then-not-is_touched
returns-then-not-is_touched c =
    let e = c.args.entry in
    sym (ap (λ (o : Overlay). entry_of e.number o.span) (c.is_touched.ensures.stays c.if-not-is_touched.true (overlay_at (map bare_of c.args.slots.now) e.number)))

pub returns : goal.returns
returns c =
    let e = c.args.entry in
    let own : overlay_at (map bare_of c.args.slots.now) e.number ≡ bare_of c.index-slots-entry.result = slot_at c.args.slots.now e.number c.index-slots-entry.result c.requires.made c.index-slots-entry.is in
    ap (λ (o : Overlay). entry_of e.number o.span) (c.moved.ensures ∙ ap (λ (o : Overlay). moved_by c.args.buffer c.args.change (with_span o e.stretch)) (sym own))

use Rattle.std.proofs.Common.{◌≡◌, ◌+◌, ◌<◌, length, map, true, ap, sym, subst, ◌∙◌, arith}
use Rattle.std.proofs.lemmas.List.{length-map}
use Rattle.text_model.specs.Undo.{fits}
use Rattle.undo_list.specs.Records.{entry_of}
use Rattle.undo_list.specs.State.{Held}
use Rattle.undo_list.specs.declared.records.Entry.{Entry}
use Rattle.undo_list.proofs.Parts.{kept_so_far, part_so_far}
use Rattle.undo_list.proofs.records.Records.part.Goals as goal

pub overflow_add-kept : goal.overflow_add-kept
overflow_add-kept c =
    let xs = c.self.inside.entries.items in
    let size : length (map entry_of xs) ≡ length c.args.self.now.entries = ap (λ (h : Held). length h.entries) c.self.view_is in
    let within : c.loop-i.i < length xs = omega (arith, size, length-map xs entry_of, c.requires.range, c.loop-i-test.true) in
    let fit : fits (map entry_of xs) ≡ true = subst (λ (h : Held). fits h.entries ≡ true) (sym c.self.view_is) c.requires.fits in
    let small = kept_so_far xs c.loop-i.entries.items c.args.from c.loop-i.i c.loop-i.kept c.index-entry.result.now c.loop-i.auto.i within c.index-entry.ensures fit c.loop-i.invariant.0 c.loop-i.invariant.1 in
    omega (arith, small, c.size.ensures)

pub loop-i-preserved : goal.loop-i-preserved
loop-i-preserved c =
    let xs = c.self.inside.entries.items in
    let size : length (map entry_of xs) ≡ length c.args.self.now.entries = ap (λ (h : Held). length h.entries) c.self.view_is in
    let within : c.loop-i.i < length xs = omega (arith, size, length-map xs entry_of, c.requires.range, c.loop-i-test.true) in
    let copied : Entry = record { what = c.in_ok-copy.field-0; serial = c.index-entry.result.now.serial } in
    let on = part_so_far xs c.loop-i.entries.items c.push_back.new.self.items c.args.from c.loop-i.i c.loop-i.kept c.index-entry.result.now copied c.loop-i.auto.i within c.index-entry.ensures
    c.loop-i.invariant.0 c.loop-i.invariant.1 c.in_ok-push_back.ensures.items (ap (λ r. record { what = r; serial = c.index-entry.result.now.serial }) c.in_ok-copy.ensures) in
    (on.0, ap (λ n. c.loop-i.kept + n) c.size.ensures ∙ on.1)

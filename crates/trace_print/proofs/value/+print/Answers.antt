use Rattle.std.proofs.Common.{◌≡◌, ◌∙◌, ap, sym, arith, map}
use Rattle.std.specs.Option.{option_map}
use Rattle.std.proofs.lemmas.List.{length-map}
use Rattle.std.proofs.lemmas.Option.{slice_get-map}
use Rattle.editor_model.specs.Values.{Dotted, values}
use Rattle.plain_machine.specs.Lines.{shown}
use Rattle.ek_types.specs.Listing.{items_of}
use Rattle.ek_call.specs.Meaning.{view}
use Rattle.ek_call.specs.declared.value.Value.{fold-roll-Value}
use Rattle.ek_call.specs.declared.value.Value.TheVariants as written
use Rattle.ek_call.specs.declared.value.Value.TheOpen.{Value-F}
use Rattle.trace_print.specs.Standing.{state_of}
use Rattle.sink_printer.proofs.Printing.{prints_then, prints_same, prints_nothing}
use Rattle.trace_print.proofs.Spaced.{spaced_item, spaced_all}
use Rattle.trace_print.proofs.Values.{list_shown, dotted_shown, view_str, view_list}
use Rattle.trace_print.proofs.value.+print.Goals as goal

pub value-returns-in-Str : goal.value-returns-in-Str
value-returns-in-Str g t c =
    let seen = ap view c.in-Str.is ∙ view_str c.in-Str.text in
    prints_same (ap (shown c.args.names.now.symbols.now (state_of c.args.names.now)) (sym seen)) c.string.ensures

pub value-returns-in-List : goal.value-returns-in-List
value-returns-in-List g t c =
    let seen = ap view c.in-List.is ∙ view_list c.in-List.items in
    prints_same (list_shown c.args.names.now.symbols.now (state_of c.args.names.now) (map view (items_of c.in-List.items)) ∙ ap (shown c.args.names.now.symbols.now (state_of c.args.names.now)) (sym seen))
    ((prints_then c.put-in-List.ensures (prints_then c.values.ensures c.put-in-List-2.ensures)))

pub value-returns-in-Dot : goal.value-returns-in-Dot
value-returns-in-Dot g t c =
    let seen : view c.args.v.now ≡ Dotted (values (map view (items_of c.in-Dot.items))) (view c.in-Dot.tail.value) = ap view (c.in-Dot.is ∙ sym (written.rolls-Dot c.in-Dot.items c.in-Dot.tail)) ∙ fold-roll-Value _ _ (Value-F.Dot c.in-Dot.items c.in-Dot.tail) in
    (prints_same (dotted_shown c.args.names.now.symbols.now (state_of c.args.names.now) (map view (items_of c.in-Dot.items)) (view c.in-Dot.tail.value) ∙ ap (shown c.args.names.now.symbols.now (state_of c.args.names.now)) (sym seen))
    (prints_then c.put-in-Dot.ensures (prints_then (prints_then c.values-in-Dot.ensures (prints_then c.put-in-Dot-2.ensures (rw c.deref.ensures at c.value.ensures))) c.put-in-Dot-3.ensures)))

pub values-loop-i-init : goal.values-loop-i-init
values-loop-i-init g t c = prints_nothing

pub values-loop-i-preserved : goal.values-loop-i-preserved
values-loop-i-preserved g t c =
    let found = slice_get-map view (items_of c.args.values.now) c.loop-i.i ∙ ap (option_map view) c.at.ensures in
    prints_same (spaced_item (shown c.args.names.now.symbols.now (state_of c.args.names.now)) (map view (items_of c.args.values.now)) c.loop-i.i _ found) (prints_then c.loop-i.invariant (prints_then c.gap.ensures c.value.ensures))

pub values-returns : goal.values-returns
values-returns g t c =
    let count = length-map (items_of c.args.values.now) view in
    prints_same (spaced_all (shown c.args.names.now.symbols.now (state_of c.args.names.now)) (map view (items_of c.args.values.now)) c.loop-i.i (omega (arith, count, c.len-i-end.ensures, c.loop-i-test.false))) c.loop-i.invariant

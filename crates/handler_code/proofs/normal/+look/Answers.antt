use Rattle.std.proofs.Common.{◌≡◌, ◌<◌, map, take, ap, sym, ◌∙◌, length, take_all, arith}
use Rattle.std.proofs.lemmas.List.{length-map}
use Rattle.text_model.proofs.Lists.{take_one_more}
use Rattle.editor_model.specs.Values.{Items, Dotted, values}
use Rattle.plain_machine.specs.Natives.{normal, normal_each}
use Rattle.ek_types.specs.Listing.{items_of}
use Rattle.ek_call.specs.Meaning.{view}
use Rattle.handler_code.proofs.ValueLists.{one_more_normal, normal_items, normal_list}
use Rattle.handler_code.proofs.ValueShapes.{list_is, dot_is}
use Rattle.handler_code.proofs.normal.+look.Goals as goal

pub are_normal-loop-i-preserved : goal.are_normal-loop-i-preserved
are_normal-loop-i-preserved t c =
    ap (map view) (take_one_more (items_of c.args.values.now) c.loop-i.i c.at.result.now c.at.ensures)
    ∙ one_more_normal (items_of c.args.values.now) (take c.loop-i.i (items_of c.args.values.now)) c.loop-i.i c.at.result.now c.at.result.now c.at.ensures (c.is_normal.ensures c.if-not-is_normal.false) c.loop-i.invariant

pub are_normal-returns : goal.are_normal-returns
are_normal-returns t c =
    let whole : take c.loop-i.i (items_of c.args.values.now) ≡ items_of c.args.values.now = take_all c.loop-i.i (items_of c.args.values.now) (omega (arith, c.len-i-end.ensures, c.loop-i-test.false)) in
    λ yes. ap (map view) (sym whole) ∙ c.loop-i.invariant ∙ ap (λ l. map normal (map view l)) whole

pub is_normal-returns-else-len-eq0 : goal.is_normal-returns-else-len-eq0
is_normal-returns-else-len-eq0 t c =
    let some : 0 < length (map view (items_of c.in-List.items)) = omega (arith, length-map (items_of c.in-List.items) view, c.len.ensures, c.if-len-eq0.false) in
    let is = ap view c.in-List.is ∙ list_is c.in-List.items in
    λ yes. is ∙ ap (λ l. Items (values l)) (c.are_normal.ensures yes) ∙ sym (normal_items (map view (items_of c.in-List.items)) some) ∙ ap normal (sym is)

pub is_normal-returns-else-not-are_normal : goal.is_normal-returns-else-not-are_normal
is_normal-returns-else-not-are_normal t c =
    let is = ap view c.in-Dot.is ∙ dot_is c.in-Dot.items c.in-Dot.tail in
    λ yes. is
    ∙ ap (λ l. Dotted (values l) (view c.in-Dot.tail.value)) (c.are_normal-in-Dot.ensures c.if-not-are_normal.false)
    ∙ ap (λ vs. Dotted vs (view c.in-Dot.tail.value)) (sym (normal_list (map view (items_of c.in-Dot.items))))
    ∙ ap (Dotted (normal_each (values (map view (items_of c.in-Dot.items))))) (ap view (sym c.deref.ensures) ∙ c.is_normal.ensures yes ∙ ap (λ w. normal (view w)) c.deref.ensures)
    ∙ ap normal (sym is)

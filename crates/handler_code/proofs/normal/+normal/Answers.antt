use Rattle.std.proofs.Common.{◌<◌, map, ap, sym, ◌∙◌, length, arith}
use Rattle.std.proofs.lemmas.List.{length-map}
use Rattle.editor_model.specs.Values.{Items, Dotted, values}
use Rattle.plain_machine.specs.Natives.{normal, normal_each}
use Rattle.ek_types.specs.Listing.{items_of}
use Rattle.ek_call.specs.Meaning.{view}
use Rattle.handler_code.proofs.ValueLists.{one_more_normal, normal_items, normal_list}
use Rattle.handler_code.proofs.ValueShapes.{list_is, dot_is}
use Rattle.handler_code.proofs.normal.+normal.Goals as goal

pub normal_values-loop-i-preserved : goal.normal_values-loop-i-preserved
normal_values-loop-i-preserved t c =
    ap (map view) c.in_ok-push.ensures.ok ∙ one_more_normal _ _ _ _ _ c.at.ensures c.in_ok-normal_value.ensures c.loop-i.invariant

pub normal_value-returns-in_ok-normal_values-in-List : goal.normal_value-returns-in_ok-normal_values-in-List
normal_value-returns-in_ok-normal_values-in-List t c =
    let some : 0 < length (map view (items_of c.in-List.items)) = omega (arith, length-map (items_of c.in-List.items) view, c.len.ensures, c.if-len-eq0.false) in
    list_is c.in_ok-normal_values-in-List.field-0
    ∙ ap (λ l. Items (values l)) c.in_ok-normal_values-in-List.ensures
    ∙ sym (normal_items (map view (items_of c.in-List.items)) some)
    ∙ ap normal (sym (list_is c.in-List.items))
    ∙ ap (λ w. normal (view w)) (sym c.in-List.is)

pub normal_value-returns-in_ok-new-in-Dot : goal.normal_value-returns-in_ok-new-in-Dot
normal_value-returns-in_ok-new-in-Dot t c =
    dot_is c.in_ok-front-in-Dot.front c.in_ok-new-in-Dot.field-0
    ∙ ap (λ l. Dotted (values l) (view c.in_ok-new-in-Dot.field-0.value)) c.in_ok-front-in-Dot.ensures
    ∙ ap (λ vs. Dotted vs (view c.in_ok-new-in-Dot.field-0.value)) (sym (normal_list (map view (items_of c.in-Dot.items))))
    ∙ ap (Dotted (normal_each (values (map view (items_of c.in-Dot.items))))) (ap view c.in_ok-new-in-Dot.ensures.ok ∙ c.in_ok-last-in-Dot.ensures ∙ ap (λ w. normal (view w)) c.deref.ensures)
    ∙ sym (ap (λ w. normal (view w)) c.in-Dot.is ∙ ap normal (dot_is c.in-Dot.items c.in-Dot.tail))

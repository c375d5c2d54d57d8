use Rattle.std.proofs.Common.{◌≡◌, true, false, length, map, ap, sym, ◌∙◌}
use Rattle.std.proofs.lemmas.List.{length-map}
use Rattle.plain_machine.specs.Natives.{takes}
use Rattle.ek_types.specs.Listing.{items_of}
use Rattle.ek_call.specs.Meaning.{view}
use Rattle.ek_call.specs.Primitives.{prim_of}
use Rattle.handler_code.specs.Calls.{call_asked}
use Rattle.handler_code.proofs.Allowing.{wrong_count, never_made, made_with}
use Rattle.handler_code.proofs.Counting.{all_made_same}
use Rattle.handler_code.proofs.calls.allowed.Goals as goal

pub returns-then-not-may_take : goal.returns-then-not-may_take
returns-then-not-may_take c =
    let count : takes (prim_of c.args.asked.prim) (length (map view (items_of c.args.asked.args))) ≡ false = ap (takes (prim_of c.args.asked.prim)) (length-map (items_of c.args.asked.args) view ∙ sym c.len.ensures) ∙ sym c.may_take.ensures ∙ c.if-not-may_take.true in
    λ program s counts. sym (wrong_count program s (call_asked c.args.asked) count)

pub returns-then-not-are_made : goal.returns-then-not-are_made
returns-then-not-are_made c =
    let count : takes (prim_of c.args.asked.prim) (length (map view (items_of c.args.asked.args))) ≡ true = ap (takes (prim_of c.args.asked.prim)) (length-map (items_of c.args.asked.args) view ∙ sym c.len.ensures) ∙ sym c.may_take.ensures ∙ c.if-not-may_take.false in
    λ program s counts. sym (never_made program s (call_asked c.args.asked) count (sym (all_made_same c.args.made.now program s counts (map view (items_of c.args.asked.args))) ∙ sym c.are_made.ensures ∙ c.if-not-are_made.true))

pub returns-then-are_normal : goal.returns-then-are_normal
returns-then-are_normal c =
    let count : takes (prim_of c.args.asked.prim) (length (map view (items_of c.args.asked.args))) ≡ true = ap (takes (prim_of c.args.asked.prim)) (length-map (items_of c.args.asked.args) view ∙ sym c.len.ensures) ∙ sym c.may_take.ensures ∙ c.if-not-may_take.false in
    made_with c.args.made.now (call_asked c.args.asked) _ count (sym c.are_made.ensures ∙ c.if-not-are_made.false) (c.are_normal.ensures c.if-are_normal.true)

pub returns : goal.returns
returns c =
    let count : takes (prim_of c.args.asked.prim) (length (map view (items_of c.args.asked.args))) ≡ true = ap (takes (prim_of c.args.asked.prim)) (length-map (items_of c.args.asked.args) view ∙ sym c.len.ensures) ∙ sym c.may_take.ensures ∙ c.if-not-may_take.false in
    made_with c.args.made.now (call_asked c.args.asked) _ count (sym c.are_made.ensures ∙ c.if-not-are_made.false) c.in_ok-normal_values.ensures

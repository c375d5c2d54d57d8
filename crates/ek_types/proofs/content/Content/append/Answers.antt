use Rattle.std.proofs.Common.{◌≡◌, length, take, drop, refl, sym, ap, ◌∙◌, ◌++◌, [], arith, append-nil, length-append}
use Rattle.std.specs.Prelude.{vec_len}
use Rattle.std.proofs.lemmas.List.{map-id, take_all, drop_all}
use Rattle.std.proofs.lemmas.Iterator.{items_from_drains}
use Rattle.std.proofs.lemmas.Iterator.Adapters.{YieldsList-from_vec}
use Rattle.std.proofs.lemmas.Grind.{common_steps}
use Rattle.ek_types.specs.Runs.{later_runs, rest_to, sets_from}
use Rattle.ek_types.proofs.Pieces.{length-sets_from}
use Rattle.ek_types.proofs.Appending.{appended_sets, zip_append}
use Rattle.ek_types.proofs.content.Content.append.Goals as goal

-- the runs afterwards
laid : (c : goal.After-extend_spare) → c.splice.new.self.items ≡
    c.self.inside.runs.items ++ (rest_to 0 (length c.self.inside.text.items) (length c.self.inside.runs.items) c.self.inside.runs.items ++ later_runs (length c.self.inside.text.items) c.more.inside.runs.items)
laid c =
    let spliced = c.in_ok-splice.ensures.items in
    let gives = spliced.2 in
    let drained = spliced.3 in
    let whole = YieldsList-from_vec c.add_later.new.runs.items gives.0 (gives.1 ∙ grind (arith, common_steps)) in
    let same : spliced.1 ≡ c.add_later.new.runs.items = sym (map-id spliced.1) ∙ items_from_drains spliced.1 (drained.1.0, drained.1.1, λ k. (drained.0, drained.1.2)) whole in
    let runs = c.self.inside.runs.items in
    let size : vec_len c.self.inside.runs ≡ length runs = grind (arith, common_steps) in
    let front : take (length runs) runs ≡ runs = take_all (length runs) runs (omega arith) in
    let behind : drop (length runs) runs ≡ [] = drop_all (length runs) runs (omega arith) in
    rw (spliced.4, same, c.in_ok-add_later.ensures, c.in_ok-new.ensures, c.deref.ensures.value, c.deref-2.ensures.value, c.len-count.ensures, c.len-size.ensures, size, front, behind, append-nil) refl

text_is : (c : goal.After-extend_spare) → c.extend_spare.new.self.items ≡ c.self.inside.text.items ++ c.more.inside.text.items
text_is c = c.extend_spare.ensures.items ∙ ap (λ t. t ++ c.more.inside.text.items) c.in_ok-reserve.ensures.items

pub invariant_of-self-2 : goal.invariant_of-self-2
invariant_of-self-2 c =
    let text = c.self.inside.text.items in
    let more = c.more.inside.text.items in
    let whole = appended_sets 0 c.self.inside.runs.items c.more.inside.runs.items (length text) (length more) c.self.invariant.0 c.more.invariant.0 in
    (rw (laid c, text_is c, length-append text more) whole.0, c.self.invariant.1)

pub returns-clause-ok : goal.returns-clause-ok
returns-clause-ok c =
    let text = c.self.inside.text.items in
    let more = c.more.inside.text.items in
    let sets = length-sets_from 0 c.self.inside.runs.items (length text) c.self.invariant.0 in
    let whole = appended_sets 0 c.self.inside.runs.items c.more.inside.runs.items (length text) (length more) c.self.invariant.0 c.more.invariant.0 in
    rw (← c.self.view_is, ← c.more.view_is, laid c, text_is c, length-append text more, whole.1)
    (zip_append text more (sets_from 0 c.self.inside.runs.items (length text)) (sets_from 0 c.more.inside.runs.items (length more)) (omega (arith, sets)))

use Rattle.std.proofs.Common.{◌≡◌, ◌++◌, List, ℕ, ap, ◌∙◌}
use Rattle.std.specs.List.{flat_map}
use Rattle.std.proofs.lemmas.List.Sorted.{IsNonDecreasingBy-from_sort}
use Rattle.text_model.specs.Marks.{Marker}
use Rattle.marker_set.specs.Numbered.{numbers_within}
use Rattle.marker_set.specs.Blocks.{Block}
use Rattle.marker_set.specs.Search.{found_in, alone_within}
use Rattle.marker_set.specs.declared.slot.Slot.{Slot}
use Rattle.marker_set.proofs.Counting.{numbers_from}
use Rattle.marker_set.proofs.SearchLemmas.{found_sorted}
use Rattle.marker_set.proofs.markers.Markers.within.Goals as goal

pub returns : goal.returns
returns c =
    let parts = c.self.inside.parts.items in
    let slots = c.self.inside.slots.items in
    let found = c.found_alone.new.numbers.items in
    let sorted = c.sort_unstable.new.self.items in
    let in_slots : List Slot → List ℕ = λ xs. numbers_from 0 (alone_within c.args.buffer c.args.from c.args.to) xs in
    let in_parts : List Block → List ℕ = λ bs. flat_map (found_in c.args.buffer c.args.from c.args.to) bs in
    let all : found ≡ in_parts parts ++ in_slots slots =
    c.in_ok-found_alone.ensures
    ∙ ap (λ (xs : List Slot). c.found_parts.new.numbers.items ++ in_slots xs) c.as_slice-slots.ensures.value
    ∙ ap (λ ns. ns ++ in_slots slots) (c.in_ok-found_parts.ensures ∙ ap (λ ns. ns ++ in_parts c.as_slice-parts.result.now) c.new-numbers.ensures.items ∙ ap (λ (bs : List Block). in_parts bs) c.as_slice-parts.ensures.value) in
    found_sorted c.args.buffer c.args.from c.args.to parts slots c.self.inside.some_alone c.self.invariant found sorted all c.sort_unstable.ensures.permutation (IsNonDecreasingBy-from_sort (λ x. x) sorted c.sort_unstable.ensures.sorted)
    ∙ ap (λ (ms : List Marker). numbers_within c.args.buffer c.args.from c.args.to ms) c.self.view_is

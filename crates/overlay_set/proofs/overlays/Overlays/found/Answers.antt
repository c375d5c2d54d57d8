use Rattle.std.proofs.Common.{◌≡◌, ◌++◌, filter, ap, ◌∙◌}
use Rattle.std.proofs.lemmas.List.Sorted.{IsNonDecreasingBy-from_sort}
use Rattle.overlay_set.specs.Entries.{numbers_in, passes}
use Rattle.overlay_set.proofs.SeenLemmas.{held-view}
use Rattle.overlay_set.proofs.WholeLemmas.{whole_found}
use Rattle.overlay_set.proofs.overlays.Overlays.found.Goals as goal

pub returns : goal.returns
returns c =
    let sorted = c.sort_unstable.new.self.items in
    let rest = numbers_in (filter (passes c.args.buffer c.args.question) c.self.inside.tree) in
    let all : c.found.new.numbers.items ≡ rest = c.in_ok-found.ensures ∙ ap (λ xs. xs ++ rest) c.new-numbers.ensures.items in
    c.of.ensures ∙ whole_found c.args.buffer c.args.question c.args.self.now c.self.inside.tree c.found.new.numbers.items sorted (held-view c.self.inside.tree c.self.inside.slots.items c.args.self.now c.self.view_is c.self.invariant.1) all c.sort_unstable.ensures.permutation (IsNonDecreasingBy-from_sort (λ x. x) sorted c.sort_unstable.ensures.sorted)

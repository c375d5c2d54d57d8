use Rattle.std.proofs.Common.{pos, refl, rules, of_calls}
use Rattle.std.proofs.lemmas.Fn.{always_returns_same}
use Rattle.std.proofs.lemmas.List.Sorted.{IsNonDecreasingBy-from_sort_by_key}
use Rattle.final_view.specs.Marks.{start_key}
use Rattle.final_view.proofs.Passing.{sorted_by_key}
use Rattle.final_view.proofs.mark.by_start.Goals as goal

pub returns : goal.returns
returns c =
    sorted_by_key start_key (λ q. record { number = 0; start = q; end = 0; rank = pos 0 }) (λ q. refl) c.args.marks.items _
    (IsNonDecreasingBy-from_sort_by_key start_key _ c.in_ok-sort_by_key.ensures.sorted (λ a r q k. search (rules, of_calls)))
    (c.in_ok-sort_by_key.ensures.stable start_key (always_returns_same _ _ _ (λ a r q k. search (rules, of_calls)))) c.in_ok-sort_by_key.ensures.permutation

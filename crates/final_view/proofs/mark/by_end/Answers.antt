use Rattle.std.proofs.Common.{◌≡◌, pos, reverse, refl, ap, ◌∙◌, subst, rules, of_calls}
use Rattle.std.proofs.lemmas.Fn.{always_returns_same}
use Rattle.std.proofs.lemmas.List.Sorted.{IsNonDecreasingBy-from_sort_by_key}
use Rattle.final_view.specs.Marks.{end_key, AreSorted}
use Rattle.final_view.proofs.Passing.{sorted_by_key}
use Rattle.final_view.proofs.mark.by_end.Goals as goal

pub returns : goal.returns
returns c =
    let turned : c.reverse.new.self.items ≡ reverse c.args.marks.now = c.reverse.ensures.items ∙ ap reverse c.in_ok-closers.ensures.items in
    subst (λ l. AreSorted end_key l c.sort_by_key.new.self.items) turned
    (
    sorted_by_key end_key (λ q. record { number = 0; start = 0; end = q; rank = pos 0 }) (λ q. refl) c.reverse.new.self.items _
    (IsNonDecreasingBy-from_sort_by_key end_key _ c.in_ok-sort_by_key.ensures.sorted (λ a r q k. search (rules, of_calls)))
    (c.in_ok-sort_by_key.ensures.stable end_key (always_returns_same _ _ _ (λ a r q k. search (rules, of_calls)))) c.in_ok-sort_by_key.ensures.permutation
    )

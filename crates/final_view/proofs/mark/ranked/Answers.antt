use Rattle.std.proofs.Common.{rules, of_calls}
use Rattle.std.proofs.lemmas.Fn.{always_returns_same}
use Rattle.final_view.proofs.Ranking.{ranked_is, weaker, weaker_orders}
use Rattle.final_view.proofs.mark.ranked.Goals as goal

pub returns : goal.returns
returns c =
    ranked_is c.args.overlays.now c.args.buffer c.in_ok-marks.marks.items _ c.in_ok-marks.ensures.are c.in_ok-marks.ensures.exact c.in_ok-sort_by.ensures.permutation
    (c.in_ok-sort_by.ensures.sorted weaker weaker_orders (always_returns_same _ _ _ (λ a r f k. search (rules, of_calls))))
    (c.in_ok-sort_by.ensures.stable weaker weaker_orders (always_returns_same _ _ _ (λ a r f k. search (rules, of_calls))))

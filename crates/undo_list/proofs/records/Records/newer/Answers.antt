use Rattle.std.proofs.Common.{rules, of_calls, ◌≡◌, drop, sym, subst, ap, filter, arith}
use Rattle.std.specs.Prelude.{nat_lt}
use Rattle.std.proofs.lemmas.Fn.{always_returns_same}
use Rattle.undo_list.specs.Records.{AreFalling}
use Rattle.undo_list.proofs.Finding.{is_newer, newer_first, from_point}
use Rattle.undo_list.proofs.records.Records.newer.Goals as goal

pub returns-clause-exact : goal.returns-clause-exact
returns-clause-exact c = λ bound f.
    let same = ap (λ h. h.entries) c.self.view_is in
    let falling = subst (AreFalling bound) (sym same) f in
    let point =
    c.partition_point.ensures.partitioned (is_newer c.args.below) (always_returns_same _ _ _ (λ a r f k. search (rules, of_calls)))
    (newer_first c.args.below bound c.self.inside.entries.items falling) in
    subst (λ l. drop c.partition_point.result l ≡ filter (λ e. nat_lt e.serial c.args.below) l) same (from_point c.args.below c.self.inside.entries.items c.partition_point.result point.0 point.1 (omega (arith, c.partition_point.ensures.bound, c.self.inside.entries.ok.0)))

use Rattle.std.proofs.Common.{◌≡◌, suc, ◌-◌, [], subst, sym, ◌∙◌, arith}
use Rattle.plain_machine.specs.Waits.{from_eligible}
use Rattle.process_table.specs.Table.{with_table}
use Rattle.wait_loop.specs.KeptWaits.{KeptWait}
use Rattle.wait_loop.specs.Rounds.{BeginsRound}
use Rattle.wait_loop.specs.contracts.rounds.Wait.{the_view}
use Rattle.wait_loop.proofs.RoundLemmas.{round_begun}
use Rattle.wait_loop.proofs.rounds.Wait.begin.Goals as goal

pub returns-clause-begun : goal.returns-clause-begun
returns-clause-begun c =
    let s = with_table c.args.table.now in
    let old = (the_view c.self.inside).waiting in
    let over : from_eligible s old old.asking ≡ [] = subst (λ (k : KeptWait). from_eligible s k.waiting k.waiting.asking ≡ []) (sym c.self.view_is) c.requires.over in
    let rounds : c.self.inside.rounds ≡ suc (c.self.inside.rounds - 1) = omega (arith, c.if-self-eq0.false) in
    subst (λ (k : KeptWait). BeginsRound s k.waiting c.in_ok-first.first (record old { rounds = c.self.inside.rounds - 1; asking = c.list_others.new.asking.items })) c.self.view_is
    (round_begun s old c.in_ok-first.first (c.self.inside.rounds - 1) c.list_others.new.asking.items over (sym c.in_ok-first.was ∙ c.first.ensures) c.list_others.ensures.items rounds)

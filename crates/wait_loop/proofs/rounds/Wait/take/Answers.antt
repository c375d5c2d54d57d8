use Rattle.std.proofs.Common.{◌≡◌, ℕ, ◌+◌, ◌-◌, List, [], length, take, drop, refl, ap, subst, sym, ◌∙◌, Some, None}
use Rattle.std.specs.List.{position}
use Rattle.plain_machine.specs.Waits.{is_eligible, from_eligible}
use Rattle.process_table.specs.Table.{with_table}
use Rattle.wait_loop.specs.Aims.{waiting_for}
use Rattle.wait_loop.specs.KeptWaits.{KeptWait}
use Rattle.wait_loop.specs.Rounds.{Takes}
use Rattle.wait_loop.specs.contracts.rounds.Wait.{the_view}
use Rattle.wait_loop.proofs.RoundLemmas.{none_left, one_left}
use Rattle.wait_loop.proofs.rounds.Wait.take.Goals as goal

pub returns-in_err-i-clause-taken : goal.returns-in_err-i-clause-taken
returns-in_err-i-clause-taken c =
    let s = with_table c.args.table.now in
    let seen = λ (xs : List ℕ). position (is_eligible s (waiting_for c.self.inside.aim)) (take (length xs - c.self.inside.at) (drop c.self.inside.at xs)) in
    let found : None ≡ seen c.self.inside.asking.items = sym c.in_err-i.was ∙ c.first_in.ensures ∙ ap seen c.deref.ensures.value in
    rw c.from_residual.ensures (subst (λ (k : KeptWait). from_eligible s k.waiting k.waiting.asking ≡ []) c.self.view_is (none_left s (the_view c.self.inside).waiting c.self.inside.asking.items c.self.inside.at refl found))

pub returns-clause-taken : goal.returns-clause-taken
returns-clause-taken c =
    let s = with_table c.args.table.now in
    let seen = λ (xs : List ℕ). position (is_eligible s (waiting_for c.self.inside.aim)) (take (length xs - c.self.inside.at) (drop c.self.inside.at xs)) in
    let found : Some c.in_ok-i.i ≡ seen c.self.inside.asking.items = sym c.in_ok-i.was ∙ c.first_in.ensures ∙ ap seen c.deref.ensures.value in
    let old = (the_view c.self.inside).waiting in
    subst (λ (k : KeptWait). Takes s k.waiting c.index-p.result.now (record old { asking = drop (c.self.inside.at + (c.in_ok-i.i + 1)) c.self.inside.asking.items })) c.self.view_is (one_left s old c.self.inside.asking.items c.self.inside.at c.in_ok-i.i c.index-p.result.now refl found c.index-p.ensures)

use Rattle.std.proofs.Common.{◌≡◌, ℕ, ◌+◌, ◌-◌, true, false, List, [], length, take, drop, refl, ap, sym, ◌∙◌, subst}
use Rattle.std.specs.Prelude.{Some, None}
use Rattle.std.specs.List.{position}
use Rattle.plain_machine.specs.Items.{Waiting}
use Rattle.plain_machine.specs.Waits.{is_eligible, from_eligible, target_is_eligible}
use Rattle.process_table.specs.Table.{with_table}
use Rattle.wait_loop.specs.Aims.{waiting_for}
use Rattle.wait_loop.specs.KeptWaits.{new_waiting}
use Rattle.wait_loop.specs.Rounds.{Takes}
use Rattle.wait_loop.proofs.RoundLemmas.{none_left, one_left}
use Rattle.trace_check.specs.contracts.waiting.Waiting.{the_view}
use Rattle.trace_check.proofs.Aheads.{heard_ahead, unfit_ahead, target_fits, asks_ahead}
use Rattle.trace_check.proofs.waiting.Waiting.ahead.Goals as goal

pub returns-then-self : goal.returns-then-self
returns-then-self c = heard_ahead (with_table c.args.table.now) c.args.self.now (subst (λ (w : Waiting). w.counted ≡ true) c.self.view_is c.if-self.true)

pub returns-then-not-may_ask_target : goal.returns-then-not-may_ask_target
returns-then-not-may_ask_target c =
    let s = with_table c.args.table.now in
    let quiet = subst (λ (w : Waiting). w.counted ≡ false) c.self.view_is c.if-self.false in
    unfit_ahead s c.args.self.now quiet (subst (λ (w : Waiting). false ≡ target_is_eligible s (new_waiting w.target 0 w.just)) c.self.view_is c.if-not-may_ask_target.ensures)

pub returns-in-Some : goal.returns-in-Some
returns-in-Some c =
    let s = with_table c.args.table.now in
    let old = the_view c.self.inside in
    let seen = λ (xs : List ℕ). position (is_eligible s (waiting_for c.self.inside.aim)) (take (length xs - c.self.inside.at) (drop c.self.inside.at xs)) in
    let found : Some c.in-Some.i ≡ seen c.self.inside.asking.items = sym c.in-Some.is ∙ c.first_in.ensures ∙ ap seen c.deref.ensures.value in
    let quiet = subst (λ (w : Waiting). w.counted ≡ false) c.self.view_is c.if-self.false in
    let fit = subst (λ (w : Waiting). true ≡ target_is_eligible s (new_waiting w.target 0 w.just)) c.self.view_is c.if-not-may_ask_target.ensures in
    let left : Waiting = record old { asking = drop (c.self.inside.at + (c.in-Some.i + 1)) c.self.inside.asking.items } in
    asks_ahead s c.args.self.now quiet (target_fits s c.args.self.now fit) c.index.result.now left
    (subst (λ (w : Waiting). Takes s w c.index.result.now left) c.self.view_is (one_left s old c.self.inside.asking.items c.self.inside.at c.in-Some.i c.index.result.now refl found c.index.ensures))

pub ahead_of_round-requires : goal.ahead_of_round-requires
ahead_of_round-requires c =
    let s = with_table c.args.table.now in
    let old = the_view c.self.inside in
    let seen = λ (xs : List ℕ). position (is_eligible s (waiting_for c.self.inside.aim)) (take (length xs - c.self.inside.at) (drop c.self.inside.at xs)) in
    let found : None ≡ seen c.self.inside.asking.items = sym c.in-None.is ∙ c.first_in.ensures ∙ ap seen c.deref.ensures.value in
    let fit = subst (λ (w : Waiting). true ≡ target_is_eligible s (new_waiting w.target 0 w.just)) c.self.view_is c.if-not-may_ask_target.ensures in
    record {
      quiet = subst (λ (w : Waiting). w.counted ≡ false) c.self.view_is c.if-self.false;
      fit = target_fits s c.args.self.now fit;
      over = subst (λ (w : Waiting). from_eligible s w w.asking ≡ []) c.self.view_is (none_left s old c.self.inside.asking.items c.self.inside.at refl found);
    }

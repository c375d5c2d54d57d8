use Rattle.std.proofs.Common.{◌≡◌, suc, ◌-◌, sym, ◌∙◌, subst, arith, slice_get}
use Rattle.std.specs.Prelude.{Some, None}
use Rattle.plain_machine.specs.Items.{Waiting}
use Rattle.plain_machine.specs.Waits.{eligible}
use Rattle.process_table.specs.Table.{with_table}
use Rattle.wait_loop.specs.KeptWaits.{new_waiting}
use Rattle.trace_check.proofs.Aheads.{spent_ahead, nobody_ahead, round_ahead}
use Rattle.trace_check.proofs.waiting.Waiting.ahead_of_round.Goals as goal

pub returns-then-self-eq0 : goal.returns-then-self-eq0
returns-then-self-eq0 c = spent_ahead (with_table c.args.table.now) c.args.self.now c.requires.quiet c.requires.fit c.requires.over (subst (λ (w : Waiting). w.rounds ≡ 0) c.self.view_is c.if-self-eq0.true)

pub returns-in-Some : goal.returns-in-Some
returns-in-Some c =
    let s = with_table c.args.table.now in
    let more : c.self.inside.rounds ≡ suc (c.self.inside.rounds - 1) = omega (arith, c.if-self-eq0.false) in
    round_ahead s c.args.self.now c.requires.quiet c.requires.fit c.requires.over c.in-Some.field-0 (c.self.inside.rounds - 1) (subst (λ (w : Waiting). w.rounds ≡ suc (c.self.inside.rounds - 1)) c.self.view_is more)
    (subst (λ (w : Waiting). Some c.in-Some.field-0 ≡ slice_get (eligible s (new_waiting w.target 0 w.just)) 0) c.self.view_is (sym c.in-Some.is ∙ c.first.ensures))

pub returns-in-None : goal.returns-in-None
returns-in-None c =
    let s = with_table c.args.table.now in
    nobody_ahead s c.args.self.now c.requires.quiet c.requires.fit c.requires.over
    (subst (λ (w : Waiting). None ≡ slice_get (eligible s (new_waiting w.target 0 w.just)) 0) c.self.view_is (sym c.in-None.is ∙ c.first.ensures))

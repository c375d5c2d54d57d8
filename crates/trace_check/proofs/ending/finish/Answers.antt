use Rattle.std.proofs.Common.{◌≡◌, ◌∷◌, ◌≤◌, length, sym, ◌∙◌, subst, true, slice_get, arith}
use Rattle.std.specs.Prelude.{Some, option_map}
use Rattle.plain_machine.specs.Arguments.{is_running}
use Rattle.plain_machine.specs.Exchanges.{Kill}
use Rattle.plain_machine.specs.Items.{Finish}
use Rattle.host_link.specs.Meaning.{exchange_of}
use Rattle.plain_machine.specs.Lines.{KilledLast}
use Rattle.kernel_steps.proofs.Telling.{by_names}
use Rattle.trace_check.specs.Answers.{may_kill}
use Rattle.trace_check.specs.Meaning.{list_of}
use Rattle.trace_check.specs.Questions.{Meets}
use Rattle.trace_check.proofs.Agreement.{comes_missed}
use Rattle.trace_check.proofs.Deletions.{finish_over, finish_next, finish_asks, finish_goes, finish_goes_nowhere, finish_told}
use Rattle.trace_check.proofs.ending.finish.Goals as goal

pub returns-then-p-count-clause-step : goal.returns-then-p-count-clause-step
returns-then-p-count-clause-step g c =
    let program = g.P.Program.meant c.args.program.now in
    let known = g.M.Kernel.state c.args.kernel.now in
    let p = c.args.p in
    let rest = list_of c.args.work.now in
    let sink = g.K.Sink.state c.args.sink.now in
    finish_over program known p rest (list_of c.leave_only.new.work) (subst (λ l. length l ≤ p) c.processes.ensures (omega arith)) c.leave_only.ensures sink

pub returns-then-not-is_running-clause-step : goal.returns-then-not-is_running-clause-step
returns-then-not-is_running-clause-step g c =
    let program = g.P.Program.meant c.args.program.now in
    let known = g.M.Kernel.state c.args.kernel.now in
    let p = c.args.p in
    let rest = list_of c.args.work.now in
    let sink = g.K.Sink.state c.args.sink.now in
    let k = c.get.result.now in
    let made : slice_get known.processes p ≡ Some k = subst (λ l. slice_get l p ≡ Some k) c.processes-2.ensures c.get.ensures in
    finish_next program known p rest (list_of c.leave_only-then-not-is_running.new.work) k made (sym c.is_running.ensures ∙ c.if-not-is_running.true) c.leave_only-then-not-is_running.ensures sink

pub returns-in-Err-clause-step : goal.returns-in-Err-clause-step
returns-in-Err-clause-step g c =
    let program = g.P.Program.meant c.args.program.now in
    let known = g.M.Kernel.state c.args.kernel.now in
    let p = c.args.p in
    let rest = list_of c.args.work.now in
    let sink = g.K.Sink.state c.args.sink.now in
    let next = option_map (λ x. exchange_of x.now) c.args.next in
    let k = c.get.result.now in
    let made : slice_get known.processes p ≡ Some k = subst (λ l. slice_get l p ≡ Some k) c.processes-2.ensures c.get.ensures in
    let runs : is_running known p ≡ true = sym c.is_running.ensures ∙ c.if-not-is_running.false in
    let asks = finish_asks program known p rest rest k made runs in
    let go = finish_goes program known p rest rest in
    let met : Meets (Kill k.child) may_kill next c.meet.result = subst (λ n. Meets (Kill n) may_kill next c.meet.result) c.child-child.ensures c.meet.ensures in
    comes_missed program next known (Finish p ∷ rest) (Kill k.child) (Unit {0}) may_kill c.in-Err.missed (list_of c.put_back.new.self) go asks (rw c.in-Err.is at met)
    (λ s h answer barred. finish_goes_nowhere program known p rest rest k answer made runs barred s h) c.put_back.ensures sink

pub returns-in_ok-tell_kill-in-Ok-clause-step : goal.returns-in_ok-tell_kill-in-Ok-clause-step
returns-in_ok-tell_kill-in-Ok-clause-step g c =
    let program = g.P.Program.meant c.args.program.now in
    let known = g.M.Kernel.state c.args.kernel.now in
    let p = c.args.p in
    let rest = list_of c.args.work.now in
    let old = g.K.Sink.state c.args.sink.now in
    let new = g.K.Sink.state c.tell_kill.new.sink in
    let next = option_map (λ x. exchange_of x.now) c.args.next in
    let k = c.get.result.now in
    let made : slice_get known.processes p ≡ Some k = subst (λ l. slice_get l p ≡ Some k) c.processes-2.ensures c.get.ensures in
    let runs : is_running known p ≡ true = sym c.is_running.ensures ∙ c.if-not-is_running.false in
    let met : Meets (Kill k.child) may_kill next c.meet.result = subst (λ n. Meets (Kill n) may_kill next c.meet.result) c.child-child.ensures c.meet.ensures in
    let (x, is, same, may, answer) = rw c.in-Ok.is at met in
    finish_told program known p rest (list_of c.leave_only-in-Ok.new.work) (Unit {0}) c.in_ok-tell_kill-in-Ok.field-0 next k made runs x is same may c.leave_only-in-Ok.ensures old new
    (by_names _ old new c.symbols.result.now program.symbols known (KilledLast p) c.symbols.ensures c.in_ok-tell_kill-in-Ok.ensures)

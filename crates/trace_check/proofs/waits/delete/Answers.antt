use Rattle.std.proofs.Common.{◌≡◌, ◌∷◌, sym, ◌∙◌, subst, true, slice_get}
use Rattle.std.specs.Prelude.{Some, option_map}
use Rattle.plain_machine.specs.Arguments.{is_running}
use Rattle.plain_machine.specs.Exchanges.{Kill}
use Rattle.plain_machine.specs.Items.{Delete}
use Rattle.host_link.specs.Meaning.{exchange_of}
use Rattle.kernel_steps.proofs.Passing.{running_within}
use Rattle.trace_check.specs.Answers.{may_kill}
use Rattle.trace_check.specs.Meaning.{list_of}
use Rattle.trace_check.specs.Questions.{Meets}
use Rattle.trace_check.proofs.Agreement.{comes_missed, comes_heard}
use Rattle.trace_check.proofs.Deletions.{nothing_deleted, kill_asks, kill_goes, kill_goes_on, kill_goes_nowhere}
use Rattle.trace_check.proofs.waits.delete.Goals as goal

pub returns-then-not-is_running : goal.returns-then-not-is_running
returns-then-not-is_running g c = λ program. nothing_deleted program (g.M.Kernel.state c.args.kernel.now) c.args.p (list_of c.args.work.now) (sym c.is_running.ensures ∙ c.if-not-is_running.true)

pub get-requires : goal.get-requires
get-requires g c =
    let known = g.M.Kernel.state c.args.kernel.now in
    rw c.processes.ensures (running_within known c.args.p (sym c.is_running.ensures ∙ c.if-not-is_running.false))

pub returns-in-Err : goal.returns-in-Err
returns-in-Err g c = λ program.
    let known = g.M.Kernel.state c.args.kernel.now in
    let p = c.args.p in
    let rest = list_of c.args.work.now in
    let next = option_map (λ x. exchange_of x.now) c.args.next in
    let k = c.get.result.now in
    let made : slice_get known.processes p ≡ Some k = subst (λ l. slice_get l p ≡ Some k) c.processes.ensures c.get.ensures in
    let runs : is_running known p ≡ true = sym c.is_running.ensures ∙ c.if-not-is_running.false in
    let asks = kill_asks program known p rest k made runs in
    let go = kill_goes program known p rest in
    let met : Meets (Kill k.child) may_kill next c.meet.result = subst (λ n. Meets (Kill n) may_kill next c.meet.result) c.child-child.ensures c.meet.ensures in
    comes_missed program next known (Delete p ∷ rest) (Kill k.child) (Unit {0}) may_kill c.in-Err.missed (list_of c.put_back.new.self) go asks (rw c.in-Err.is at met)
    (λ s h answer barred. kill_goes_nowhere program known p rest k answer made runs barred s h) c.put_back.ensures

pub returns-in_ok-kill-in-Ok : goal.returns-in_ok-kill-in-Ok
returns-in_ok-kill-in-Ok g c = λ program.
    let known = g.M.Kernel.state c.args.kernel.now in
    let p = c.args.p in
    let rest = list_of c.args.work.now in
    let next = option_map (λ x. exchange_of x.now) c.args.next in
    let k = c.get.result.now in
    let made : slice_get known.processes p ≡ Some k = subst (λ l. slice_get l p ≡ Some k) c.processes.ensures c.get.ensures in
    let runs : is_running known p ≡ true = sym c.is_running.ensures ∙ c.if-not-is_running.false in
    let asks = kill_asks program known p rest k made runs in
    let go = kill_goes program known p rest in
    let met : Meets (Kill k.child) may_kill next c.meet.result = subst (λ n. Meets (Kill n) may_kill next c.meet.result) c.child-child.ensures c.meet.ensures in
    let (x, is, same, may, answer) = rw c.in-Ok.is at met in
    let known2 = g.M.Kernel.state c.kill.new.kernel in
    let left = list_of c.kill.new.work in
    comes_heard program next known (Delete p ∷ rest) (Kill k.child) (Unit {0}) known2 left go asks x is same (kill_goes_on program known p rest known2 left k x.answer made runs may c.in_ok-kill-in-Ok.ensures)

pub kill-requires : goal.kill-requires
kill-requires g c = sym c.is_running.ensures ∙ c.if-not-is_running.false

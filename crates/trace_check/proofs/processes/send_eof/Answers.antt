use Rattle.std.proofs.Common.{◌≡◌, ◌∷◌, map, length, ap, sym, ◌∙◌, subst, true, false, slice_get, arith}
use Rattle.std.specs.Prelude.{Some, option_map, Option}
use Rattle.editor_model.specs.Values.{ProcessSendEof}
use Rattle.editor_model.specs.Arguments.{arg}
use Rattle.plain_machine.specs.Arguments.{child_of, is_closed, process_of}
use Rattle.plain_machine.specs.Calls.{on, closed_answer}
use Rattle.plain_machine.specs.Exchanges.{Answer, Close}
use Rattle.plain_machine.specs.State.{State}
use Rattle.plain_machine.specs.Items.{MakeCall, GiveAnswer, Next}
use Rattle.ek_types.specs.Listing.{items_of}
use Rattle.ek_call.specs.Meaning.{view}
use Rattle.host_link.specs.Meaning.{exchange_of}
use Rattle.kernel_steps.proofs.Passing.{child_found, closed_found, closes_may, closes_of, running_within}
use Rattle.kernel_steps.proofs.Shapes.{process_is}
use Rattle.trace_check.specs.Answers.{TakesUp}
use Rattle.trace_check.specs.Meaning.{list_of, target_of}
use Rattle.trace_check.specs.Questions.{Meets}
use Rattle.trace_check.proofs.Agreement.{comes_unmet, comes_taken}
use Rattle.trace_check.proofs.Asking.{close_asks, close_nothing}
use Rattle.trace_check.proofs.Quiet.{stays_put}
use Rattle.trace_check.proofs.processes.send_eof.Goals as goal

pub returns-in-Err : goal.returns-in-Err
returns-in-Err g c =
    let program = g.P.Program.meant c.args.program.now in
    let known = g.M.Kernel.state c.args.kernel.now in
    let args = map view (items_of c.args.args) in
    let target = target_of c.args.target in
    let rest = list_of c.args.work.now in
    let next = option_map (λ x. exchange_of x.now) c.args.next in
    let work = MakeCall ProcessSendEof args target ∷ rest in
    let p = c.process_given-p.result in
    let k = c.get-process.result.now in
    let made : slice_get known.processes p ≡ Some k = subst (λ l. slice_get l p ≡ Some k) c.processes.ensures c.get-process.ensures in
    let child : c.child-child.result ≡ child_of known p = c.child-child.ensures ∙ sym (child_found known p k made) in
    let unclosed = closed_found known p k made ∙ sym c.closed.ensures ∙ c.if-closed.false in
    let go : State → Answer → Option Next = λ s. closed_answer s target rest p in
    let asks = close_asks program known args target rest p c.requires.passes c.process_given-p.ensures unclosed in
    let met : Meets (Close (child_of known p)) (λ answer. true) next c.meet.result = subst (λ n. Meets (Close n) (λ answer. true) next c.meet.result) child c.meet.ensures in
    rw c.unmade.ensures.result (comes_unmet program next known work (Close (child_of known p)) (Unit {0}) c.in-Err.missed (list_of c.unmade.new.work) go asks (rw c.in-Err.is at met) c.unmade.ensures.work)

pub returns-in-Ok : goal.returns-in-Ok
returns-in-Ok g c =
    let program = g.P.Program.meant c.args.program.now in
    let known = g.M.Kernel.state c.args.kernel.now in
    let args = map view (items_of c.args.args) in
    let target = target_of c.args.target in
    let rest = list_of c.args.work.now in
    let next = option_map (λ x. exchange_of x.now) c.args.next in
    let work = MakeCall ProcessSendEof args target ∷ rest in
    let p = c.process_given-p.result in
    let k = c.get-process.result.now in
    let made : slice_get known.processes p ≡ Some k = subst (λ l. slice_get l p ≡ Some k) c.processes.ensures c.get-process.ensures in
    let child : c.child-child.result ≡ child_of known p = c.child-child.ensures ∙ sym (child_found known p k made) in
    let unclosed = closed_found known p k made ∙ sym c.closed.ensures ∙ c.if-closed.false in
    let go : State → Answer → Option Next = λ s. closed_answer s target rest p in
    let asks = close_asks program known args target rest p c.requires.passes c.process_given-p.ensures unclosed in
    let met : Meets (Close (child_of known p)) (λ answer. true) next c.meet.result = subst (λ n. Meets (Close n) (λ answer. true) next c.meet.result) child c.meet.ensures in
    let (x, is, same, allowed, answer) = rw c.in-Ok.is at met in
    let known2 = g.M.Kernel.state c.take_closed.new.kernel in
    let left = list_of c.take_closed.new.work in
    let taken : TakesUp c.take_closed.result (λ s. go s x.answer) known known2 work left = subst (λ a. TakesUp c.take_closed.result (λ s. go s a) known known2 work left) (sym answer) c.take_closed.ensures in
    comes_taken program next known work (Close (child_of known p)) c.take_closed.result known2 left go asks x is same taken

pub returns-then-closed : goal.returns-then-closed
returns-then-closed g c =
    let program = g.P.Program.meant c.args.program.now in
    let known = g.M.Kernel.state c.args.kernel.now in
    let args = map view (items_of c.args.args) in
    let target = target_of c.args.target in
    let rest = list_of c.args.work.now in
    let p = c.process_given-p.result in
    let k = c.get-process.result.now in
    let made : slice_get known.processes p ≡ Some k = subst (λ l. slice_get l p ≡ Some k) c.processes.ensures c.get-process.ensures in
    let closed = closed_found known p k made ∙ sym c.closed.ensures ∙ c.if-closed.true in
    let left_is = c.put_back.ensures ∙ ap (λ v. GiveAnswer v target ∷ rest) (process_is p) in
    stays_put program known (MakeCall ProcessSendEof args target ∷ rest) (list_of c.put_back.new.self) (λ s h. close_nothing program known args target rest p c.requires.passes c.process_given-p.ensures closed s h ∙ ap (on s) (sym left_is))

pub get-process-requires : goal.get-process-requires
get-process-requires g c =
    let program = g.P.Program.meant c.args.program.now in
    let known = g.M.Kernel.state c.args.kernel.now in
    let args = map view (items_of c.args.args) in
    let small = running_within known (process_of known (arg args 0)) (closes_of program known args c.requires.passes) in
    omega (arith, small, c.process_given-p.ensures, ap length c.processes.ensures)

pub take_closed-requires : goal.take_closed-requires
take_closed-requires g c =
    let program = g.P.Program.meant c.args.program.now in
    let known = g.M.Kernel.state c.args.kernel.now in
    let args = map view (items_of c.args.args) in
    let p = c.process_given-p.result in
    let k = c.get-process.result.now in
    let made : slice_get known.processes p ≡ Some k = subst (λ l. slice_get l p ≡ Some k) c.processes.ensures c.get-process.ensures in
    let unclosed = ap (is_closed known) (sym c.process_given-p.ensures) ∙ closed_found known p k made ∙ sym c.closed.ensures ∙ c.if-closed.false in
    record {
      place = c.requires.place;
      asked = closes_may program known args c.requires.passes unclosed;
      made = omega (arith, running_within known (process_of known (arg args 0)) (closes_of program known args c.requires.passes), c.process_given-p.ensures);
    }

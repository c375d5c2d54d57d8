use Rattle.std.proofs.Common.{◌≡◌, ◌∷◌, [], map, length, ap, sym, ◌∙◌, subst, true, false, slice_get, arith}
use Rattle.std.specs.Prelude.{Some, option_map, Option}
use Rattle.editor_model.specs.Values.{ProcessSendString}
use Rattle.editor_model.specs.Arguments.{arg}
use Rattle.plain_machine.specs.Arguments.{child_of, process_of}
use Rattle.plain_machine.specs.Calls.{on, sent_answer}
use Rattle.plain_machine.specs.Exchanges.{Answer, Send}
use Rattle.plain_machine.specs.State.{State}
use Rattle.plain_machine.specs.Items.{MakeCall, GiveAnswer, Next}
use Rattle.ek_types.specs.Listing.{items_of}
use Rattle.ek_call.specs.Meaning.{view}
use Rattle.host_link.specs.Meaning.{answer_of, exchange_of}
use Rattle.kernel_steps.specs.Processes.{bytes_of}
use Rattle.kernel_steps.proofs.Passing.{child_found, nothing_there, running_within, sends_few, sends_may, sends_to, something_there}
use Rattle.kernel_steps.proofs.Shapes.{nil_is}
use Rattle.trace_check.specs.Answers.{TakesUp}
use Rattle.trace_check.specs.Meaning.{list_of, target_of}
use Rattle.trace_check.specs.Questions.{Meets}
use Rattle.trace_check.proofs.Agreement.{comes_unmet, comes_taken}
use Rattle.trace_check.proofs.Asking.{send_asks, send_nothing}
use Rattle.trace_check.proofs.Quiet.{stays_put}
use Rattle.std.specs.Prelude.{nat_eq}
use Rattle.trace_check.proofs.processes.send_string.Goals as goal

pub returns-in-Err : goal.returns-in-Err
returns-in-Err g c =
    let program = g.P.Program.meant c.args.program.now in
    let known = g.M.Kernel.state c.args.kernel.now in
    let args = map view (items_of c.args.args) in
    let target = target_of c.args.target in
    let rest = list_of c.args.work.now in
    let next = option_map (λ x. exchange_of x.now) c.args.next in
    let work = MakeCall ProcessSendString args target ∷ rest in
    let bytes = c.in_ok-bytes.bytes.items in
    let some = something_there args bytes c.in_ok-bytes.ensures (sym (ap (λ l. nat_eq (length l) 0) c.as_slice.ensures.value) ∙ sym c.is_empty.ensures ∙ c.if-is_empty.false) in
    let p = c.process_given.result in
    let k = c.get.result.now in
    let made : slice_get known.processes p ≡ Some k = subst (λ l. slice_get l p ≡ Some k) c.processes.ensures c.get.ensures in
    let child : c.child-child.result ≡ child_of known p = c.child-child.ensures ∙ sym (child_found known p k made) in
    let go : State → Answer → Option Next = λ s. sent_answer s target rest (length bytes) in
    let asks = send_asks program known args target rest p bytes c.requires.passes c.process_given.ensures c.in_ok-bytes.ensures some in
    let met : Meets (Send (child_of known p) bytes) (λ answer. true) next c.meet.result = subst (λ n. Meets (Send n bytes) (λ answer. true) next c.meet.result) child (subst (λ l. Meets (Send c.child-child.result l) (λ answer. true) next c.meet.result) c.as_slice-2.ensures.value c.meet.ensures) in
    rw c.unmade.ensures.result (comes_unmet program next known work (Send (child_of known p) bytes) (Unit {0}) c.in-Err.missed (list_of c.unmade.new.work) go asks (rw c.in-Err.is at met) c.unmade.ensures.work)

pub returns : goal.returns
returns g c =
    let program = g.P.Program.meant c.args.program.now in
    let known = g.M.Kernel.state c.args.kernel.now in
    let args = map view (items_of c.args.args) in
    let target = target_of c.args.target in
    let rest = list_of c.args.work.now in
    let next = option_map (λ x. exchange_of x.now) c.args.next in
    let work = MakeCall ProcessSendString args target ∷ rest in
    let bytes = c.in_ok-bytes.bytes.items in
    let some = something_there args bytes c.in_ok-bytes.ensures (sym (ap (λ l. nat_eq (length l) 0) c.as_slice.ensures.value) ∙ sym c.is_empty.ensures ∙ c.if-is_empty.false) in
    let p = c.process_given.result in
    let k = c.get.result.now in
    let made : slice_get known.processes p ≡ Some k = subst (λ l. slice_get l p ≡ Some k) c.processes.ensures c.get.ensures in
    let child : c.child-child.result ≡ child_of known p = c.child-child.ensures ∙ sym (child_found known p k made) in
    let go : State → Answer → Option Next = λ s. sent_answer s target rest (length bytes) in
    let asks = send_asks program known args target rest p bytes c.requires.passes c.process_given.ensures c.in_ok-bytes.ensures some in
    let met : Meets (Send (child_of known p) bytes) (λ answer. true) next c.meet.result = subst (λ n. Meets (Send n bytes) (λ answer. true) next c.meet.result) child (subst (λ l. Meets (Send c.child-child.result l) (λ answer. true) next c.meet.result) c.as_slice-2.ensures.value c.meet.ensures) in
    let (x, is, same, allowed, answer) = rw c.in-Ok.is at met in
    let known2 = g.M.Kernel.state c.take_sent.new.kernel in
    let left = list_of c.take_sent.new.work in
    let sized : TakesUp c.take_sent.result (λ s. go s (answer_of c.in-Ok.answer.now)) known known2 work left = subst (λ n. TakesUp c.take_sent.result (λ s. sent_answer s target rest n (answer_of c.in-Ok.answer.now)) known known2 work left) (c.len.ensures ∙ sym c.as_slice.ensures.len ∙ ap length c.as_slice.ensures.value) c.take_sent.ensures in
    let taken : TakesUp c.take_sent.result (λ s. go s x.answer) known known2 work left = subst (λ a. TakesUp c.take_sent.result (λ s. go s a) known known2 work left) (sym answer) sized in
    comes_taken program next known work (Send (child_of known p) bytes) c.take_sent.result known2 left go asks x is same taken

pub returns-then-is_empty : goal.returns-then-is_empty
returns-then-is_empty g c =
    let program = g.P.Program.meant c.args.program.now in
    let known = g.M.Kernel.state c.args.kernel.now in
    let args = map view (items_of c.args.args) in
    let target = target_of c.args.target in
    let rest = list_of c.args.work.now in
    let bytes = c.in_ok-bytes.bytes.items in
    let none = nothing_there bytes (sym (ap (λ l. nat_eq (length l) 0) c.as_slice.ensures.value) ∙ sym c.is_empty.ensures ∙ c.if-is_empty.true) in
    let left_is = c.put_back.ensures ∙ ap (λ v. GiveAnswer v target ∷ rest) nil_is in
    stays_put program known (MakeCall ProcessSendString args target ∷ rest) (list_of c.put_back.new.self) (λ s h. send_nothing program known args target rest bytes c.requires.passes c.in_ok-bytes.ensures none s h ∙ ap (on s) (sym left_is))

pub get-requires : goal.get-requires
get-requires g c =
    let program = g.P.Program.meant c.args.program.now in
    let known = g.M.Kernel.state c.args.kernel.now in
    let args = map view (items_of c.args.args) in
    let some = something_there args c.in_ok-bytes.bytes.items c.in_ok-bytes.ensures (sym (ap (λ l. nat_eq (length l) 0) c.as_slice.ensures.value) ∙ sym c.is_empty.ensures ∙ c.if-is_empty.false) in
    let runs = sends_to program known args c.requires.passes (λ e. some (c.in_ok-bytes.ensures ∙ e)) in
    omega (arith, running_within known (process_of known (arg args 0)) runs, c.process_given.ensures, ap length c.processes.ensures)

pub take_sent-requires : goal.take_sent-requires
take_sent-requires g c =
    let program = g.P.Program.meant c.args.program.now in
    let known = g.M.Kernel.state c.args.kernel.now in
    let args = map view (items_of c.args.args) in
    let bytes = c.in_ok-bytes.bytes.items in
    let some = something_there args bytes c.in_ok-bytes.ensures (sym (ap (λ l. nat_eq (length l) 0) c.as_slice.ensures.value) ∙ sym c.is_empty.ensures ∙ c.if-is_empty.false) in
    let some_given : bytes_of (arg args 1) ≡ [] → ⊥ = λ e. some (c.in_ok-bytes.ensures ∙ e) in
    record {
      place = c.requires.place;
      asked = sends_may program known args c.requires.passes some_given;
      sent = omega (arith, ap length c.in_ok-bytes.ensures, sends_few program known args c.requires.passes some_given);
    }

use Rattle.std.proofs.Common.{◌≡◌, map, length, slice_get, refl, ap, sym, ◌∙◌, subst, arith, Err}
use Rattle.std.specs.Prelude.{Some}
use Rattle.editor_model.specs.Values.{ProcessSendString}
use Rattle.editor_model.specs.Arguments.{arg}
use Rattle.plain_machine.specs.Exchanges.{Send}
use Rattle.plain_machine.specs.Items.{MakeCall}
use Rattle.plain_machine.specs.Arguments.{process_of, child_of}
use Rattle.host_link.specs.Hosts.{send_answer}
use Rattle.ek_types.specs.Listing.{items_of}
use Rattle.ek_call.specs.Meaning.{view}
use Rattle.kernel_steps.specs.HostCalls.{CallsSince}
use Rattle.kernel_steps.specs.Work.{onwards, outwards}
use Rattle.kernel_steps.specs.Worlds.{World, world}
use Rattle.kernel_steps.specs.declared.stop.Halt.TheVariants as halt
use Rattle.kernel_steps.specs.declared.stop.Stop.TheVariants as stop
use Rattle.kernel_steps.proofs.Results.{stopped_by}
use Rattle.kernel_steps.proofs.Shapes.{nil_is}
use Rattle.kernel_steps.proofs.HostCalls.{adds_call}
use Rattle.kernel_steps.proofs.Works.{item_wants, middle, keeps_self, work_behind, work_left, work_unasked}
use Rattle.kernel_steps.proofs.Passing.{nothing_there, something_there, running_within, child_hosted, child_found, sends_to, sends_few, sends_may}
use Rattle.kernel_steps.proofs.Exchanging.{nothing_went, sent_went, counted_keeps}
use Rattle.kernel_steps.proofs.processes.send_string.Given.{Over}
use Rattle.kernel_steps.proofs.processes.send_string.Goals as goal

abbrev at : (g : Over) → g.row.H.Denot → g.row.M.Denot → g.row.H.Denot → g.row.K.Denot → World
at g start kernel host sink = world g.M.Kernel.state g.H.Host.state g.H.Host.made start kernel host (g.K.Sink.state sink)

pub returns-in_err-bytes : goal.returns-in_err-bytes
returns-in_err-bytes g c = λ start target.
    rw (stopped_by c.from_residual.result (halt.Stop stop.NoMemory) c.from_residual.ensures)
    (item_wants (g.P.Program.meant c.args.program.now) (at g start c.args.kernel.now c.args.host.now c.args.sink.now) (MakeCall ProcessSendString (map view (items_of c.args.args.now)) target) _ c.requires.ready.hosted (middle (λ s rest. (tt, tt))))

pub returns-then-holds_nothing : goal.returns-then-holds_nothing
returns-then-holds_nothing g c = λ start target.
    let program = g.P.Program.meant c.args.program.now in
    let before = at g start c.args.kernel.now c.args.host.now c.args.sink.now in
    let args = map view (items_of c.args.args.now) in
    let s = g.M.Kernel.state c.args.kernel.now in
    let kills = (g.H.Host.state c.args.host.now).kills in
    work_behind program c.tell.result before before (at g start c.args.kernel.now c.args.host.now c.tell.new.sink) _ _ _ outwards
    (nothing_went program before args target c.requires.passes (sym (c.as_slice-text.ensures.value ∙ c.in_ok-bytes.ensures) ∙ nothing_there c.as_slice-text.result.now (sym c.holds_nothing.ensures ∙ c.if-holds_nothing.true))) (keeps_self before c.requires.ready.hosted)
    (work_unasked program (g.K.Sink.state c.args.sink.now) (g.K.Sink.state c.tell.new.sink) (CallsSince g.H.Host.state g.H.Host.made start c.args.host.now) s s kills c.tell.result _ _ outwards (rw nil_is at (c.tell.ensures kills c.requires.ready.hosted target)))

pub returns-in_err-answer : goal.returns-in_err-answer
returns-in_err-answer g c = λ start target.
    rw (stopped_by c.from_residual-in_err-answer.result (halt.Stop stop.NoMemory) c.from_residual-in_err-answer.ensures, c.in_err-answer.ensures.unchanged)
    (item_wants (g.P.Program.meant c.args.program.now) (at g start c.args.kernel.now c.args.host.now c.args.sink.now) (MakeCall ProcessSendString (map view (items_of c.args.args.now)) target) _ c.requires.ready.hosted (middle (λ s rest. (tt, tt))))

pub returns-in-Sent : goal.returns-in-Sent
returns-in-Sent g c = λ start target.
    let program = g.P.Program.meant c.args.program.now in
    let before = at g start c.args.kernel.now c.args.host.now c.args.sink.now in
    let args = map view (items_of c.args.args.now) in
    let s = g.M.Kernel.state c.args.kernel.now in
    let kills = (g.H.Host.state c.args.host.now).kills in
    let some = something_there args c.as_slice-text.result.now (c.as_slice-text.ensures.value ∙ c.in_ok-bytes.ensures) (sym c.holds_nothing.ensures ∙ c.if-holds_nothing.false) in
    let found = subst (λ l. slice_get l c.process_given-p.result ≡ Some c.get.result.now) c.processes.ensures c.get.ensures in
    let number = c.child-child.ensures ∙ sym (child_found s c.process_given-p.result c.get.result.now found) ∙ ap (child_of s) c.process_given-p.ensures in
    let known = g.M.Kernel.state c.count_sent.new.self in
    let now = CallsSince g.H.Host.state g.H.Host.made start c.send.new.self in
    let kills2 = (g.H.Host.state c.send.new.self).kills in
    let now_is = c.count_sent.ensures in
    let a = c.in_ok-answer.answer in
    let mid : World = record { state = known; kills = kills2; outside = record { sink = g.K.Sink.state c.args.sink.now; past = now } } in
    let exchange = adds_call g.H.Host.state g.H.Host.made start c.args.host.now c.send.new.self _ (Send c.child-child.result c.as_slice-text.result.now) (send_answer a) refl tt c.in_ok-answer.ensures.asked c.in_ok-answer.ensures.made in
    let kept = counted_keeps program before args target (length c.as_slice-text.result.now) known kills2 now now_is c.in_ok-answer.ensures.asked.kills c.requires.ready.hosted in
    let went = sent_went program before args target c.as_slice-text.result.now c.child-child.result a known kills2 now c.requires.passes (c.as_slice-text.ensures.value ∙ c.in_ok-bytes.ensures) some number now_is exchange in
    work_behind program c.tell-in-Sent.result before mid (at g start c.count_sent.new.self c.send.new.self c.tell-in-Sent.new.sink) _ _ _ outwards (rw c.in-Sent.is at went) kept
    (work_unasked program (g.K.Sink.state c.args.sink.now) (g.K.Sink.state c.tell-in-Sent.new.sink) now known known kills2 c.tell-in-Sent.result _ _ outwards (rw nil_is at (c.tell-in-Sent.ensures kills2 kept.hosted target)))

pub returns : goal.returns
returns g c = λ start target.
    let program = g.P.Program.meant c.args.program.now in
    let before = at g start c.args.kernel.now c.args.host.now c.args.sink.now in
    let args = map view (items_of c.args.args.now) in
    let s = g.M.Kernel.state c.args.kernel.now in
    let kills = (g.H.Host.state c.args.host.now).kills in
    let some = something_there args c.as_slice-text.result.now (c.as_slice-text.ensures.value ∙ c.in_ok-bytes.ensures) (sym c.holds_nothing.ensures ∙ c.if-holds_nothing.false) in
    let found = subst (λ l. slice_get l c.process_given-p.result ≡ Some c.get.result.now) c.processes.ensures c.get.ensures in
    let number = c.child-child.ensures ∙ sym (child_found s c.process_given-p.result c.get.result.now found) ∙ ap (child_of s) c.process_given-p.ensures in
    let known = g.M.Kernel.state c.count_sent.new.self in
    let now = CallsSince g.H.Host.state g.H.Host.made start c.send.new.self in
    let kills2 = (g.H.Host.state c.send.new.self).kills in
    let now_is = c.count_sent.ensures in
    let a = c.in_ok-answer.answer in
    let mid : World = record { state = known; kills = kills2; outside = record { sink = g.K.Sink.state c.args.sink.now; past = now } } in
    let exchange = adds_call g.H.Host.state g.H.Host.made start c.args.host.now c.send.new.self _ (Send c.child-child.result c.as_slice-text.result.now) (send_answer a) refl tt c.in_ok-answer.ensures.asked c.in_ok-answer.ensures.made in
    let kept = counted_keeps program before args target (length c.as_slice-text.result.now) known kills2 now now_is c.in_ok-answer.ensures.asked.kills c.requires.ready.hosted in
    let went = sent_went program before args target c.as_slice-text.result.now c.child-child.result a known kills2 now c.requires.passes (c.as_slice-text.ensures.value ∙ c.in_ok-bytes.ensures) some number now_is exchange in
    work_behind program (Err c.refuse.result) before mid (at g start c.count_sent.new.self c.send.new.self c.refuse.new.sink) _ _ _ outwards (rw c.in-Broken.is at went) kept
    (work_left program c.refuse.result _ _ _ onwards _ outwards
    (work_unasked program (g.K.Sink.state c.args.sink.now) (g.K.Sink.state c.refuse.new.sink) now known known kills2 (Err c.refuse.result) _ onwards outwards (c.refuse.ensures kills2 kept.hosted)))

pub get-requires : goal.get-requires
get-requires g c =
    let s = g.M.Kernel.state c.args.kernel.now in
    let args = map view (items_of c.args.args.now) in
    let some = something_there args c.as_slice-text.result.now (c.as_slice-text.ensures.value ∙ c.in_ok-bytes.ensures) (sym c.holds_nothing.ensures ∙ c.if-holds_nothing.false) in
    let runs = sends_to (g.P.Program.meant c.args.program.now) s args c.requires.passes (λ e. some (c.as_slice-text.ensures.value ∙ c.in_ok-bytes.ensures ∙ e)) in
    let small = running_within s (process_of s (arg args 0)) runs in
    omega (arith, small, c.process_given-p.ensures, ap length c.processes.ensures)

pub send-requires : goal.send-requires
send-requires g c =
    let s = g.M.Kernel.state c.args.kernel.now in
    let found = subst (λ l. slice_get l c.process_given-p.result ≡ Some c.get.result.now) c.processes.ensures c.get.ensures in
    omega (arith, c.child-child.ensures, child_hosted s.processes (g.H.Host.state c.args.host.now).kills c.process_given-p.result c.get.result.now c.requires.ready.hosted found)

pub count_sent-requires : goal.count_sent-requires
count_sent-requires g c =
    let program = g.P.Program.meant c.args.program.now in
    let s = g.M.Kernel.state c.args.kernel.now in
    let args = map view (items_of c.args.args.now) in
    let some = something_there args c.as_slice-text.result.now (c.as_slice-text.ensures.value ∙ c.in_ok-bytes.ensures) (sym c.holds_nothing.ensures ∙ c.if-holds_nothing.false) in
    record {
      asked = sends_may program s args c.requires.passes (λ e. some (c.as_slice-text.ensures.value ∙ c.in_ok-bytes.ensures ∙ e));
      sent = omega (arith, ap length (c.as_slice-text.ensures.value ∙ c.in_ok-bytes.ensures), sends_few program s args c.requires.passes (λ e. some (c.as_slice-text.ensures.value ∙ c.in_ok-bytes.ensures ∙ e)));
    }

use Rattle.std.proofs.Common.{◌≡◌, map, length, slice_get, refl, ap, sym, ◌∙◌, subst, arith}
use Rattle.std.specs.Prelude.{Some}
use Rattle.editor_model.specs.Values.{ProcessSendEof}
use Rattle.editor_model.specs.Arguments.{arg}
use Rattle.plain_machine.specs.Exchanges.{Close, Closed}
use Rattle.plain_machine.specs.Items.{MakeCall}
use Rattle.plain_machine.specs.Arguments.{process_of, is_closed}
use Rattle.ek_types.specs.Listing.{items_of}
use Rattle.ek_call.specs.Meaning.{view}
use Rattle.kernel_steps.specs.HostCalls.{CallsSince}
use Rattle.kernel_steps.specs.Work.{outwards}
use Rattle.kernel_steps.specs.Worlds.{World, world}
use Rattle.kernel_steps.specs.declared.stop.Halt.TheVariants as halt
use Rattle.kernel_steps.specs.declared.stop.Stop.TheVariants as stop
use Rattle.kernel_steps.proofs.Results.{stopped_by}
use Rattle.kernel_steps.proofs.Shapes.{process_is}
use Rattle.kernel_steps.proofs.HostCalls.{adds_call}
use Rattle.kernel_steps.proofs.Works.{item_wants, middle, keeps_self, work_behind, work_unasked}
use Rattle.kernel_steps.proofs.Passing.{running_within, child_hosted, child_found, closed_found, closes_of, closes_may}
use Rattle.kernel_steps.proofs.Exchanging.{closed_went, closes_went, closed_keeps}
use Rattle.kernel_steps.proofs.processes.send_eof.Given.{Over}
use Rattle.kernel_steps.proofs.processes.send_eof.Goals as goal

abbrev at : (g : Over) → g.row.H.Denot → g.row.M.Denot → g.row.H.Denot → g.row.K.Denot → World
at g start kernel host sink = world g.M.Kernel.state g.H.Host.state g.H.Host.made start kernel host (g.K.Sink.state sink)

pub returns-then-closed : goal.returns-then-closed
returns-then-closed g c = λ start target.
    let program = g.P.Program.meant c.args.program.now in
    let before = at g start c.args.kernel.now c.args.host.now c.args.sink.now in
    let args = map view (items_of c.args.args.now) in
    let s = g.M.Kernel.state c.args.kernel.now in
    let kills = (g.H.Host.state c.args.host.now).kills in
    let found = subst (λ l. slice_get l c.process_given-p.result ≡ Some c.get-process.result.now) c.processes.ensures c.get-process.ensures in
    let closed = ap (is_closed s) (sym c.process_given-p.ensures) ∙ closed_found s c.process_given-p.result c.get-process.result.now found ∙ sym c.closed.ensures ∙ c.if-closed.true in
    work_behind program c.tell.result before before (at g start c.args.kernel.now c.args.host.now c.tell.new.sink) _ _ _ outwards
    (closed_went program before args target c.process_given-p.result c.requires.passes c.process_given-p.ensures closed) (keeps_self before c.requires.ready.hosted)
    (work_unasked program (g.K.Sink.state c.args.sink.now) (g.K.Sink.state c.tell.new.sink) (CallsSince g.H.Host.state g.H.Host.made start c.args.host.now) s s kills c.tell.result _ _ outwards (rw (process_is c.process_given-p.result) at (c.tell.ensures kills c.requires.ready.hosted target)))

pub returns-in_err-close : goal.returns-in_err-close
returns-in_err-close g c = λ start target.
    rw (stopped_by c.from_residual.result (halt.Stop stop.NoMemory) c.from_residual.ensures, c.in_err-close.ensures.unchanged)
    (item_wants (g.P.Program.meant c.args.program.now) (at g start c.args.kernel.now c.args.host.now c.args.sink.now) (MakeCall ProcessSendEof (map view (items_of c.args.args.now)) target) _ c.requires.ready.hosted (middle (λ s rest. (tt, tt))))

pub returns : goal.returns
returns g c = λ start target.
    let program = g.P.Program.meant c.args.program.now in
    let before = at g start c.args.kernel.now c.args.host.now c.args.sink.now in
    let args = map view (items_of c.args.args.now) in
    let s = g.M.Kernel.state c.args.kernel.now in
    let kills = (g.H.Host.state c.args.host.now).kills in
    let found = subst (λ l. slice_get l c.process_given-p.result ≡ Some c.get-process.result.now) c.processes.ensures c.get-process.ensures in
    let p = c.process_given-p.result in
    let unclosed = ap (is_closed s) (sym c.process_given-p.ensures) ∙ closed_found s p c.get-process.result.now found ∙ sym c.closed.ensures ∙ c.if-closed.false in
    let number = c.child.ensures ∙ sym (child_found s p c.get-process.result.now found) in
    let known = g.M.Kernel.state c.note_closed.new.self in
    let now = CallsSince g.H.Host.state g.H.Host.made start c.close.new.self in
    let kills2 = (g.H.Host.state c.close.new.self).kills in
    let mid : World = record { state = known; kills = kills2; outside = record { sink = g.K.Sink.state c.args.sink.now; past = now } } in
    let exchange = adds_call g.H.Host.state g.H.Host.made start c.args.host.now c.close.new.self _ (Close c.child.result) Closed refl tt c.in_ok-close.ensures.asked c.in_ok-close.ensures.made in
    let kept = closed_keeps program before args target p known kills2 now c.note_closed.ensures c.in_ok-close.ensures.asked.kills c.requires.ready.hosted in
    let went = closes_went program before args target p c.child.result known kills2 now c.requires.passes c.process_given-p.ensures unclosed number c.note_closed.ensures exchange in
    work_behind program c.tell-2.result before mid (at g start c.note_closed.new.self c.close.new.self c.tell-2.new.sink) _ _ _ outwards went kept
    (work_unasked program (g.K.Sink.state c.args.sink.now) (g.K.Sink.state c.tell-2.new.sink) now known known kills2 c.tell-2.result _ _ outwards (rw (process_is p) at (c.tell-2.ensures kills2 kept.hosted target)))

pub get-process-requires : goal.get-process-requires
get-process-requires g c =
    let s = g.M.Kernel.state c.args.kernel.now in
    let args = map view (items_of c.args.args.now) in
    let small = running_within s (process_of s (arg args 0)) (closes_of (g.P.Program.meant c.args.program.now) s args c.requires.passes) in
    omega (arith, small, c.process_given-p.ensures, ap length c.processes.ensures)

pub close-requires : goal.close-requires
close-requires g c =
    let s = g.M.Kernel.state c.args.kernel.now in
    let found = subst (λ l. slice_get l c.process_given-p.result ≡ Some c.get-process.result.now) c.processes.ensures c.get-process.ensures in
    omega (arith, c.child.ensures, child_hosted s.processes (g.H.Host.state c.args.host.now).kills c.process_given-p.result c.get-process.result.now c.requires.ready.hosted found)

pub note_closed-requires : goal.note_closed-requires
note_closed-requires g c =
    let program = g.P.Program.meant c.args.program.now in
    let s = g.M.Kernel.state c.args.kernel.now in
    let args = map view (items_of c.args.args.now) in
    let found = subst (λ l. slice_get l c.process_given-p.result ≡ Some c.get-process.result.now) c.processes.ensures c.get-process.ensures in
    let unclosed = ap (is_closed s) (sym c.process_given-p.ensures) ∙ closed_found s c.process_given-p.result c.get-process.result.now found ∙ sym c.closed.ensures ∙ c.if-closed.false in
    record {
      asked = closes_may program s args c.requires.passes unclosed;
      made = omega (arith, running_within s (process_of s (arg args 0)) (closes_of program s args c.requires.passes), c.process_given-p.ensures);
    }

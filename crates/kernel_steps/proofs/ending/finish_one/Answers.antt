use Rattle.std.proofs.Common.{◌≡◌, slice_get, refl, sym, ◌∙◌, subst}
use Rattle.std.specs.Prelude.{Some}
use Rattle.host_link.specs.Hosts.{kill_answer}
use Rattle.kernel_steps.specs.Worlds.{world}
use Rattle.kernel_steps.specs.HostCalls.{CallsSince}
use Rattle.kernel_steps.specs.Ending.{origin}
use Rattle.kernel_steps.specs.declared.stop.Stop.TheVariants as stop
use Rattle.kernel_steps.proofs.Results.{stopped_by}
use Rattle.kernel_steps.proofs.HostCalls.{adds_call}
use Rattle.kernel_steps.proofs.Finishing.{lives, hosted_skip, hosted_after}
use Rattle.kernel_steps.proofs.Killing.{skipped, killed_silently, killed_aloud, killed_unwritten}
use Rattle.kernel_steps.proofs.ending.finish_one.Goals as goal

pub returns-then-not-still_runs-clause-deals : goal.returns-then-not-still_runs-clause-deals
returns-then-not-still_runs-clause-deals g c = λ before start from h.
    let made = subst (λ l. slice_get l c.args.p ≡ Some c.get-process.result.now) c.processes.ensures c.get-process.ensures in
    let now = world g.M.Kernel.state g.H.Host.state g.H.Host.made start c.args.kernel.now c.args.host.now (g.K.Sink.state c.args.sink.now) in
    skipped (g.P.Program.meant c.args.program.now) (origin g.H.Host.state g.H.Host.made start before) from now c.args.p c.get-process.result.now made c.args.so_far (sym c.still_runs.ensures ∙ c.if-not-still_runs.true) h

pub returns-then-not-still_runs-clause-hosted : goal.returns-then-not-still_runs-clause-hosted
returns-then-not-still_runs-clause-hosted g c =
    let made = subst (λ l. slice_get l c.args.p ≡ Some c.get-process.result.now) c.processes.ensures c.get-process.ensures in
    hosted_skip (g.M.Kernel.state c.args.kernel.now).processes c.args.p c.get-process.result.now made (g.H.Host.state c.args.host.now).kills c.requires.hosted

pub kill-requires : goal.kill-requires
kill-requires g c =
    let made = subst (λ l. slice_get l c.args.p ≡ Some c.get-process.result.now) c.processes.ensures c.get-process.ensures in
    rw c.child.ensures (lives (g.M.Kernel.state c.args.kernel.now).processes c.args.p c.get-process.result.now made (g.H.Host.state c.args.host.now).kills c.requires.hosted (sym c.still_runs.ensures ∙ c.if-not-still_runs.false))

pub returns-in_err-so_far-clause-deals : goal.returns-in_err-so_far-clause-deals
returns-in_err-so_far-clause-deals g c = λ before start from h.
    let made = subst (λ l. slice_get l c.args.p ≡ Some c.get-process.result.now) c.processes.ensures c.get-process.ensures in
    let now = world g.M.Kernel.state g.H.Host.state g.H.Host.made start c.args.kernel.now c.args.host.now (g.K.Sink.state c.args.sink.now) in
    let exchange = adds_call g.H.Host.state g.H.Host.made start c.args.host.now c.kill.new.self _ _ (kill_answer c.kill.result) refl tt (rw c.child.ensures at c.kill.ensures.asked) (rw c.child.ensures at c.kill.ensures.made) in
    rw (stopped_by c.from_residual.result c.in_err-so_far.field-0.0 c.from_residual.ensures)
    (killed_silently (g.P.Program.meant c.args.program.now) (origin g.H.Host.state g.H.Host.made start before) from now c.args.p c.get-process.result.now made (sym c.still_runs.ensures ∙ c.if-not-still_runs.false)
    (g.H.Host.state c.kill.new.self).kills (g.K.Sink.state c.args.sink.now) (CallsSince g.H.Host.state g.H.Host.made start c.kill.new.self) c.kill.result exchange c.in_err-so_far.field-0.0 refl (rw c.in_err-so_far.was at h))

pub returns-in_err-so_far-clause-hosted : goal.returns-in_err-so_far-clause-hosted
returns-in_err-so_far-clause-hosted g c =
    let made = subst (λ l. slice_get l c.args.p ≡ Some c.get-process.result.now) c.processes.ensures c.get-process.ensures in
    rw (c.kill.ensures.asked.kills, c.child.ensures) (hosted_after (g.M.Kernel.state c.args.kernel.now).processes c.args.p c.get-process.result.now made (g.H.Host.state c.args.host.now).kills c.requires.hosted)

pub returns-in_err-tell_kill-clause-deals : goal.returns-in_err-tell_kill-clause-deals
returns-in_err-tell_kill-clause-deals g c = λ before start from h.
    let made = subst (λ l. slice_get l c.args.p ≡ Some c.get-process.result.now) c.processes.ensures c.get-process.ensures in
    let now = world g.M.Kernel.state g.H.Host.state g.H.Host.made start c.args.kernel.now c.args.host.now (g.K.Sink.state c.args.sink.now) in
    let exchange = adds_call g.H.Host.state g.H.Host.made start c.args.host.now c.kill.new.self _ _ (kill_answer c.kill.result) refl tt (rw c.child.ensures at c.kill.ensures.asked) (rw c.child.ensures at c.kill.ensures.made) in
    let after = hosted_after (g.M.Kernel.state c.args.kernel.now).processes c.args.p c.get-process.result.now made (g.H.Host.state c.args.host.now).kills c.requires.hosted in
    rw (stopped_by c.from_residual-in_err-tell_kill.result stop.WriteFault c.from_residual-in_err-tell_kill.ensures)
    (killed_unwritten (g.P.Program.meant c.args.program.now) (origin g.H.Host.state g.H.Host.made start before) from now c.args.p c.get-process.result.now made (sym c.still_runs.ensures ∙ c.if-not-still_runs.false)
    (g.H.Host.state c.kill.new.self).kills (g.K.Sink.state c.tell_kill.new.sink) (CallsSince g.H.Host.state g.H.Host.made start c.kill.new.self) c.kill.result exchange c.in_ok-so_far.field-0 c.in_err-tell_kill.field-0.0
    (rw (c.kill.ensures.asked.kills, c.child.ensures) after) c.in_err-tell_kill.ensures (rw c.in_ok-so_far.was at h))

pub returns-in_err-tell_kill-clause-hosted : goal.returns-in_err-tell_kill-clause-hosted
returns-in_err-tell_kill-clause-hosted g c =
    let made = subst (λ l. slice_get l c.args.p ≡ Some c.get-process.result.now) c.processes.ensures c.get-process.ensures in
    rw (c.kill.ensures.asked.kills, c.child.ensures) (hosted_after (g.M.Kernel.state c.args.kernel.now).processes c.args.p c.get-process.result.now made (g.H.Host.state c.args.host.now).kills c.requires.hosted)

pub returns-clause-deals : goal.returns-clause-deals
returns-clause-deals g c = λ before start from h.
    let made = subst (λ l. slice_get l c.args.p ≡ Some c.get-process.result.now) c.processes.ensures c.get-process.ensures in
    let now = world g.M.Kernel.state g.H.Host.state g.H.Host.made start c.args.kernel.now c.args.host.now (g.K.Sink.state c.args.sink.now) in
    let exchange = adds_call g.H.Host.state g.H.Host.made start c.args.host.now c.kill.new.self _ _ (kill_answer c.kill.result) refl tt (rw c.child.ensures at c.kill.ensures.asked) (rw c.child.ensures at c.kill.ensures.made) in
    killed_aloud (g.P.Program.meant c.args.program.now) (origin g.H.Host.state g.H.Host.made start before) from now c.args.p c.get-process.result.now made (sym c.still_runs.ensures ∙ c.if-not-still_runs.false)
    (g.H.Host.state c.kill.new.self).kills (g.K.Sink.state c.tell_kill.new.sink) (CallsSince g.H.Host.state g.H.Host.made start c.kill.new.self) c.kill.result exchange c.in_ok-so_far.field-0 c.in_ok-tell_kill.field-0 c.in_ok-tell_kill.ensures (rw c.in_ok-so_far.was at h)

pub returns-clause-hosted : goal.returns-clause-hosted
returns-clause-hosted g c =
    let made = subst (λ l. slice_get l c.args.p ≡ Some c.get-process.result.now) c.processes.ensures c.get-process.ensures in
    rw (c.kill.ensures.asked.kills, c.child.ensures) (hosted_after (g.M.Kernel.state c.args.kernel.now).processes c.args.p c.get-process.result.now made (g.H.Host.state c.args.host.now).kills c.requires.hosted)

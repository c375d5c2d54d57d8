use Rattle.std.proofs.Common.{map}
use Rattle.plain_machine.specs.Items.{MakeCall}
use Rattle.ek_types.specs.Listing.{items_of}
use Rattle.ek_call.specs.Meaning.{view}
use Rattle.ek_call.specs.Primitives.{prim_of}
use Rattle.kernel_steps.specs.Processes.{set_by}
use Rattle.kernel_steps.specs.Worlds.{quiet_world}
use Rattle.kernel_steps.specs.declared.stop.Halt.TheVariants as halt
use Rattle.kernel_steps.specs.declared.stop.Stop.TheVariants as stop
use Rattle.kernel_steps.proofs.Results.{stopped_by}
use Rattle.kernel_steps.proofs.Works.{item_wants, middle, work_behind}
use Rattle.kernel_steps.proofs.Silently.{silent_went, set_by_calm, calm_as_known, calm_keeps}
use Rattle.kernel_steps.proofs.processes.call_silent.Goals as goal

pub returns-in_err-value : goal.returns-in_err-value
returns-in_err-value g c = λ kills hosted target.
    rw (stopped_by c.from_residual.result (halt.Stop stop.NoMemory) c.from_residual.ensures, c.in_err-value.ensures.err)
    (item_wants (g.P.Program.meant c.args.program.now) (quiet_world (g.M.Kernel.state c.args.kernel.now) kills (g.K.Sink.state c.args.sink.now)) (MakeCall (prim_of c.args.prim) (map view (items_of c.args.args.now)) target) _ hosted (middle (λ s rest. (tt, tt))))

pub returns : goal.returns
returns g c = λ kills hosted target.
    let program = g.P.Program.meant c.args.program.now in
    let prim = prim_of c.args.prim in
    let args = map view (items_of c.args.args.now) in
    let s = g.M.Kernel.state c.args.kernel.now in
    let w = quiet_world s kills (g.K.Sink.state c.args.sink.now) in
    let known = g.M.Kernel.state c.call_silently.new.self in
    let is = c.in_ok-value.ensures.ok in
    let kept = calm_keeps w known (calm_as_known s known (set_by prim args s) kills is (set_by_calm prim args s kills)) hosted in
    work_behind program c.tell.result w (quiet_world known kills (g.K.Sink.state c.args.sink.now)) (quiet_world known kills (g.K.Sink.state c.tell.new.sink)) _ _ _ _
    (silent_went program w prim args target known (view c.in_ok-value.value) c.requires.manner c.requires.silent c.requires.passes is c.in_ok-value.ensures.value) kept
    (c.tell.ensures kills kept.hosted target)

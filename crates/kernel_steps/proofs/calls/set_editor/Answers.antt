use Rattle.std.proofs.Common.{map, ap}
use Rattle.plain_machine.specs.State.{State}
use Rattle.plain_machine.specs.Items.{MakeCall}
use Rattle.ek_types.specs.Listing.{items_of}
use Rattle.ek_call.specs.Meaning.{view, reply_of}
use Rattle.ek_call.specs.Primitives.{prim_of}
use Rattle.kernel_steps.specs.Worlds.{quiet_world}
use Rattle.kernel_steps.specs.declared.stop.Halt.TheVariants as halt
use Rattle.kernel_steps.specs.declared.stop.Stop.TheVariants as stop
use Rattle.kernel_steps.proofs.Results.{stopped_by}
use Rattle.kernel_steps.proofs.Works.{item_wants, middle, work_behind}
use Rattle.kernel_steps.proofs.Calling.{sets_went, keeps_same}
use Rattle.kernel_steps.proofs.calls.set_editor.Goals as goal

pub returns-in_err-reply : goal.returns-in_err-reply
returns-in_err-reply g c = λ kills hosted target.
    rw (stopped_by c.from_residual.result (halt.Stop stop.NoMemory) c.from_residual.ensures, c.in_err-reply.ensures.err)
    (item_wants (g.P.Program.meant c.args.program.now) (quiet_world (g.M.Kernel.state c.args.kernel.now) kills (g.K.Sink.state c.args.sink.now)) (MakeCall (prim_of c.args.prim) (map view (items_of c.args.args.now)) target) _ hosted (middle (λ s rest. (tt, tt))))

pub returns : goal.returns
returns g c = λ kills hosted target.
    let w = quiet_world (g.M.Kernel.state c.args.kernel.now) kills (g.K.Sink.state c.args.sink.now) in
    let known = g.M.Kernel.state c.apply.new.self in
    let is = c.in_ok-reply.ensures.ok in
    let kept = keeps_same w known hosted (ap (λ (s : State). s.processes) is) (ap (λ (s : State). s.depth) is) (ap (λ (s : State). s.inhibited) is) (ap (λ (s : State). s.asked) is) in
    work_behind (g.P.Program.meant c.args.program.now) c.tell.result w (quiet_world known kills (g.K.Sink.state c.args.sink.now)) (quiet_world known kills (g.K.Sink.state c.tell.new.sink)) _ _ _ _
    (sets_went (g.P.Program.meant c.args.program.now) w known (prim_of c.args.prim) (map view (items_of c.args.args.now)) target (reply_of c.in_ok-reply.reply) c.requires is c.in_ok-reply.ensures.reply) kept
    (c.tell.ensures kills kept.hosted target)

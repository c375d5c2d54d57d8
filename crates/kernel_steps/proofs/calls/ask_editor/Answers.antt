use Rattle.std.proofs.Common.{map}
use Rattle.plain_machine.specs.Items.{MakeCall}
use Rattle.ek_types.specs.Listing.{items_of}
use Rattle.ek_call.specs.Meaning.{view, reply_of}
use Rattle.ek_call.specs.Primitives.{prim_of}
use Rattle.kernel_steps.specs.Worlds.{quiet_world}
use Rattle.kernel_steps.specs.declared.stop.Halt.TheVariants as halt
use Rattle.kernel_steps.specs.declared.stop.Stop.TheVariants as stop
use Rattle.kernel_steps.proofs.Results.{stopped_by}
use Rattle.kernel_steps.proofs.Works.{keeps_self, item_wants, middle, work_behind}
use Rattle.kernel_steps.proofs.Calling.{asks_went}
use Rattle.kernel_steps.proofs.calls.ask_editor.Goals as goal

pub returns-in_err-reply : goal.returns-in_err-reply
returns-in_err-reply g c = λ kills hosted target.
    rw (stopped_by c.from_residual.result (halt.Stop stop.NoMemory) c.from_residual.ensures)
    (item_wants (g.P.Program.meant c.args.program.now) (quiet_world (g.M.Kernel.state c.args.kernel.now) kills (g.K.Sink.state c.args.sink.now)) (MakeCall (prim_of c.args.prim) (map view (items_of c.args.args.now)) target) _ hosted (middle (λ s rest. (tt, tt))))

pub returns : goal.returns
returns g c = λ kills hosted target.
    let w = quiet_world (g.M.Kernel.state c.args.kernel.now) kills (g.K.Sink.state c.args.sink.now) in
    work_behind (g.P.Program.meant c.args.program.now) c.tell.result w w (quiet_world (g.M.Kernel.state c.args.kernel.now) kills (g.K.Sink.state c.tell.new.sink)) _ _ _ _
    (asks_went (g.P.Program.meant c.args.program.now) w (prim_of c.args.prim) (map view (items_of c.args.args.now)) target (reply_of c.in_ok-reply.reply) c.requires c.in_ok-reply.ensures) (keeps_self w hosted)
    (c.tell.ensures kills hosted target)

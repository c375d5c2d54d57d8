use Rattle.std.proofs.Common.{refl}
use Rattle.plain_machine.specs.Run.{start as first}
use Rattle.ek_call.specs.Meaning.{script_of}
use Rattle.kernel_steps.specs.Ending.{origin}
use Rattle.kernel_steps.specs.Worlds.{world}
use Rattle.kernel_steps.proofs.Whole.{ended, came, new_ready, stays_hosted}
use Rattle.kernel_steps.proofs.script.run_script.Goals as goal

pub returns-clause-outcome : goal.returns-clause-outcome
returns-clause-outcome g c =
    let program = g.P.Program.meant c.args.program.now in
    let script = script_of c.args.script.now in
    let begin = c.args.host.now in
    let sink = g.K.Sink.state c.args.sink.now in
    let known = g.M.Kernel.state c.run_top-ran.new.kernel in
    let so_far = came c.run_top-ran.result program script.forms (origin g.H.Host.state g.H.Host.made begin sink) (world g.M.Kernel.state g.H.Host.state g.H.Host.made begin c.run_top-ran.new.kernel c.run_top-ran.new.host (g.K.Sink.state c.run_top-ran.new.sink)) refl (rw c.requires.new at (c.run_top-ran.ensures begin)) in
    ended program script g.H.Host.state g.H.Host.made begin sink c.finish.new.host (g.K.Sink.state c.finish.new.sink) known c.finish.result
    (c.kills_are_left.ensures program 16 script) (c.whole_runs_hear_all.ensures program 16 script) (c.broken_runs_hear_all.ensures program 16 script) (c.sentinels_come_last.ensures program 16 script)
    (c.ends_are_asked_after_output.ensures program 16 script) (c.sentinels_come_after_output.ensures program 16 script) (c.undo_returns.ensures program 16 script)
    (c.finish.ensures sink begin (first script) so_far)

pub returns-clause-cause : goal.returns-clause-cause
returns-clause-cause g c =
    let program = g.P.Program.meant c.args.program.now in
    let script = script_of c.args.script.now in
    let begin = c.args.host.now in
    let sink = g.K.Sink.state c.args.sink.now in
    let so_far = came c.run_top-ran.result program script.forms (origin g.H.Host.state g.H.Host.made begin sink) (world g.M.Kernel.state g.H.Host.state g.H.Host.made begin c.run_top-ran.new.kernel c.run_top-ran.new.host (g.K.Sink.state c.run_top-ran.new.sink)) refl (rw c.requires.new at (c.run_top-ran.ensures begin)) in
    (c.finish.ensures sink begin (first script) so_far).cause

pub run_top-ran-requires : goal.run_top-ran-requires
run_top-ran-requires g c = new_ready (g.M.Kernel.state c.args.kernel.now) (g.H.Host.state c.args.host.now).kills c.requires.new c.requires.few

pub finish-requires : goal.finish-requires
finish-requires g c =
    let begin = c.args.host.now in
    stays_hosted c.run_top-ran.result (world g.M.Kernel.state g.H.Host.state g.H.Host.made begin c.args.kernel.now c.args.host.now (g.K.Sink.state c.args.sink.now)) (world g.M.Kernel.state g.H.Host.state g.H.Host.made begin c.run_top-ran.new.kernel c.run_top-ran.new.host (g.K.Sink.state c.run_top-ran.new.sink)) (c.run_top-ran.ensures begin).stays

use Rattle.std.proofs.Common.{[], refl}
use Rattle.std.proofs.KnownBytes.{Appends-nil}
use Rattle.ek_call.specs.Meaning.{script_of}
use Rattle.kernel_state.specs.Whole.{program_with}
use Rattle.kernel_run.proofs.Unbegun.{unbegun}
use Rattle.kernel_run.proofs.kernel.Kernel.run_script.Goals as goal

pub returns-in-Err-clause-outcome : goal.returns-in-Err-clause-outcome
returns-in-Err-clause-outcome g c =
    let sink = g.K.Sink.state c.args.sink.now in
    let script = script_of c.args.script.now in
    let program = program_with g.N.Natives.names g.N.Natives.does script c.args.natives.now in
    ([], [], Appends-nil sink.held, refl, unbegun program script sink (c.sentinels_come_after_output.ensures program 16 script) (c.undo_returns.ensures program 16 script))

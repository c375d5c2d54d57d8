use Rattle.std.specs.Prelude.{◌-◌}
use Rattle.plain_machine.specs.Lines.{KilledLast}
use Rattle.kernel_state.specs.Meaning.{state_of}
use Rattle.kernel_state.proofs.Spoken.{by_symbols}
use Rattle.kernel_state.proofs.telling.tell_kill.Goals as goal

pub returns : goal.returns
returns g c =
    let s = state_of c.args.kernel.now in
    by_symbols c.args.symbols.now c.names-names.result.symbols.now s (KilledLast c.args.p) (g.K.Sink.state c.args.sink.now) (g.K.Sink.state c.kill.new.sink) c.kill.result c.names-names.ensures.symbols (c.kill.ensures s c.names-names.ensures.known)

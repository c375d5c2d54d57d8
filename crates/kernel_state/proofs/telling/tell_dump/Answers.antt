use Rattle.std.specs.Prelude.{◌-◌}
use Rattle.plain_machine.specs.Lines.{Dumped}
use Rattle.kernel_state.specs.Meaning.{state_of}
use Rattle.kernel_state.proofs.Spoken.{by_symbols}
use Rattle.kernel_state.proofs.telling.tell_dump.Goals as goal

pub returns : goal.returns
returns g c =
    let s = state_of c.args.kernel.now in
    by_symbols c.args.symbols.now c.names-names.result.symbols.now s (Dumped) (g.K.Sink.state c.args.sink.now) (g.K.Sink.state c.dump.new.sink) c.dump.result c.names-names.ensures.symbols (c.dump.ensures s c.names-names.ensures.known)

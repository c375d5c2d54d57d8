use Rattle.std.specs.Prelude.{◌-◌}
use Rattle.plain_machine.specs.Lines.{Replied}
use Rattle.ek_call.specs.Meaning.{reply_of}
use Rattle.kernel_state.specs.Meaning.{state_of}
use Rattle.kernel_state.proofs.Spoken.{by_symbols}
use Rattle.kernel_state.proofs.telling.tell_reply.Goals as goal

pub returns : goal.returns
returns g c =
    let s = state_of c.args.kernel.now in
    by_symbols c.args.symbols.now c.names-names.result.symbols.now s (Replied s.depth (reply_of c.args.reply.now)) (g.K.Sink.state c.args.sink.now) (g.K.Sink.state c.reply.new.sink) c.reply.result c.names-names.ensures.symbols (c.reply.ensures s c.names-names.ensures.known)

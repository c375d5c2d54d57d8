use Rattle.std.specs.Prelude.{◌≡◌, ◌-◌, ℕ, option_map}
use Rattle.std.proofs.Common.{subst, arith}
use Rattle.plain_machine.specs.Lines.{Left, line}
use Rattle.ek_types.specs.Io.{Writes}
use Rattle.ek_types.specs.Property.{number_of}
use Rattle.kernel_state.specs.Meaning.{state_of}
use Rattle.kernel_state.proofs.Spoken.{by_symbols}
use Rattle.kernel_state.proofs.telling.tell_exit.Goals as goal

pub returns : goal.returns
returns g c =
    let s = state_of c.args.kernel.now in
    let handler = option_map number_of c.args.handler in
    let lower : c.saturating_sub.result ≡ c.args.kernel.now.depth - 1 = grind (arith, c.saturating_sub.ensures) in
    let own = c.exit.ensures s c.names-names.ensures.known in
    by_symbols c.args.symbols.now c.names-names.result.symbols.now s (Left (s.depth - 1) handler) (g.K.Sink.state c.args.sink.now) (g.K.Sink.state c.exit.new.sink) c.exit.result c.names-names.ensures.symbols
    (subst (λ (d : ℕ). Writes (g.K.Sink.state c.args.sink.now) (g.K.Sink.state c.exit.new.sink) c.exit.result (line c.names-names.result.symbols.now s (Left d handler))) lower own)

use Rattle.std.specs.Prelude.{map, option_map}
use Rattle.std.proofs.Common.{subst}
use Rattle.plain_machine.specs.Lines.{Kind, Entered, line}
use Rattle.ek_types.specs.Io.{Writes}
use Rattle.ek_types.specs.Listing.{items_of}
use Rattle.ek_types.specs.Property.{number_of}
use Rattle.ek_call.specs.Meaning.{view}
use Rattle.kernel_state.specs.Meaning.{state_of}
use Rattle.kernel_state.proofs.Spoken.{by_symbols}
use Rattle.kernel_state.proofs.telling.tell_entry.Goals as goal

pub returns : goal.returns
returns g c =
    let s = state_of c.args.kernel.now in
    let kind = c.word.ensures in
    let own = c.entry.ensures kind.0 s c.names-names.ensures.known in
    let handler = option_map number_of c.args.handler in
    let args = map view (items_of c.args.args.now) in
    subst (λ (k : Kind). Writes (g.K.Sink.state c.args.sink.now) (g.K.Sink.state c.entry.new.sink) c.entry.result (line c.args.symbols.now s (Entered s.depth k handler args))) kind.1
    (by_symbols c.args.symbols.now c.names-names.result.symbols.now s (Entered s.depth _ handler args) (g.K.Sink.state c.args.sink.now) (g.K.Sink.state c.entry.new.sink) c.entry.result c.names-names.ensures.symbols own)

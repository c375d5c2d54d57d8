use Rattle.std.proofs.Common.{sym, ◌∙◌}
use Rattle.sink_printer.proofs.Printing.{prints_then, prints_same}
use Rattle.trace_print.proofs.Stretches.{bare_string, string_with_runs}
use Rattle.trace_print.proofs.string.string.Goals as goal

pub returns-then-has_properties : goal.returns-then-has_properties
returns-then-has_properties g c =
    prints_same (string_with_runs c.args.symbols.now (g.T.Characters.chars c.args.text.now) (g.T.Sets.sets c.args.text.now) (sym c.has_properties.ensures ∙ c.if-has_properties.true))
    (prints_then c.put.ensures (prints_then (prints_then c.quoted.ensures c.runs.ensures) c.put-then-has_properties.ensures))

pub returns-else-has_properties : goal.returns-else-has_properties
returns-else-has_properties g c =
    prints_same (bare_string c.args.symbols.now (g.T.Characters.chars c.args.text.now) (g.T.Sets.sets c.args.text.now) (sym c.has_properties.ensures ∙ c.if-has_properties.false)) c.quoted-else-has_properties.ensures

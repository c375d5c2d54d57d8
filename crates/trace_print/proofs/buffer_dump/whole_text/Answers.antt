use Rattle.std.proofs.Common.{List, map, sym, ◌∙◌, ap}
use Rattle.text_model.specs.Characters.{Ch}
use Rattle.text_model.specs.Properties.{Cell, PropSet, stretches, same_set}
use Rattle.plain_machine.specs.Lines.{run_words}
use Rattle.trace_print.specs.Strings.{led}
use Rattle.sink_printer.proofs.Printing.{prints_then, prints_same}
use Rattle.trace_print.proofs.Placed.{stretches_placed}
use Rattle.trace_print.proofs.Stretches.{bare_string, string_with_runs}
use Rattle.trace_print.proofs.buffer_dump.whole_text.Goals as goal

pub returns-then-has_properties : goal.returns-then-has_properties
returns-then-has_properties g c =
    let chars : List Ch = map (λ (x : Cell). x.0) c.args.text.now.buffer.text in
    let sets : List PropSet = map (λ (x : Cell). x.1) c.args.text.now.buffer.text in
    let are = sym (stretches_placed 0 c.runs-runs.result c.runs-runs.ensures.apart) ∙ ap (stretches same_set 0) c.runs-runs.ensures.sets in
    prints_same (string_with_runs c.args.symbols.now chars sets (sym c.has_properties.ensures ∙ c.if-has_properties.true))
    (prints_then c.put.ensures (prints_then (prints_then c.quoted.ensures (prints_same (ap (λ l. led (run_words c.args.symbols.now l)) are) c.lent_runs.ensures)) c.put-then-has_properties.ensures))

pub returns-else-has_properties : goal.returns-else-has_properties
returns-else-has_properties g c =
    let chars : List Ch = map (λ (x : Cell). x.0) c.args.text.now.buffer.text in
    let sets : List PropSet = map (λ (x : Cell). x.1) c.args.text.now.buffer.text in
    prints_same (bare_string c.args.symbols.now chars sets (sym c.has_properties.ensures ∙ c.if-has_properties.false)) c.quoted-else-has_properties.ensures

use Rattle.std.proofs.Common.{◌++◌, codes, ap, sym, ◌∙◌, rules, SFits, w32, w64}
use Rattle.std.proofs.lemmas.Int.{to_z-of_z}
use Rattle.plain_machine.specs.Lines.{shown_int, shown_status}
use Rattle.process_table.specs.Meaning.{status_of}
use Rattle.sink_printer.proofs.Printing.{prints_then, prints_same}
use Rattle.trace_print.proofs.objects_dump.status.Goals as goal

pub returns-in-Exit : goal.returns-in-Exit
returns-in-Exit g c =
    let narrow : SFits w32 c.in-Exit.code = search rules in
    let wide : SFits w64 c.from.result = search rules in
    prints_same (ap (λ i. codes "exit " ++ shown_int i) (to_z-of_z w64 c.from.result wide ∙ c.from.ensures ∙ to_z-of_z w32 c.in-Exit.code narrow) ∙ ap (λ s. shown_status (status_of s)) (sym c.in-Exit.is))
    (prints_then c.put-in-Exit.ensures c.integer.ensures)

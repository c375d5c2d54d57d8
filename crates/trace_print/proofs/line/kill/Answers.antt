use Rattle.std.proofs.Common.{sym, ◌∙◌, arith}
use Rattle.sink_printer.proofs.Printing.{prints_then, prints_same, written}
use Rattle.trace_print.proofs.Telling.{kill_told}
use Rattle.trace_print.proofs.line.kill.Goals as goal

pub returns : goal.returns
returns g c = λ s known.
    let said = prints_then c.put.ensures (prints_then c.process.ensures c.put_byte.ensures) in
    let same = sym (said.same ∙ c.new-out.ensures.same) in
    written c.new-out.ensures.sink c.new-out.ensures.fresh c.new-out.ensures.empty (grind (arith, same))
    (prints_same (kill_told c.args.names.now s known c.args.names.now.symbols.now c.args.process) said) c.finish.ensures

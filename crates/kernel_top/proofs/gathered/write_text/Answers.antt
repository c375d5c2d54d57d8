use Rattle.std.proofs.Common.{sym, arith, ◌∙◌}
use Rattle.sink_printer.proofs.Printing.{written}
use Rattle.kernel_top.proofs.gathered.write_text.Goals as goal

pub returns : goal.returns
returns g c =
    let said = c.put_text.ensures in
    let same = sym (said.same ∙ c.new-out.ensures.same) in
    written c.new-out.ensures.sink c.new-out.ensures.fresh c.new-out.ensures.empty (grind (arith, same)) said c.finish.ensures

use Rattle.std.proofs.Common.{arith, sym, ◌∙◌}
use Rattle.std.proofs.lemmas.List.{length-map}
use Rattle.text_model.proofs.Lists.{mapped_at}
use Rattle.ek_types.specs.Listing.{items_of}
use Rattle.host_link.specs.Meaning.{exchange_of, exchanges_of}
use Rattle.journal_text.specs.Lines.{line}
use Rattle.journal_text.proofs.Gathering.{one_on, all_of}
use Rattle.sink_printer.proofs.Printing.{prints_then, prints_same, prints_nothing, written}
use Rattle.journal_text.proofs.line.write_journal.Goals as goal

pub lines-init : goal.lines-init
lines-init g c = prints_nothing

pub lines-preserved : goal.lines-preserved
lines-preserved g c =
    prints_same (one_on line (exchanges_of c.args.list.now) c.lines.i (exchange_of c.at.result.now) (mapped_at exchange_of (items_of c.args.list.now) c.lines.i c.at.result.now c.at.ensures))
    (prints_then c.lines.invariant c.line.ensures)

pub returns : goal.returns
returns g c =
    let count = length-map (items_of c.args.list.now) exchange_of in
    let said = prints_same (all_of line (exchanges_of c.args.list.now) c.lines.i (omega (arith, count, c.len-i-end.ensures, c.lines-test.false))) c.lines.invariant in
    let same = sym (said.same ∙ c.new-out.ensures.same) in
    written c.new-out.ensures.sink c.new-out.ensures.fresh c.new-out.ensures.empty (grind (arith, same)) said c.finish.ensures

use Rattle.ek_types.specs.Seen.{ch_of}
use Rattle.sink_printer.proofs.Printing.{prints_then, prints_same}
use Rattle.kernel_top.proofs.Gathering.{text_more}
use Rattle.kernel_top.proofs.gathered.put_text.Goals as goal

pub loop-i-preserved : goal.loop-i-preserved
loop-i-preserved g c =
    prints_same (text_more c.args.text.now.buffer.text c.loop-i.i (ch_of c.ch.result) c.ch.ensures) (prints_then c.loop-i.invariant c.put_character.ensures)

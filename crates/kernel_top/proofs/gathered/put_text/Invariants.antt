use Rattle.std.proofs.Common.{take}
use Rattle.sink_printer.specs.Printing.{Prints}
use Rattle.plain_machine.specs.Arguments.{encoded}
use Rattle.kernel_top.proofs.gathered.put_text.Given as goal

abbrev pub invariant-loop-i : goal.invariant-loop-i
invariant-loop-i g l = Prints g.K.Sink.state l.initial.out l.out (encoded (take l.i l.text.buffer.text))

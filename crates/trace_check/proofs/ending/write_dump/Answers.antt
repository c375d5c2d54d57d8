use Rattle.plain_machine.specs.Lines.{Dumped}
use Rattle.kernel_steps.proofs.Telling.{by_names}
use Rattle.trace_check.specs.Meaning.{list_of}
use Rattle.trace_check.proofs.Lines.{dump_written}
use Rattle.trace_check.proofs.ending.write_dump.Goals as goal

pub returns-clause-step : goal.returns-clause-step
returns-clause-step g c =
    let program = g.P.Program.meant c.args.program.now in
    let known = g.M.Kernel.state c.args.kernel.now in
    let old = g.K.Sink.state c.args.sink.now in
    let new = g.K.Sink.state c.tell_dump.new.sink in
    dump_written program known (list_of c.args.work.now) (list_of c.clear.new.self) old new c.in_ok-tell_dump.field-0 c.clear.ensures.work
    (by_names _ old new c.symbols.result.now program.symbols known Dumped c.symbols.ensures c.in_ok-tell_dump.ensures)

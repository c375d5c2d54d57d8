use Rattle.std.proofs.Common.{◌<◌, length, ap, ◌∙◌, arith}
use Rattle.plain_machine.specs.Calls.{with_coding}
use Rattle.utf8_stream.specs.Codings.{coding_of}
use Rattle.process_table.proofs.Changing.{written, invariant_same}
use Rattle.process_table.proofs.Finding.{key}
use Rattle.process_table.proofs.Reading.{coding_key, fed_answer}
use Rattle.process_table.proofs.processes.Processes.set_coding.Goals as goal

pub invariant_of-self : goal.invariant_of-self
invariant_of-self c =
    let within : c.args.p < length c.self.inside.list.items = omega (arith, ap length c.self.view_is) in
    invariant_same c.self.inside.list.items c.args.p c.index_mut.result.now c.set_coding.new.self c.self.invariant within c.index_mut.ensures.value (ap key c.set_coding.ensures.process ∙ coding_key (coding_of c.args.c) c.index_mut.result.now)

pub returns-clause-answer : goal.returns-clause-answer
returns-clause-answer c = fed_answer _ _ _ c.index_mut.result.now c.self.view_is c.requires c.index_mut.ensures.value _ c.set_coding.ensures.answer

pub returns-clause-table : goal.returns-clause-table
returns-clause-table c = written _ _ _ c.index_mut.result.now _ (with_coding (coding_of c.args.c)) c.self.view_is c.requires c.index_mut.ensures.value c.set_coding.ensures.process

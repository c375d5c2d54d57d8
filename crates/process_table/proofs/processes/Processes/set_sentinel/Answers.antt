use Rattle.std.proofs.Common.{◌<◌, length, ap, arith}
use Rattle.std.specs.Prelude.{option_map}
use Rattle.plain_machine.specs.Calls.{with_sentinel}
use Rattle.ek_types.specs.Property.{number_of}
use Rattle.process_table.proofs.Changing.{written, invariant_same}
use Rattle.process_table.proofs.Finding.{key}
use Rattle.process_table.proofs.processes.Processes.set_sentinel.Goals as goal

pub invariant_of-self : goal.invariant_of-self
invariant_of-self c =
    let within : c.args.p < length c.self.inside.list.items = omega (arith, ap length c.self.view_is) in
    invariant_same c.self.inside.list.items c.args.p c.index_mut.result.now c.set_sentinel.new.self c.self.invariant within c.index_mut.ensures.value (ap key c.set_sentinel.ensures)

pub returns-clause-table : goal.returns-clause-table
returns-clause-table c = written _ _ _ c.index_mut.result.now _ (with_sentinel (option_map number_of c.args.s)) c.self.view_is c.requires c.index_mut.ensures.value c.set_sentinel.ensures

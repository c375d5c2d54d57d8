use Rattle.std.proofs.Common.{◌<◌, length, ap, arith}
use Rattle.plain_machine.specs.Handling.{unlisted}
use Rattle.process_table.proofs.Changing.{written, invariant_unlisted}
use Rattle.plain_machine.specs.State.{Process}
use Rattle.process_table.proofs.processes.Processes.unlist.Goals as goal

pub invariant_of-self : goal.invariant_of-self
invariant_of-self c =
    let within : c.args.p < length c.self.inside.list.items = omega (arith, ap length c.self.view_is) in
    invariant_unlisted c.self.inside.list.items c.args.p c.index_mut.result.now c.unlist.new.self c.self.invariant within c.index_mut.ensures.value (ap (λ (x : Process). x.listed) c.unlist.ensures)

pub returns-clause-table : goal.returns-clause-table
returns-clause-table c = written _ _ _ c.index_mut.result.now _ (unlisted) c.self.view_is c.requires c.index_mut.ensures.value c.unlist.ensures

use Rattle.std.proofs.Common.{◌<◌, length, ap, arith}
use Rattle.process_table.proofs.Changing.{invariant_same}
use Rattle.process_table.proofs.Finding.{key}
use Rattle.process_table.proofs.Reading.{fed_items, fed_spare, fed_table}
use Rattle.process_table.proofs.processes.Processes.feed.Goals as goal

pub invariant_of-self : goal.invariant_of-self
invariant_of-self c =
    let within : c.args.p < length c.self.inside.list.items = omega (arith, ap length c.self.view_is) in
    invariant_same c.self.inside.list.items c.args.p c.index_mut.result.now c.feed.new.self c.self.invariant within c.index_mut.ensures.value (ap key c.feed.ensures.process)

pub returns-clause-items : goal.returns-clause-items
returns-clause-items c = fed_items _ _ _ c.index_mut.result.now c.self.view_is c.requires.made c.index_mut.ensures.value c.args.bytes.now _ _ c.feed.ensures.items

pub returns-clause-spare : goal.returns-clause-spare
returns-clause-spare c = fed_spare _ _ _ c.index_mut.result.now c.self.view_is c.requires.made c.index_mut.ensures.value c.args.bytes.now _ _ c.feed.ensures.spare

pub returns-clause-table : goal.returns-clause-table
returns-clause-table c = fed_table _ _ _ c.index_mut.result.now c.self.view_is c.requires.made c.index_mut.ensures.value c.args.bytes.now _ c.feed.ensures.process

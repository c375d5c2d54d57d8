use Rattle.std.proofs.Common.{length, ap, ◌∙◌, arith}
use Rattle.prop_intervals.specs.Sets.{run_end}
use Rattle.buffer_table.specs.Kept.{Named}
use Rattle.buffer_table.proofs.Reading.{sets_size, sets_are}
use Rattle.buffer_table.proofs.lending.BufferText.run_end.Goals as goal

pub run_end-requires : goal.run_end-requires
run_end-requires c =
    let n : Named = record { name = c.self.inside.name.now.items; buffer = c.self.inside.buffer.now; read_only = c.self.inside.read_only } in
    omega (arith, c.requires, sets_size c.self.inside.pool.now n c.args.self.now c.self.invariant c.self.view_is, ap length c.props.ensures)

pub returns : goal.returns
returns c =
    let n : Named = record { name = c.self.inside.name.now.items; buffer = c.self.inside.buffer.now; read_only = c.self.inside.read_only } in
    c.run_end.ensures.exact ∙ ap (run_end c.args.i) (c.props.ensures ∙ sets_are c.self.inside.pool.now n c.args.self.now c.self.invariant c.self.view_is)

use Rattle.std.proofs.Common.{◌∙◌}
use Rattle.buffer_table.specs.Kept.{Named}
use Rattle.buffer_table.proofs.Reading.{sets_are}
use Rattle.buffer_table.proofs.lending.BufferText.runs.Goals as goal

pub returns-clause-sets : goal.returns-clause-sets
returns-clause-sets c =
    let n : Named = record { name = c.self.inside.name.now.items; buffer = c.self.inside.buffer.now; read_only = c.self.inside.read_only } in
    c.runs.ensures.sets ∙ (c.props.ensures ∙ sets_are c.self.inside.pool.now n c.args.self.now c.self.invariant c.self.view_is)

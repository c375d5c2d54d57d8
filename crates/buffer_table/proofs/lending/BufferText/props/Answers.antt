use Rattle.std.proofs.Common.{length, sym, ap, ◌∙◌, arith}
use Rattle.std.specs.Prelude.{slice_get}
use Rattle.buffer_table.specs.Kept.{Named}
use Rattle.buffer_table.proofs.Reading.{sets_size, set_is}
use Rattle.buffer_table.proofs.lending.BufferText.props.Goals as goal

pub at-requires : goal.at-requires
at-requires c =
    let n : Named = record { name = c.self.inside.name.now.items; buffer = c.self.inside.buffer.now; read_only = c.self.inside.read_only } in
    omega (arith, c.requires, sets_size c.self.inside.pool.now n c.args.self.now c.self.invariant c.self.view_is, ap length c.props.ensures)

pub returns : goal.returns
returns c =
    let n : Named = record { name = c.self.inside.name.now.items; buffer = c.self.inside.buffer.now; read_only = c.self.inside.read_only } in
    set_is c.self.inside.pool.now n c.args.self.now c.self.invariant c.self.view_is c.args.i c.at.result.now (sym (ap (λ t. slice_get t c.args.i) c.props.ensures) ∙ c.at.ensures.exact)

use Rattle.std.proofs.Common.{length, subst, sym, ap, ◌∙◌}
use Rattle.gap_text.specs.Text.{LiesIn, characters}
use Rattle.buffer_table.specs.Kept.{Named}
use Rattle.buffer_table.proofs.Reading.{text_size}
use Rattle.buffer_table.proofs.lending.BufferText.len.Goals as goal

pub returns : goal.returns
returns c =
    let n : Named = record { name = c.self.inside.name.now.items; buffer = c.self.inside.buffer.now; read_only = c.self.inside.read_only } in
    c.len.ensures.characters c.self.inside.pool.now (subst (LiesIn c.self.inside.pool.now) (sym c.text.ensures) c.self.invariant.lies)
    ∙ ap (λ t. length (characters c.self.inside.pool.now t)) c.text.ensures ∙ text_size c.self.inside.pool.now n c.args.self.now c.self.invariant c.self.view_is

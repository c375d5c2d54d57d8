use Rattle.std.proofs.Common.{length, subst, sym, ap, ◌∙◌, arith}
use Rattle.std.specs.Prelude.{slice_get}
use Rattle.ek_types.specs.Seen.{ch_of}
use Rattle.gap_text.specs.Text.{LiesIn, characters}
use Rattle.buffer_table.specs.Kept.{Named}
use Rattle.buffer_table.proofs.Reading.{text_size, char_is}
use Rattle.buffer_table.proofs.lending.BufferText.ch.Goals as goal

pub at-requires-clause-lies : goal.at-requires-clause-lies
at-requires-clause-lies c = subst (LiesIn c.self.inside.pool.now) (sym c.text.ensures) c.self.invariant.lies

pub at-requires-clause-range : goal.at-requires-clause-range
at-requires-clause-range c =
    let n : Named = record { name = c.self.inside.name.now.items; buffer = c.self.inside.buffer.now; read_only = c.self.inside.read_only } in
    omega (arith, c.requires, text_size c.self.inside.pool.now n c.args.self.now c.self.invariant c.self.view_is, ap (λ t. length (characters c.self.inside.pool.now t)) c.text.ensures)

pub returns : goal.returns
returns c =
    let n : Named = record { name = c.self.inside.name.now.items; buffer = c.self.inside.buffer.now; read_only = c.self.inside.read_only } in
    char_is c.self.inside.pool.now n c.args.self.now c.self.invariant c.self.view_is c.args.i (ch_of c.at.result) (sym (ap (λ t. slice_get (characters c.self.inside.pool.now t) c.args.i) c.text.ensures) ∙ c.at.ensures.item)

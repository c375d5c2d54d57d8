use Rattle.std.proofs.Common.{length, take, drop, map, subst, sym, ap, ◌∙◌, arith}
use Rattle.text_model.specs.Characters.{code}
use Rattle.gap_text.specs.Text.{LiesIn, characters}
use Rattle.buffer_table.specs.Kept.{Named}
use Rattle.buffer_table.proofs.Reading.{text_size, chars_are}
use Rattle.buffer_table.proofs.lending.BufferText.stretch.Goals as goal

pub stretch-requires-clause-lies : goal.stretch-requires-clause-lies
stretch-requires-clause-lies c = subst (LiesIn c.self.inside.pool.now) (sym c.text.ensures) c.self.invariant.lies

pub stretch-requires-clause-range : goal.stretch-requires-clause-range
stretch-requires-clause-range c =
    let n : Named = record { name = c.self.inside.name.now.items; buffer = c.self.inside.buffer.now; read_only = c.self.inside.read_only } in
    omega (arith, c.requires, text_size c.self.inside.pool.now n c.args.self.now c.self.invariant c.self.view_is, ap (λ t. length (characters c.self.inside.pool.now t)) c.text.ensures)

pub returns-clause-codes : goal.returns-clause-codes
returns-clause-codes c =
    let n : Named = record { name = c.self.inside.name.now.items; buffer = c.self.inside.buffer.now; read_only = c.self.inside.read_only } in
    c.stretch.ensures.codes
    ∙ ap (λ chars. map code (take (length c.stretch.result.now) (drop c.args.i chars)))
    (ap (characters c.self.inside.pool.now) c.text.ensures ∙ chars_are c.self.inside.pool.now n c.args.self.now c.self.invariant c.self.view_is)

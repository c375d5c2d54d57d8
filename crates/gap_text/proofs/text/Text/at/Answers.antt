use Rattle.std.proofs.Common.{◌<◌, length, option_map, sym, ap, ◌∙◌, arith}
use Rattle.text_model.specs.Characters.{from_code}
use Rattle.ek_types.specs.Seen.{ch_of}
use Rattle.gap_text.specs.Text.{codes}
use Rattle.ek_types.proofs.Readings.{length-read, slice_get-read, some_at}
use Rattle.gap_text.proofs.text.Text.at.Goals as goal

pub code_at-requires-clause-range : goal.code_at-requires-clause-range
code_at-requires-clause-range c = omega (arith, length-read (codes c.args.pool.now c.args.self.now) c.requires.lies.codes)

pub unreachable-requires : goal.unreachable-requires
unreachable-requires c =
    let range : c.args.i < length (codes c.args.pool.now c.args.self.now) = omega (arith, length-read (codes c.args.pool.now c.args.self.now) c.requires.lies.codes) in
    some_at c.args.i (codes c.args.pool.now c.args.self.now) 0 c.requires.lies.codes range
    (ap from_code (sym c.code_at.ensures) ∙ sym c.from_code.ensures.exact ∙ ap (option_map ch_of) c.in-None.is)

pub returns-clause-item : goal.returns-clause-item
returns-clause-item c =
    let range : c.args.i < length (codes c.args.pool.now c.args.self.now) = omega (arith, length-read (codes c.args.pool.now c.args.self.now) c.requires.lies.codes) in
    slice_get-read c.args.i (codes c.args.pool.now c.args.self.now) 0 c.requires.lies.codes range
    ∙ ap from_code (sym c.code_at.ensures) ∙ sym c.from_code.ensures.exact ∙ ap (option_map ch_of) c.in-Some.is

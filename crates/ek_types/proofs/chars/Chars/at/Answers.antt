use Rattle.std.proofs.Common.{length, option_map, ap, sym, ◌∙◌, arith}
use Rattle.text_model.specs.Characters.{from_code}
use Rattle.ek_types.specs.Seen.{ch_of}
use Rattle.ek_types.proofs.Readings.{length-read, slice_get-read, some_at}
use Rattle.ek_types.proofs.chars.Chars.at.Goals as goal

pub index-requires : goal.index-requires
index-requires c = omega (arith, c.requires, length-read c.self.inside.codes.items c.self.invariant, ap (λ v. length v.items) c.self.view_is)

pub unreachable-requires : goal.unreachable-requires
unreachable-requires c =
    some_at c.args.i c.self.inside.codes.items c.index.result.now c.self.invariant (omega (arith, c.requires, length-read c.self.inside.codes.items c.self.invariant, ap (λ v. length v.items) c.self.view_is))
    (ap from_code (sym c.index.ensures) ∙ sym c.from_code.ensures.exact ∙ ap (option_map ch_of) c.in-None.is)

pub returns-clause-item : goal.returns-clause-item
returns-clause-item c =
    rw (← c.self.view_is)
    (slice_get-read c.args.i c.self.inside.codes.items c.index.result.now c.self.invariant (omega (arith, c.requires, length-read c.self.inside.codes.items c.self.invariant, ap (λ v. length v.items) c.self.view_is))
    ∙ ap from_code (sym c.index.ensures) ∙ sym c.from_code.ensures.exact ∙ ap (option_map ch_of) c.in-Some.is)

use Rattle.std.proofs.lemmas.List.Elements.{filter_map-append}
use Rattle.text_model.specs.Characters.{from_code}
use Rattle.ek_types.proofs.Readings.{are_codes_then}
use Rattle.ek_types.proofs.chars.Chars.extend_codes.Goals as goal

pub invariant_of-self-2 : goal.invariant_of-self-2
invariant_of-self-2 c = rw c.in_ok-extend_from_slice.ensures.items (are_codes_then c.self.inside.codes.items c.args.codes.now c.self.invariant c.requires)

pub returns-clause-ok : goal.returns-clause-ok
returns-clause-ok c =
    rw (← c.self.view_is, c.in_ok-extend_from_slice.ensures.items) (filter_map-append from_code c.self.inside.codes.items c.args.codes.now)

use Rattle.std.proofs.Common.{sym, ◌∙◌}
use Rattle.ek_types.proofs.Readings.{codes_of_read, are_characters_read}
use Rattle.ek_types.proofs.chars.Chars.codes.Goals as goal

pub returns-clause-codes : goal.returns-clause-codes
returns-clause-codes c = rw (← c.self.view_is) (c.deref.ensures.value ∙ sym (codes_of_read c.self.inside.codes.items c.self.invariant))

pub returns-clause-characters : goal.returns-clause-characters
returns-clause-characters c = rw (← c.self.view_is) (are_characters_read c.self.inside.codes.items c.self.invariant)

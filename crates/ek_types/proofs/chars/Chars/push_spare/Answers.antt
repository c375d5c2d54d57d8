use Rattle.ek_types.specs.Seen.{ch_of}
use Rattle.ek_types.proofs.Readings.{codes_then, read_then}
use Rattle.ek_types.proofs.chars.Chars.push_spare.Goals as goal

pub invariant_of-self : goal.invariant_of-self
invariant_of-self c = rw (c.push_reserved.ensures.items, c.code.ensures) (codes_then c.self.inside.codes.items (ch_of c.args.c) c.self.invariant c.requires.character)

pub returns-clause-items : goal.returns-clause-items
returns-clause-items c = rw (← c.self.view_is, c.push_reserved.ensures.items, c.code.ensures) (read_then c.self.inside.codes.items (ch_of c.args.c) c.requires.character)

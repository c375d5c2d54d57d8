use Rattle.ek_types.specs.Seen.{ch_of}
use Rattle.ek_types.proofs.Readings.{codes_then, read_then}
use Rattle.ek_types.proofs.chars.Chars.push.Goals as goal

pub invariant_of-self-2 : goal.invariant_of-self-2
invariant_of-self-2 c = rw (c.in_ok-push.ensures.items, c.code.ensures) (codes_then c.self.inside.codes.items (ch_of c.args.c) c.self.invariant c.requires)

pub returns-clause-ok : goal.returns-clause-ok
returns-clause-ok c = rw (← c.self.view_is, c.in_ok-push.ensures.items, c.code.ensures) (read_then c.self.inside.codes.items (ch_of c.args.c) c.requires)

use Rattle.ek_types.proofs.Readings.{same_codes}
use Rattle.ek_types.proofs.chars.Chars.same.Goals as goal

pub returns : goal.returns
returns c = rw (c.eq.ensures, c.codes.ensures.codes, c.codes-2.ensures.codes) (same_codes c.args.self.now.items c.args.other.now.items c.codes.ensures.characters c.codes-2.ensures.characters)

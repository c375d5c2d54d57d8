use Rattle.std.proofs.Common.{length, ap, arith}
use Rattle.ek_types.proofs.Readings.{length-read}
use Rattle.ek_types.proofs.chars.Chars.len.Goals as goal

pub returns : goal.returns
returns c = omega (arith, c.len.ensures, length-read c.self.inside.codes.items c.self.invariant, ap (λ v. length v.items) c.self.view_is)

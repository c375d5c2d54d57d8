use Rattle.std.proofs.Common.{ap, sym, length, refl, arith}
use Rattle.std.specs.Prelude.{◌==◌}
use Rattle.std.proofs.lemmas.Bool.{ne_eqb}
use Rattle.prop_intervals.specs.Sets.{together}
use Rattle.buffer_core.proofs.pieces.are_empty.Goals as goal

pub returns-in-Some : goal.returns-in-Some
returns-in-Some c = ap (λ n. n == 0) c.in-Some.ensures.some

pub returns-in-None : goal.returns-in-None
returns-in-None c = sym (ne_eqb (length (together c.args.pieces.now)) 0 (omega (arith, c.in-None.ensures.none refl)))

use Rattle.std.proofs.Common.{arith}
use Rattle.std.proofs.lemmas.Int.{ints}
use Rattle.std.proofs.lemmas.Bool.Decides.{nat_tests}
use Rattle.journal_text.proofs.pieces.code_below_zero.Goals as goal

pub returns-else-n-ge1 : goal.returns-else-n-ge1
returns-else-n-ge1 c = grind (arith, nat_tests)

pub overflow_sub-result : goal.overflow_sub-result
overflow_sub-result c = omega (arith, ints)

pub overflow_cast-result : goal.overflow_cast-result
overflow_cast-result c = omega (arith, ints)

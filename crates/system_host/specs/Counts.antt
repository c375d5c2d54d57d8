-- What the counts of a source and a sink come to: each call that failed counts once.
use Rattle.std.specs.Prelude.{ℕ, Result, Ok, Err}
use Rattle.ek_types.specs.Io.{next_count}
use Rattle.ek_types.specs.declared.io.Took.{Took}
use Rattle.ek_types.specs.declared.io.Took.TheVariants as took
use Rattle.ek_types.specs.declared.io.Wrote.{Wrote}
use Rattle.ek_types.specs.declared.io.Wrote.TheVariants as wrote

abbrev pub after_read : Took → ℕ → ℕ
after_read took.Failed faults = next_count faults
after_read _ faults = faults

abbrev pub after_write : Wrote → ℕ → ℕ
after_write wrote.Failed faults = next_count faults
after_write _ faults = faults

abbrev pub after_finish : {T E : Type 0} → Result T E → ℕ → ℕ
after_finish (Err e) faults = next_count faults
after_finish (Ok x) faults = faults

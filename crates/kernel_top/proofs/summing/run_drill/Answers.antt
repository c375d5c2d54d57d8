use Rattle.std.proofs.Common.{[], refl, inl}
use Rattle.std.proofs.KnownBytes.{Appends-nil}
use Rattle.kernel_top.proofs.Outcomes.{quiet}
use Rattle.kernel_top.proofs.summing.run_drill.Goals as goal

pub returns-in-Err-clause-outcome : goal.returns-in-Err-clause-outcome
returns-in-Err-clause-outcome g c = record {
  written = [];
  exchanges = [];
  put = Appends-nil _;
  calls = refl;
  so = λ source source'. inl (quiet source source' _ _);
}

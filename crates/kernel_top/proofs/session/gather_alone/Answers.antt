use Rattle.std.proofs.Common.{[], refl, inl}
use Rattle.std.proofs.KnownBytes.{Appends-nil}
use Rattle.kernel_top.proofs.Outcomes.{quiet}
use Rattle.kernel_top.proofs.session.gather_alone.Goals as goal

pub returns-in_default-clause-outcome : goal.returns-in_default-clause-outcome
returns-in_default-clause-outcome g c = record { written = []; exchanges = []; put = Appends-nil _; calls = refl; so = λ source source'. inl (quiet source source' _ _) }

pub returns-in_default-new-clause-outcome : goal.returns-in_default-new-clause-outcome
returns-in_default-new-clause-outcome g c = record { written = []; exchanges = []; put = Appends-nil _; calls = refl; so = λ source source'. inl (quiet source source' _ _) }

-- What a view wrote.
use Rattle.std.specs.Prelude.{◌≡◌, ℕ, List, Result, Ok, Err}
use Rattle.ek_types.specs.Io.{SinkState, Writes}
use Rattle.ek_types.specs.declared.io.SinkFault.{SinkFault}
use Rattle.final_view.specs.declared.fault.ViewFault.{ViewFault}
use Rattle.final_view.specs.declared.fault.ViewFault.TheVariants as fault

-- all of the bytes were written; or the sink failed, and has a front of them; or memory was wanting, and
-- nothing was written
abbrev pub Views : (old new : SinkState) → Result (Unit {0}) ViewFault → List ℕ → Type 0
Views old new (Ok x) bytes = Writes {E = SinkFault} old new (Ok x) bytes
Views old new (Err fault.Sink) bytes =
    Writes {T = Unit {0}} {E = SinkFault} old new (Err (record {})) bytes
Views old new (Err fault.NoMemory) bytes = new ≡ old

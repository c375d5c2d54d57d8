-- Lines by the symbols that they were written with.
use Rattle.std.specs.Prelude.{◌≡◌, ℕ, List, Result}
use Rattle.std.proofs.Common.{subst}
use Rattle.plain_machine.specs.State.{State}
use Rattle.plain_machine.specs.Lines.{Event, line}
use Rattle.ek_types.specs.Io.{SinkState, Writes}
use Rattle.ek_types.specs.declared.io.SinkFault.{SinkFault}

pub by_symbols : (symbols own : List (List ℕ)) (s : State) (event : Event) (old new : SinkState) (result : Result (Unit {0}) SinkFault) → own ≡ symbols → Writes old new result (line own s event) → Writes old new result (line symbols s event)
by_symbols symbols own s event old new result same written = subst (λ (names : List (List ℕ)). Writes old new result (line names s event)) same written

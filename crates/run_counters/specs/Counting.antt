-- What is counted of a run.
use Rattle.std.specs.Prelude.{ℕ, ◌^◌, List, map, Some}
use Rattle.ek_types.specs.Io.{SinkState}

-- the counting sink tells what it was given; it has no faults, and its room doesn't shrink
abbrev pub counting_state : List ℕ → SinkState
counting_state given = record { held = Some given; faults = 0; room = 2 ^ 64 }

-- the bytes in a history of them
abbrev pub bytes_given : {B : Type 0} → List (ℕ × B) → List ℕ
bytes_given items = map (λ p. p.0) items

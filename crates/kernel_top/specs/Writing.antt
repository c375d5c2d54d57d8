-- What became of bytes that were to be written.
use Rattle.std.specs.Prelude.{◌≡◌, ℕ, ◌<◌, ◌≤◌, List, length}
use Rattle.text_model.specs.Fronts.{IsPrefixOf}
use Rattle.ek_types.specs.Io.{SinkState}

-- they were written whole, and the sink hasn't failed where it had room for them
pub record IsWhollyWritten (bytes written : List ℕ) (before now : SinkState) : Type 0 where
  pub is : written ≡ bytes
  pub roomy : length written ≤ before.room → now.faults ≡ before.faults

-- a front of them was written, and the sink had not promised room for the whole
pub record IsFrontWritten (bytes written : List ℕ) (before : SinkState) : Type 0 where
  pub front : IsPrefixOf written bytes
  pub room : before.room < length bytes

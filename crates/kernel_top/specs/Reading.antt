-- What the reading of a source comes to.
use Rattle.std.specs.Prelude.{◌≡◌, ℕ, ◌+◌, ◌<◌, ◌≤◌, List, length, Option, Some, None}
use Rattle.std.specs.Io.KnownBytes.{Consumes, IsAtEnd}
use Rattle.ek_types.specs.Io.{SourceState}
use Rattle.kernel_top.specs.declared.reading.Refused.{Refused}
use Rattle.kernel_top.specs.declared.reading.Refused.TheVariants as refused

-- a source that told what was left has told its end
abbrev pub HasEnded : (before now : Option (List ℕ)) → Type 0
HasEnded None now = Unit {0}
HasEnded (Some left) now = IsAtEnd now

-- these bytes are all that the source had, and at most so many
pub record IsAll (most : ℕ) (bytes : List ℕ) (before now : SourceState) : Type 0 where
  pub taken : Consumes before.left now.left bytes
  pub ended : HasEnded before.left now.left
  pub short : length bytes ≤ most

-- reading was given up behind some bytes
pub record IsGivenUp (most : ℕ) (why : Refused) (before now : SourceState) : Type 0 where
  pub bytes : List ℕ
  pub taken : Consumes before.left now.left bytes
  pub few : length bytes ≤ most + 1
  pub long : why ≡ refused.TooLong → most < length bytes

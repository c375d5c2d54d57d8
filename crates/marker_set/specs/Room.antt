-- Room for markers that are still to be made.
use Rattle.std.specs.Prelude.{◌≡◌, List, [], Option, IfSome}
use Rattle.marker_set.specs.Blocks.{Block, IsFree}
use Rattle.marker_set.specs.declared.slot.Slot.{Slot}

-- no marker yet, neither in a slot nor in a part
pub record IsRoom (slots : List Slot) (part : Option Block) (parts : List Block) : Type 0 where
  pub empty : slots ≡ []
  pub free : IfSome part IsFree
  pub none : parts ≡ []

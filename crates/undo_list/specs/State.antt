-- What the record of a buffer is seen as.
use Rattle.std.specs.Prelude.{◌≡◌, ℕ, ◌-◌, true, false, List, []}
use Rattle.text_model.specs.Undo.{Entry, Undo, fits}
use Rattle.undo_list.specs.Records.{AreFalling}

-- records with their serial numbers, the newest first, and how many more fit with no memory taken
pub record Held : Type 0 where
  pub entries : List Entry
  pub spare : ℕ

-- the undo state of a buffer, and how many more records it takes with no memory taken and no serial number
-- wanting
pub record Recording : Type 0 where
  pub state : Undo
  pub spare : ℕ

-- what holds of the records of every buffer: the serial numbers fall, so that none stands twice, the limits
-- are kept, and where recording is off there are none
pub record IsKept (u : Undo) : Type 0 where
  pub falling : AreFalling u.next u.entries
  pub fits : fits u.entries ≡ true
  pub off : u.on ≡ false → u.entries ≡ []

-- the serial numbers that are left: the last one of their type is never given
abbrev pub serials_left : ℕ → ℕ
serials_left next = 0xffff_ffff_ffff_ffff - next

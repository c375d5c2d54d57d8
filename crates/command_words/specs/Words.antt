-- The number of a drill.
use Rattle.std.specs.Prelude.{ℕ, List, Option, Some, None, if◌then◌else◌}
use Rattle.plain_machine.specs.Words.{digits_value}
use Rattle.plain_machine.specs.Drill.{is_drill_number}

-- the number that one to four digits spell
abbrev pub number_of : List ℕ → Option ℕ
number_of word = if is_drill_number word then Some (digits_value 0 word) else None

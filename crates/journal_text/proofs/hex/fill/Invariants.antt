use Rattle.std.proofs.Common.{◌≡◌, ◌≤◌, ◌*◌, ◌++◌, true, length}
use Rattle.std.specs.List.{list_all}
use Rattle.ek_types.specs.Listing.{items_of, spare_of}
use Rattle.journal_text.specs.Reading.{is_hex, unhex}
use Rattle.journal_text.proofs.hex.fill.Given as goal

abbrev pub invariant-pairs : goal.invariant-pairs
invariant-pairs l = record {
  filled : items_of l.list ++ unhex l.rest ≡ items_of l.initial.list ++ unhex l.digits;
  all : list_all is_hex l.rest ≡ true;
  room : length l.rest ≤ 2 * spare_of l.list;
}

abbrev pub decreases-pairs : goal.decreases-pairs
decreases-pairs l = length l.rest

use Rattle.std.proofs.Common.{◌≡◌, ◌++◌, take}
use Rattle.std.specs.List.{flat_map}
use Rattle.marker_set.specs.Search.{found_in}
use Rattle.marker_set.proofs.search.found_parts.Given as goal

abbrev pub invariant-loop-part : goal.invariant-loop-part
invariant-loop-part l = l.numbers.items ≡ l.initial.numbers.items ++ flat_map (found_in l.buffer l.from l.to) (take l.part-index l.parts)

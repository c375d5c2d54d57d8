use Rattle.std.proofs.Common.{◌≡◌, ◌++◌, take}
use Rattle.std.specs.List.{filter_map, enumerate_from}
use Rattle.marker_set.specs.Numbered.{numbered_if}
use Rattle.marker_set.specs.Search.{alone_within}
use Rattle.marker_set.proofs.search.found_alone.Given as goal

abbrev pub invariant-loop-k : goal.invariant-loop-k
invariant-loop-k l = l.numbers.items ≡ l.initial.numbers.items ++ filter_map (numbered_if (alone_within l.buffer l.from l.to)) (take l.k (enumerate_from 0 l.slots))

use Rattle.std.proofs.Common.{◌≡◌, take, map}
use Rattle.ek_types.specs.Listing.{items_of}
use Rattle.ek_types.proofs.list.ListOfCopied.copy.Given as goal

abbrev pub invariant-loop-i : goal.invariant-loop-i
invariant-loop-i g l = map g.T.Copied.seen (items_of l.copies) ≡ map g.T.Copied.seen (take l.i (items_of l.self))

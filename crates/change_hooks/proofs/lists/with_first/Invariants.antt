use Rattle.std.proofs.Common.{◌≡◌, ◌∷◌, take}
use Rattle.ek_types.specs.Listing.{items_of}
use Rattle.change_hooks.proofs.lists.with_first.Given as goal

abbrev pub invariant-loop-n : goal.invariant-loop-n
invariant-loop-n l = items_of l.longer ≡ l.fn.name ∷ take l.n-index (items_of l.fn.names)

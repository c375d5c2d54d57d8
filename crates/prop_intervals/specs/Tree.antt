-- The runs of a tree, in order.
use Rattle.std.specs.Prelude.{◌≡◌, List, [], ◌∷◌, ◌++◌}
use Rattle.prop_intervals.specs.Runs.{Run, size}
use Rattle.prop_intervals.specs.declared.tree.Link.{Link}
use Rattle.prop_intervals.specs.declared.tree.Link.TheVariants.{Empty, Full}
use Rattle.prop_intervals.specs.declared.tree.Node.{Node}

abbrev pub run_of : Node → Run
run_of n = (n.set, n.len)

abbrev pub runs_of : Link → List Run
runs_of Empty = []
runs_of (Full n) = n.value.left ++ run_of n.value ∷ n.value.right

-- a node has the number of its characters
abbrev pub HasRightTotal : Link → Type 0
HasRightTotal Empty = Unit {0}
HasRightTotal (Full n) = n.value.total ≡ size (n.value.left ++ run_of n.value ∷ n.value.right)

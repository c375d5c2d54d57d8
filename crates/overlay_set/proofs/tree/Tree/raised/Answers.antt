use Rattle.std.proofs.Common.{◌≡◌, ◌+◌, ◌%◌, ◌^◌, ◌++◌, ◌∷◌, map, sym, ap, ◌∙◌, arith}
use Rattle.overlay_set.specs.Entries.{entries_of, raised}
use Rattle.overlay_set.proofs.Shifts.{all_raised_twice}
use Rattle.overlay_set.proofs.tree.Tree.raised.Goals as goal

pub returns-in-Full : goal.returns-in-Full
returns-in-Full c =
    let n = c.in-Full.node.value in
    let turned : (n.shift + c.args.by) % 2 ^ 64 ≡ (c.args.by + n.shift) % 2 ^ 64 = (let e : n.shift + c.args.by ≡ c.args.by + n.shift = omega arith in ap (λ m. m % 2 ^ 64) e) in
    let whole : map (raised c.args.by) c.args.self ≡ map (raised ((n.shift + c.args.by) % 2 ^ 64)) (n.left ++ n.entry ∷ n.right) =
    ap (map (raised c.args.by)) (sym c.self.view_is ∙ ap entries_of c.in-Full.is) ∙ all_raised_twice c.args.by n.shift ((n.shift + c.args.by) % 2 ^ 64) (n.left ++ n.entry ∷ n.right) turned in
    rw (c.deref_mut.ensures.value, c.deref.ensures, c.in-Full.node-is) (sym whole)

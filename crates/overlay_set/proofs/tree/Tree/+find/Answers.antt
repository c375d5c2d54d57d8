use Rattle.std.proofs.Common.{◌≡◌, ◌+◌, ◌%◌, ◌^◌, ◌∷◌, map, Contains, refl, ap, sym, ◌∙◌, subst, arith}
use Rattle.std.proofs.lemmas.List.Elements.{Contains-append_left}
use Rattle.overlay_set.specs.Entries.{raised}
use Rattle.overlay_set.specs.declared.bounds.Entry.{Entry}
use Rattle.overlay_set.proofs.Shifts.{node_at, left_below, right_below}
use Rattle.overlay_set.proofs.FindLemmas.{own_there, right_there, if_some, none_left, named, others_up, others_three, all_others}
use Rattle.overlay_set.proofs.tree.Tree.+find.Goals as goal

pub returns-then-not-holds-clause-none : goal.returns-then-not-holds-clause-none
returns-then-not-holds-clause-none t c key none =
    all_others c.args.number c.self.inside.root c.in-Full.node c.deref-node.result.now c.args.self.now c.in-Full.is c.self.invariant c.self.view_is c.deref-node.ensures (sym c.holds.ensures ∙ c.if-not-holds.true)

pub returns-then-node-number-clause-found : goal.returns-then-node-number-clause-found
returns-then-node-number-clause-found t c =
    let n = c.deref-node.result.now in
    let by = (c.args.base + c.deref-node.result.now.shift) % 2 ^ 64 in
    let same : raised by n.entry ≡ record { number = c.args.number; stretch = c.raised.result.stretch } =
    ap (λ k. named k (raised by n.entry)) c.if-node-number.true ∙ ap (λ x. named c.args.number x) (sym c.raised.ensures) in
    let there : Contains (map (raised c.args.base) c.args.self.now) (raised by n.entry) =
    subst (λ es. Contains es (raised by n.entry)) (sym (node_at c.self.inside.root c.in-Full.node c.deref-node.result.now c.args.self.now c.args.base ((c.args.base + c.deref-node.result.now.shift) % 2 ^ 64) c.in-Full.is c.self.view_is c.deref-node.ensures refl)) (own_there (map (raised by) n.left) (raised by n.entry) (map (raised by) n.right)) in
    subst (Contains (map (raised c.args.base) c.args.self.now)) same there

pub returns-then-is_some-clause-found : goal.returns-then-is_some-clause-found
returns-then-is_some-clause-found t c =
    let n = c.deref-node.result.now in
    let by = (c.args.base + c.deref-node.result.now.shift) % 2 ^ 64 in
    let there : (x : Entry) → Contains (map (raised by) n.left) x → Contains (map (raised c.args.base) c.args.self.now) x =
    λ x h. rw (node_at c.self.inside.root c.in-Full.node c.deref-node.result.now c.args.self.now c.args.base ((c.args.base + c.deref-node.result.now.shift) % 2 ^ 64) c.in-Full.is c.self.view_is c.deref-node.ensures refl) (Contains-append_left (map (raised by) n.left) (raised by n.entry ∷ map (raised by) n.right) x h) in
    if_some _ _ (λ s h. there (record { number = c.args.number; stretch = s }) h) c.find-left.result c.find-left.ensures.found

pub returns-else-is_some-clause-found : goal.returns-else-is_some-clause-found
returns-else-is_some-clause-found t c =
    let n = c.deref-node.result.now in
    let by = (c.args.base + c.deref-node.result.now.shift) % 2 ^ 64 in
    let there : (x : Entry) → Contains (map (raised by) n.right) x → Contains (map (raised c.args.base) c.args.self.now) x =
    λ x h. rw (node_at c.self.inside.root c.in-Full.node c.deref-node.result.now c.args.self.now c.args.base ((c.args.base + c.deref-node.result.now.shift) % 2 ^ 64) c.in-Full.is c.self.view_is c.deref-node.ensures refl) (right_there (map (raised by) n.left) (raised by n.entry) (map (raised by) n.right) x h) in
    if_some _ _ (λ s h. there (record { number = c.args.number; stretch = s }) h) c.find.result c.find.ensures.found

pub returns-else-is_some-clause-none : goal.returns-else-is_some-clause-none
returns-else-is_some-clause-none t c key none =
    let n = c.deref-node.result.now in
    others_up c.args.number c.self.inside.root c.in-Full.node n c.args.self.now c.in-Full.is c.self.view_is c.deref-node.ensures
    (others_three c.args.number n.left n.entry n.right (c.find-left.ensures.none key (none_left c.find-left.result (sym c.is_some.ensures ∙ c.if-is_some.false))) c.if-node-number.false (c.find.ensures.none key none))

pub find-left-requires : goal.find-left-requires
find-left-requires t c = (omega (arith, left_below c.self.inside.root c.in-Full.node c.deref-node.result.now c.args.self.now c.in-Full.is c.self.view_is c.deref-node.ensures), tt)

pub find-requires : goal.find-requires
find-requires t c = (omega (arith, right_below c.self.inside.root c.in-Full.node c.deref-node.result.now c.args.self.now c.in-Full.is c.self.view_is c.deref-node.ensures), tt)

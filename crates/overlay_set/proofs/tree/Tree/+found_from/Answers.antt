use Rattle.std.proofs.Common.{◌≡◌, ◌+◌, ◌%◌, ◌^◌, ◌++◌, [], ◌∷◌, map, filter, append-nil, refl, sym, ap, ◌∙◌}
use Rattle.std.proofs.lemmas.Result.{on_ok_weaker}
use Rattle.overlay_set.specs.Entries.{numbers_in, passes, raised}
use Rattle.overlay_set.proofs.Parts.{none_at}
use Rattle.overlay_set.proofs.Shifts.{node_at}
use Rattle.overlay_set.proofs.SearchLemmas.{found_three}
use Rattle.overlay_set.proofs.tree.Tree.+found_from.Goals as goal

pub returns-then-not-may_pass : goal.returns-then-not-may_pass
returns-then-not-may_pass t c =
    let none : filter (passes c.args.buffer c.args.question) (map (raised c.args.base) c.args.self.now) ≡ [] =
    none_at (passes c.args.buffer c.args.question) c.self.inside.root c.in-Full.node c.deref-node.result.now c.args.self.now c.args.base ((c.args.base + c.deref-node.result.now.shift) % 2 ^ 64) c.may_pass.result c.in-Full.is c.self.invariant c.self.view_is c.deref-node.ensures refl c.may_pass.ensures c.if-not-may_pass.true in
    sym (append-nil c.args.numbers.now.items) ∙ ap (λ xs. c.args.numbers.now.items ++ numbers_in xs) (sym none)

pub returns-in_ok-add_where-in-Full : goal.returns-in_ok-add_where-in-Full
returns-in_ok-add_where-in-Full t c =
    let n = c.deref-node.result.now in
    let by = (c.args.base + c.deref-node.result.now.shift) % 2 ^ 64 in
    let p = passes c.args.buffer c.args.question in
    let a = c.found_from.new.numbers.items in
    let b = c.add_where.new.numbers.items in
    let d = c.found_from-in-Full.new.numbers.items in
    let second : b ≡ a ++ numbers_in (filter p (raised by n.entry ∷ [])) = c.in_ok-add_where-in-Full.ensures ∙ ap (λ e. a ++ numbers_in (filter p (e ∷ []))) c.raised.ensures in
    let all : d ≡ b ++ numbers_in (filter p (map (raised by) n.right)) → d ≡ c.args.numbers.now.items ++ numbers_in (filter p (map (raised c.args.base) c.args.self.now)) =
    λ last. found_three p c.args.numbers.now.items a b d (map (raised by) n.left) (raised by n.entry) (map (raised by) n.right) c.in_ok-found_from-in-Full.ensures second last
    ∙ ap (λ es. c.args.numbers.now.items ++ numbers_in (filter p es)) (sym (node_at c.self.inside.root c.in-Full.node c.deref-node.result.now c.args.self.now c.args.base ((c.args.base + c.deref-node.result.now.shift) % 2 ^ 64) c.in-Full.is c.self.view_is c.deref-node.ensures refl)) in
    on_ok_weaker c.found_from-in-Full.result all c.found_from-in-Full.ensures

use Rattle.std.proofs.Common.{◌≡◌, ◌≤◌, ◌<◌, ◌==◌, ◌∷◌, true, false, length, map, ap, sym, ◌∙◌, arith}
use Rattle.std.specs.List.{list_any}
use Rattle.std.proofs.lemmas.List.{length-map}
use Rattle.plain_machine.specs.State.{hooks_of}
use Rattle.plain_machine.specs.Hooks.{most_hooks, hook_list}
use Rattle.ek_types.specs.Listing.{items_of}
use Rattle.ek_types.specs.Property.{number_of}
use Rattle.change_hooks.specs.Hooked.{hook, with_list}
use Rattle.change_hooks.proofs.Adding.{there_fits, there_others, there_same, full_fits, full_others, free_others, free_added}
use Rattle.change_hooks.proofs.hooks.Hooks.add.Goals as goal

pub returns-then-holds-clause-fits : goal.returns-then-holds-clause-fits
returns-then-holds-clause-fits c =
    let here = hook_list (hook c.args.before) (hooks_of c.args.self.now.lists c.args.buffer) in
    let there : list_any (λ m. m == c.args.name.0) (hook_list (hook c.args.before) (hooks_of c.args.self.now.lists c.args.buffer)) ≡ true = ap (list_any (λ m. m == c.args.name.0)) (sym c.list-names.ensures.names) ∙ ap (λ names. list_any (λ m. m == c.args.name.0) (map number_of names)) (sym c.as_slice.ensures) ∙ sym c.holds.ensures ∙ c.if-holds.true in
    let few : length here ≤ most_hooks = omega (arith, c.list-names.ensures.few, ap length c.list-names.ensures.names, length-map (items_of c.list-names.result.now) number_of) in
    there_fits c.args.name.0 here there few

pub returns-then-holds-clause-others : goal.returns-then-holds-clause-others
returns-then-holds-clause-others c =
    let here = hook_list (hook c.args.before) (hooks_of c.args.self.now.lists c.args.buffer) in
    let there : list_any (λ m. m == c.args.name.0) (hook_list (hook c.args.before) (hooks_of c.args.self.now.lists c.args.buffer)) ≡ true = ap (list_any (λ m. m == c.args.name.0)) (sym c.list-names.ensures.names) ∙ ap (λ names. list_any (λ m. m == c.args.name.0) (map number_of names)) (sym c.as_slice.ensures) ∙ sym c.holds.ensures ∙ c.if-holds.true in
    let few : length here ≤ most_hooks = omega (arith, c.list-names.ensures.few, ap length c.list-names.ensures.names, length-map (items_of c.list-names.result.now) number_of) in
    there_others c.args.name.0 here there few

pub returns-then-holds-clause-hooks : goal.returns-then-holds-clause-hooks
returns-then-holds-clause-hooks c =
    let there : list_any (λ m. m == c.args.name.0) (hook_list (hook c.args.before) (hooks_of c.args.self.now.lists c.args.buffer)) ≡ true = ap (list_any (λ m. m == c.args.name.0)) (sym c.list-names.ensures.names) ∙ ap (λ names. list_any (λ m. m == c.args.name.0) (map number_of names)) (sym c.as_slice.ensures) ∙ sym c.holds.ensures ∙ c.if-holds.true in
    there_same c.args.buffer c.args.name.0 c.args.before c.args.self.now there

pub returns-then-len-ge-MOST_HOOKS-clause-fits : goal.returns-then-len-ge-MOST_HOOKS-clause-fits
returns-then-len-ge-MOST_HOOKS-clause-fits c =
    let here = hook_list (hook c.args.before) (hooks_of c.args.self.now.lists c.args.buffer) in
    let absent : list_any (λ m. m == c.args.name.0) (hook_list (hook c.args.before) (hooks_of c.args.self.now.lists c.args.buffer)) ≡ false = ap (list_any (λ m. m == c.args.name.0)) (sym c.list-names.ensures.names) ∙ ap (λ names. list_any (λ m. m == c.args.name.0) (map number_of names)) (sym c.as_slice.ensures) ∙ sym c.holds.ensures ∙ c.if-holds.false in
    let many : most_hooks ≤ length here = omega (arith, c.len.ensures, ap length c.list-names.ensures.names, length-map (items_of c.list-names.result.now) number_of) in
    full_fits c.args.name.0 here absent many

pub returns-then-len-ge-MOST_HOOKS-clause-others : goal.returns-then-len-ge-MOST_HOOKS-clause-others
returns-then-len-ge-MOST_HOOKS-clause-others c =
    let here = hook_list (hook c.args.before) (hooks_of c.args.self.now.lists c.args.buffer) in
    let absent : list_any (λ m. m == c.args.name.0) (hook_list (hook c.args.before) (hooks_of c.args.self.now.lists c.args.buffer)) ≡ false = ap (list_any (λ m. m == c.args.name.0)) (sym c.list-names.ensures.names) ∙ ap (λ names. list_any (λ m. m == c.args.name.0) (map number_of names)) (sym c.as_slice.ensures) ∙ sym c.holds.ensures ∙ c.if-holds.false in
    let few : length here ≤ most_hooks = omega (arith, c.list-names.ensures.few, ap length c.list-names.ensures.names, length-map (items_of c.list-names.result.now) number_of) in
    let many : most_hooks ≤ length here = omega (arith, c.len.ensures, ap length c.list-names.ensures.names, length-map (items_of c.list-names.result.now) number_of) in
    full_others c.args.name.0 here absent few many

pub returns-clause-others : goal.returns-clause-others
returns-clause-others c =
    let here = hook_list (hook c.args.before) (hooks_of c.args.self.now.lists c.args.buffer) in
    let absent : list_any (λ m. m == c.args.name.0) (hook_list (hook c.args.before) (hooks_of c.args.self.now.lists c.args.buffer)) ≡ false = ap (list_any (λ m. m == c.args.name.0)) (sym c.list-names.ensures.names) ∙ ap (λ names. list_any (λ m. m == c.args.name.0) (map number_of names)) (sym c.as_slice.ensures) ∙ sym c.holds.ensures ∙ c.if-holds.false in
    let room : length here < most_hooks = omega (arith, c.len.ensures, ap length c.list-names.ensures.names, length-map (items_of c.list-names.result.now) number_of) in
    free_others c.args.name.0 here absent room

pub returns-clause-hooks : goal.returns-clause-hooks
returns-clause-hooks c =
    let here = hook_list (hook c.args.before) (hooks_of c.args.self.now.lists c.args.buffer) in
    let absent : list_any (λ m. m == c.args.name.0) (hook_list (hook c.args.before) (hooks_of c.args.self.now.lists c.args.buffer)) ≡ false = ap (list_any (λ m. m == c.args.name.0)) (sym c.list-names.ensures.names) ∙ ap (λ names. list_any (λ m. m == c.args.name.0) (map number_of names)) (sym c.as_slice.ensures) ∙ sym c.holds.ensures ∙ c.if-holds.false in
    c.set.ensures ∙ ap (λ l. with_list c.args.buffer c.args.before l c.args.self.now) (c.in_ok-longer.ensures ∙ ap (λ l. c.args.name.0 ∷ l) c.list-names.ensures.names ∙ free_added c.args.name.0 here absent)

use Rattle.std.proofs.Common.{◌≡◌, ℕ, length, map, refl, ap, sym, ◌∙◌, arith}
use Rattle.std.specs.Prelude.{Some, None}
use Rattle.std.specs.List.{position}
use Rattle.plain_machine.specs.State.{HookLists, hooks_of}
use Rattle.plain_machine.specs.Hooks.{hook_list}
use Rattle.std.proofs.lemmas.List.{length-map}
use Rattle.ek_types.specs.Listing.{items_of}
use Rattle.ek_types.specs.Property.{number_of}
use Rattle.change_hooks.specs.Hooked.{Hooked, hook}
use Rattle.change_hooks.specs.Lists.{is_of, entry_of}
use Rattle.change_hooks.proofs.Buffers.{none_there, hooks_absent, short}
use Rattle.change_hooks.proofs.Written.{entry_found, empty_list, short_list}
use Rattle.change_hooks.proofs.hooks.Hooks.list.Goals as goal

pub returns-in-Some-clause-few : goal.returns-in-Some-clause-few
returns-in-Some-clause-few c =
    let seen : map entry_of c.self.inside.buffers.items ≡ c.args.self.now.lists = ap (λ (v : Hooked). v.lists) c.self.view_is in
    let at : position (is_of c.args.buffer) (map entry_of c.self.inside.buffers.items) ≡ Some c.in-Some.i = ap (position (is_of c.args.buffer)) seen ∙ sym c.place.ensures ∙ c.in-Some.is in
    let there = entry_found c.self.inside.buffers.items (map entry_of c.self.inside.buffers.items) c.args.buffer c.in-Some.i c.index.result.now refl at c.index.ensures in
    let s = short c.args.buffer (map entry_of c.self.inside.buffers.items) c.self.invariant.0 in
    let few = short_list c.args.before (hooks_of (map entry_of c.self.inside.buffers.items) c.args.buffer) s.0 s.1 in
    let same : map number_of (items_of c.list.result.now) ≡ hook_list (hook c.args.before) (hooks_of (map entry_of c.self.inside.buffers.items) c.args.buffer) = c.list.ensures ∙ ap (λ (p : ℕ × HookLists). hook_list (hook c.args.before) p.1) there in
    omega (arith, few, ap length same, length-map (items_of c.list.result.now) number_of)

pub returns-in-None-clause-few : goal.returns-in-None-clause-few
returns-in-None-clause-few c = omega (arith, ap length c.self.invariant.2)

pub returns-in-Some-clause-names : goal.returns-in-Some-clause-names
returns-in-Some-clause-names c =
    let at : position (is_of c.args.buffer) c.args.self.now.lists ≡ Some c.in-Some.i = sym c.place.ensures ∙ c.in-Some.is in
    c.list.ensures ∙ ap (λ (p : ℕ × HookLists). hook_list (hook c.args.before) p.1) (entry_found c.self.inside.buffers.items c.args.self.now.lists c.args.buffer c.in-Some.i c.index.result.now (ap (λ (v : Hooked). v.lists) c.self.view_is) at c.index.ensures)

pub returns-in-None-clause-names : goal.returns-in-None-clause-names
returns-in-None-clause-names c =
    let none : position (is_of c.args.buffer) c.args.self.now.lists ≡ None = sym c.place.ensures ∙ c.in-None.is in
    ap (map number_of) c.self.invariant.2 ∙ empty_list c.args.before ∙ ap (hook_list (hook c.args.before)) (sym (hooks_absent c.args.buffer c.args.self.now.lists (none_there c.args.buffer c.args.self.now.lists none)))

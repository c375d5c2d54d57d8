use Rattle.std.proofs.Common.{◌≡◌, ◌==◌, not, filter, map, ap, sym, ◌∙◌}
use Rattle.std.specs.Prelude.{Some}
use Rattle.std.specs.List.{position}
use Rattle.plain_machine.specs.State.{HookLists, with_hooks, hooks_of}
use Rattle.plain_machine.specs.Hooks.{hook_list}
use Rattle.change_hooks.specs.Hooked.{Hooked, hook, with_list}
use Rattle.change_hooks.specs.Lists.{is_of, entry_of, lists_of}
use Rattle.change_hooks.proofs.Written.{changed, kept_changed, short_filtered, lists_there}
use Rattle.change_hooks.proofs.hooks.Hooks.remove.Goals as goal

pub invariant_of-self : goal.invariant_of-self
invariant_of-self c =
    let at : position (is_of c.args.buffer) (map entry_of c.self.inside.buffers.items) ≡ Some c.entry-i.result = ap (λ (v : Hooked). position (is_of c.args.buffer) v.lists) c.self.view_is ∙ c.entry-i.ensures.place in
    let few = short_filtered c.self.inside.buffers.items c.index_mut.result.now c.args.buffer c.entry-i.result c.args.before (λ n. not (n == c.args.name.0)) c.self.invariant.0 at c.index_mut.ensures.value in (
      kept_changed c.self.inside.buffers.items c.index_mut.result.now c.remove.new.self c.args.buffer c.entry-i.result c.args.before (filter (λ n. not (n == c.args.name.0)) (hook_list (hook c.args.before) (lists_of c.index_mut.result.now))) c.requires few c.self.invariant.0 at c.index_mut.ensures.value c.remove.ensures,
      c.self.invariant.1,
      c.self.invariant.2,
    )

pub returns : goal.returns
returns c =
    let seen : map entry_of c.self.inside.buffers.items ≡ with_hooks c.args.buffer (hooks_of c.args.self.now.lists c.args.buffer) c.args.self.now.lists = ap (λ (v : Hooked). v.lists) (c.self.view_is ∙ c.entry-i.ensures.hooks) in
    let at : position (is_of c.args.buffer) (with_hooks c.args.buffer (hooks_of c.args.self.now.lists c.args.buffer) c.args.self.now.lists) ≡ Some c.entry-i.result = ap (λ (v : Hooked). position (is_of c.args.buffer) v.lists) (sym c.entry-i.ensures.hooks) ∙ c.entry-i.ensures.place in
    changed c.self.inside.buffers.items c.index_mut.result.now c.remove.new.self c.args.self.now c.self.inside.inhibited c.args.buffer c.entry-i.result c.args.before (filter (λ n. not (n == c.args.name.0)) (hook_list (hook c.args.before) (lists_of c.index_mut.result.now))) seen (ap (λ (v : Hooked). v.inhibited) (c.self.view_is ∙ c.entry-i.ensures.hooks)) at c.index_mut.ensures.value c.remove.ensures
    ∙ ap (λ (l : HookLists). with_list c.args.buffer c.args.before (filter (λ n. not (n == c.args.name.0)) (hook_list (hook c.args.before) l)) c.args.self.now) (lists_there c.self.inside.buffers.items c.index_mut.result.now c.args.self.now c.args.buffer c.entry-i.result seen at c.index_mut.ensures.value)

use Rattle.std.proofs.Common.{◌≡◌, ◌≤◌, length, map, ap, sym, ◌∙◌, arith}
use Rattle.std.specs.Prelude.{Some}
use Rattle.std.specs.List.{position}
use Rattle.std.proofs.lemmas.List.{length-map}
use Rattle.plain_machine.specs.State.{with_hooks, hooks_of}
use Rattle.plain_machine.specs.Hooks.{most_hooks}
use Rattle.ek_types.specs.Listing.{items_of}
use Rattle.ek_types.specs.Property.{number_of}
use Rattle.change_hooks.specs.Hooked.{Hooked}
use Rattle.change_hooks.specs.Lists.{is_of, entry_of}
use Rattle.change_hooks.proofs.Written.{changed, kept_changed}
use Rattle.change_hooks.proofs.hooks.Hooks.set.Goals as goal

pub invariant_of-self : goal.invariant_of-self
invariant_of-self c =
    let at : position (is_of c.args.buffer) (map entry_of c.self.inside.buffers.items) ≡ Some c.entry-i.result = ap (λ (v : Hooked). position (is_of c.args.buffer) v.lists) c.self.view_is ∙ c.entry-i.ensures.place in
    let few : length (map number_of (items_of c.args.names)) ≤ most_hooks = omega (arith, c.requires.names, length-map (items_of c.args.names) number_of) in (
      kept_changed c.self.inside.buffers.items c.index_mut.result.now c.set.new.self c.args.buffer c.entry-i.result c.args.before (map number_of (items_of c.args.names)) c.requires.buffer few c.self.invariant.0 at c.index_mut.ensures.value c.set.ensures,
      c.self.invariant.1,
      c.self.invariant.2,
    )

pub returns : goal.returns
returns c =
    let seen : map entry_of c.self.inside.buffers.items ≡ with_hooks c.args.buffer (hooks_of c.args.self.now.lists c.args.buffer) c.args.self.now.lists = ap (λ (v : Hooked). v.lists) (c.self.view_is ∙ c.entry-i.ensures.hooks) in
    let at : position (is_of c.args.buffer) (with_hooks c.args.buffer (hooks_of c.args.self.now.lists c.args.buffer) c.args.self.now.lists) ≡ Some c.entry-i.result = ap (λ (v : Hooked). position (is_of c.args.buffer) v.lists) (sym c.entry-i.ensures.hooks) ∙ c.entry-i.ensures.place in
    changed c.self.inside.buffers.items c.index_mut.result.now c.set.new.self c.args.self.now c.self.inside.inhibited c.args.buffer c.entry-i.result c.args.before (map number_of (items_of c.args.names)) seen (ap (λ (v : Hooked). v.inhibited) (c.self.view_is ∙ c.entry-i.ensures.hooks)) at c.index_mut.ensures.value c.set.ensures

use Rattle.std.proofs.Common.{ap, sym, ◌∙◌}
use Rattle.std.specs.List.{position}
use Rattle.change_hooks.specs.Hooked.{Hooked}
use Rattle.change_hooks.specs.Lists.{is_of, entry_of}
use Rattle.change_hooks.specs.declared.lists.BufferHooks.{BufferHooks}
use Rattle.change_hooks.proofs.Names.{position_mapped}
use Rattle.change_hooks.proofs.hooks.Hooks.place.Goals as goal

pub returns : goal.returns
returns c =
    c.place_of.ensures
    ∙ ap (position (λ (h : BufferHooks). is_of c.args.buffer (entry_of h))) c.deref.ensures.value
    ∙ sym (position_mapped entry_of (is_of c.args.buffer) c.self.inside.buffers.items)
    ∙ ap (λ (v : Hooked). position (is_of c.args.buffer) v.lists) c.self.view_is

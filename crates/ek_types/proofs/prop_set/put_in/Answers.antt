use Rattle.std.proofs.Common.{◌∙◌, ap, map}
use Rattle.ek_types.specs.Property.{pair_of}
use Rattle.ek_types.proofs.PropSets.{with_made}
use Rattle.ek_types.proofs.prop_set.put_in.Goals as goal

pub returns : goal.returns
returns c =
    ap (map pair_of) c.in_ok-insert.ensures.items
    ∙ with_made pair_of c.args.pairs.now.items c.take_at.new.pairs.items (c.args.name, c.args.value) c.place-at.result c.requires
    (rw (← c.deref.ensures.value) c.place-at.ensures.exact) (rw (← c.deref.ensures.value) c.place-at.ensures.within) c.take_at.ensures

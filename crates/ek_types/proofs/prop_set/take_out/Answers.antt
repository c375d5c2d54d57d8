use Rattle.ek_types.specs.Property.{pair_of}
use Rattle.ek_types.proofs.PropSets.{without_made}
use Rattle.ek_types.proofs.prop_set.take_out.Goals as goal

pub returns : goal.returns
returns c =
    without_made pair_of c.args.pairs.now.items c.take_at.new.pairs.items c.place-at.result c.args.name.0 c.requires (rw (← c.deref.ensures.value) c.place-at.ensures.exact) c.take_at.ensures

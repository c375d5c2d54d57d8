use Rattle.std.proofs.Common.{Bool, rules}
use Rattle.std.proofs.lemmas.List.Sorted.{IsPartitionPoint-from_clause, IsPartitionedBy-ltb}
use Rattle.ek_types.specs.Property.{pair_of, is_before}
use Rattle.ek_types.specs.declared.symbol.Sym as symbol
use Rattle.ek_types.specs.declared.property.PropVal as declared
use Rattle.ek_types.proofs.Putting.{counted}
use Rattle.ek_types.proofs.PropSets.{names_rise}
use Rattle.ek_types.proofs.prop_set.place.Goals as goal

pub returns-clause-exact : goal.returns-clause-exact
returns-clause-exact c =
    let before : symbol.Sym × declared.PropVal → Bool = λ p. is_before c.args.name.0 (pair_of p) in
    let parted = IsPartitionedBy-ltb (λ (p : symbol.Sym × declared.PropVal). (pair_of p).0) c.args.pairs.now c.args.name.0 (names_rise pair_of 0 c.args.pairs.now c.requires.ordered) in
    let point = IsPartitionPoint-from_clause before c.args.pairs.now _ c.partition_point.ensures.partitioned parted (λ a r q k. search rules) in
    counted before c.args.pairs.now c.partition_point.result c.partition_point.ensures.bound point

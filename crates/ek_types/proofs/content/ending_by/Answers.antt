use Rattle.std.proofs.Common.{rules}
use Rattle.std.proofs.lemmas.List.Sorted.{IsPartitionPoint-from_clause, IsPartitionedBy-leb}
use Rattle.ek_types.specs.Runs.{ends_by}
use Rattle.ek_types.proofs.Putting.{ends_rise, counted}
use Rattle.ek_types.proofs.content.ending_by.Goals as goal

pub returns-clause-exact : goal.returns-clause-exact
returns-clause-exact c =
    let parted = IsPartitionedBy-leb (λ r. r.end) c.args.runs.now c.args.place (ends_rise 0 c.args.runs.now c.requires.0 c.requires.1) in
    let point = IsPartitionPoint-from_clause (ends_by c.args.place) c.args.runs.now _ c.partition_point.ensures.partitioned parted (λ a r q k. search rules) in
    counted (ends_by c.args.place) c.args.runs.now c.partition_point.result c.partition_point.ensures.bound point

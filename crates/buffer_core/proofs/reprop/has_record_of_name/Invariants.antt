use Rattle.std.proofs.Common.{◌≡◌, ◌-◌, ◌≤◌, take, drop}
use Rattle.std.specs.Prelude.{option_map}
use Rattle.ek_types.specs.Property.{prop_of, number_of}
use Rattle.buffer_core.specs.Changes.{records_from}
use Rattle.buffer_core.proofs.reprop.has_record_of_name.Given as goal

abbrev pub invariant-loop-start : goal.invariant-loop-start
invariant-loop-start l =
    (l.from ≤ l.start) × (l.start ≤ l.to)
    × (records_from (number_of l.name) (option_map (λ v. prop_of v.now) l.new) l.start (drop l.start (take l.to l.props))
    ≡ records_from (number_of l.name) (option_map (λ v. prop_of v.now) l.new) l.from (drop l.from (take l.to l.props)))

abbrev pub decreases-loop-start : goal.decreases-loop-start
decreases-loop-start l = l.to - l.start

use Rattle.std.proofs.Common.{◌≡◌, map, take, drop}
use Rattle.ek_types.specs.Property.{number_of}
use Rattle.prop_intervals.specs.Edits.{edit_of}
use Rattle.buffer_core.specs.Changes.{records_in}
use Rattle.buffer_core.proofs.reprop.has_record.Given as goal

abbrev pub invariant-loop-name : goal.invariant-loop-name
invariant-loop-name l =
    records_in (edit_of l.edit) l.from (drop l.from (take l.to l.props)) (map number_of (drop l.name-index l.name-items))
    ≡ records_in (edit_of l.edit) l.from (drop l.from (take l.to l.props)) (map number_of l.name-items)

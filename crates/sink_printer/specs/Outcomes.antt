-- What came of writes.
use Rattle.std.specs.Prelude.{Bool, Result, Ok, Err, if◌then◌else◌}
use Rattle.ek_types.specs.declared.io.SinkFault.{SinkFault}

abbrev pub outcome : (failed : Bool) → Result (Unit {0}) SinkFault
outcome failed = if failed then Err (record {}) else Ok tt

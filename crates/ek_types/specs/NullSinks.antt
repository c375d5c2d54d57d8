-- What a sink means that keeps nothing.
use Rattle.std.specs.Prelude.{◌^◌, None}
use Rattle.ek_types.specs.Io.{SinkState}

-- it tells nothing; it has no faults, and its room doesn't shrink
abbrev pub null_state : SinkState
null_state = record { held = None; faults = 0; room = 2 ^ 64 }

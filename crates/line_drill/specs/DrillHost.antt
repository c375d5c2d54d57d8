-- The host of the drill.
use Rattle.std.specs.Prelude.{ℕ, pos, [], ◌∷◌, ◌++◌, map}
use Rattle.plain_machine.specs.Exchanges.{Bytes, End, Code}
use Rattle.plain_machine.specs.Drill.{drill_reads}
use Rattle.host_link.specs.Played.{PlayState, MemoryHostState}

-- the child gives its reads, and has ended with code 0 then
abbrev pub drill_play : (count : ℕ) → PlayState
drill_play count = record { reads = map Bytes (drill_reads count) ++ End ∷ []; ends = Code (pos 0) ∷ [] }

-- a new host in memory with this one child, of which no call fails
abbrev pub host_over : PlayState → MemoryHostState
host_over play = record { plays = play ∷ []; kills = []; fails = []; calls = 0; faults = 0; told = [] }

abbrev pub drill_host : (count : ℕ) → MemoryHostState
drill_host count = host_over (drill_play count)

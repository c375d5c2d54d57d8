-- What a source and a sink in memory answer, and what they are afterwards.
use Rattle.std.specs.Prelude.{ℕ, ◌-◌, min, ◌==◌, nat_lt, Bool, if◌then◌else◌, List, ◌++◌, length, take}
use Rattle.std.specs.Prelude.{drop, Some}
use Rattle.std.specs.List.{list_any, list_all}
use Rattle.ek_types.specs.Io.{SourceState, SinkState, next_count}
use Rattle.ek_types.specs.declared.io.Took.{Took}
use Rattle.ek_types.specs.declared.io.Took.TheVariants as took
use Rattle.ek_types.specs.declared.io.Wrote.{Wrote}
use Rattle.ek_types.specs.declared.io.Wrote.TheVariants as wrote

-- a source in memory: the bytes that are left, the most that it gives in a call, the numbers of the calls that
-- fail, and how many calls there were and how many of them failed
pub record MemorySourceState : Type 0 where
  pub left : List ℕ
  pub piece : ℕ
  pub fails : List ℕ
  pub calls : ℕ
  pub faults : ℕ

-- a sink in memory: the bytes that it holds, the most that it can hold, and the rest as of a source
pub record MemorySinkState : Type 0 where
  pub held : List ℕ
  pub limit : ℕ
  pub piece : ℕ
  pub fails : List ℕ
  pub calls : ℕ
  pub faults : ℕ

-- whether the call of this number fails
abbrev pub fails_at : List ℕ → ℕ → Bool
fails_at fails call = list_any (λ n. n == call) fails

-- whether no call of this number or a later one fails
abbrev pub fails_no_more : List ℕ → ℕ → Bool
fails_no_more fails call = list_all (λ n. nat_lt n call) fails

-- how many bytes a read into a room of this size gives, where it doesn't fail
abbrev pub read_size : MemorySourceState → ℕ → ℕ
read_size s size = min (min (length s.left) s.piece) size

-- what a read into a room of this size answers
abbrev pub read_answer : MemorySourceState → ℕ → Took
read_answer s size =
    if fails_at s.fails s.calls then took.Failed
    else (if read_size s size == 0 then took.End else took.Bytes (read_size s size))

-- the source after it
abbrev pub after_read : MemorySourceState → ℕ → MemorySourceState
after_read s size =
    if fails_at s.fails s.calls
    then record s { calls = next_count s.calls; faults = next_count s.faults }
    else record s { calls = next_count s.calls; left = drop (read_size s size) s.left }

-- the room after it
abbrev pub room_after_read : MemorySourceState → List ℕ → List ℕ
room_after_read s into =
    if fails_at s.fails s.calls then into else take (read_size s (length into)) s.left ++
    drop (read_size s (length into)) into

-- how many bytes a write of so many takes, where it doesn't fail
abbrev pub write_size : MemorySinkState → ℕ → ℕ
write_size s size = min (min (s.limit - length s.held) s.piece) size

-- what a write of so many bytes answers: a full sink fails
abbrev pub write_answer : MemorySinkState → ℕ → Wrote
write_answer s size =
    if fails_at s.fails s.calls then wrote.Failed
    else (if write_size s size == 0 then wrote.Failed else wrote.Bytes (write_size s size))

-- the sink after it
abbrev pub after_write : MemorySinkState → List ℕ → MemorySinkState
after_write s from =
    if fails_at s.fails s.calls
    then record s { calls = next_count s.calls; faults = next_count s.faults }
    else (if write_size s (length from) == 0
    then record s { calls = next_count s.calls; faults = next_count s.faults }
    else record s { calls = next_count s.calls; held = s.held ++ take (write_size s (length from)) from })

-- what a source in memory means as a source
abbrev pub source_state : MemorySourceState → SourceState
source_state s = record { left = Some s.left; faults = s.faults; unfailing = fails_no_more s.fails s.calls }

-- what a sink in memory means as a sink
abbrev pub sink_state : MemorySinkState → SinkState
sink_state s =
    record {
      held = Some s.held;
      faults = s.faults;
      room = if fails_no_more s.fails s.calls
          then s.limit - length s.held else 0;
    }

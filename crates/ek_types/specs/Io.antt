-- What a source and a sink do to the bytes that they tell of, and to their counts of faults.
use Rattle.std.specs.Prelude.{◌≡◌, ◌≢◌, ℕ, ◌+◌, ◌-◌, ◌^◌, ◌≤◌, min, Bool, IsTrue, List, length}
use Rattle.std.specs.Prelude.{take, Result, Ok, Err, IsOk, OnOk, OnErr}
use Rattle.std.specs.declared.option.Option.{Option}
use Rattle.std.specs.Io.KnownBytes.{Appends, Consumes, Keeps, IsAtEnd}
use Rattle.text_model.specs.Fronts.{IsPrefixOf}
use Rattle.ek_types.specs.declared.io.Took.{Took}
use Rattle.ek_types.specs.declared.io.Took.TheVariants as took
use Rattle.ek_types.specs.declared.io.Wrote.{Wrote}
use Rattle.ek_types.specs.declared.io.Wrote.TheVariants as wrote

-- what a source means: the bytes that are left, where it tells, its count of faults, and whether no call
-- fails from here on
pub record SourceState : Type 0 where
  pub left : Option (List ℕ)
  pub faults : ℕ
  pub unfailing : Bool

-- what a sink means: the bytes that it holds, where it tells, its count of faults, and how many more bytes it
-- takes, in whatever pieces they come, with no call failing (0 promises nothing)
pub record SinkState : Type 0 where
  pub held : Option (List ℕ)
  pub faults : ℕ
  pub room : ℕ

-- one more than a count, which stays at the end of its type
abbrev pub next_count : ℕ → ℕ
next_count n = min (n + 1) (2 ^ 64 - 1)

-- the count has risen, or stands at its type's end
abbrev pub Rose : ℕ → ℕ → Type 0
Rose before now = next_count before ≤ now

-- the count has not fallen, and rose where the call failed
pub record HasCause (before now : ℕ) (failed : Type 0) : Type 0 where
  pub later : before ≤ now
  pub rose : failed → Rose before now

-- what a read did to the bytes that are left; `into` is the room that it was given, as it lies after the call
abbrev pub Takes : Option (List ℕ) → Option (List ℕ) → List ℕ → Took → Type 0
Takes old new into (took.Bytes n) = (1 ≤ n) × (n ≤ length into) × Consumes old new (take n into)
Takes old new into took.End = Keeps old new × IsAtEnd old
Takes old new into took.Failed = Keeps old new

-- a source of which no call fails from here on doesn't fail, and stays so
pub record StaysUnfailing (old new : SourceState) (answer : Took) : Type 0 where
  pub answers : answer ≢ took.Failed
  pub faults : new.faults ≡ old.faults
  pub stays : IsTrue new.unfailing

-- what a write did to the bytes that are held
abbrev pub Puts : Option (List ℕ) → Option (List ℕ) → List ℕ → Wrote → Type 0
Puts old new from (wrote.Bytes n) = (1 ≤ n) × (n ≤ length from) × Appends old new (take n from)
Puts old new from wrote.Failed = Keeps old new

-- how many bytes a write took
abbrev pub taken_of : Wrote → ℕ
taken_of (wrote.Bytes n) = n
taken_of wrote.Failed = 0

-- a write of no more than the room doesn't fail, and leaves the room that it didn't use
pub record StaysRoomy (old new : SinkState) (answer : Wrote) : Type 0 where
  pub answers : answer ≢ wrote.Failed
  pub faults : new.faults ≡ old.faults
  pub room : old.room ≤ new.room + taken_of answer

-- what a sink with room for the bytes does: it fails in no call, and leaves the room that they didn't use
pub record WritesAll {T E : Type 0} (old new : SinkState) (result : Result T E) (bytes : List ℕ) : Type 0 where
  pub ok : IsOk result
  pub faults : new.faults ≡ old.faults
  pub room : old.room ≤ new.room + length bytes

-- what was written is these bytes, or after a failure a front of them
pub record Writes {T E : Type 0} (old new : SinkState) (result : Result T E) (bytes : List ℕ) : Type 0 where
  pub ok : OnOk result (Appends old.held new.held bytes)
  pub err : OnErr result ((w : List ℕ) × IsPrefixOf w bytes × Appends old.held new.held w)
  pub later : old.faults ≤ new.faults
  pub rose : OnErr result (Rose old.faults new.faults)
  pub roomy : length bytes ≤ old.room → WritesAll old new result bytes

abbrev pub ContinuesBy : {T U E F : Type 0} → Result T E → Result U F → SinkState → SinkState → List ℕ → Type 0
ContinuesBy (Ok x) result old new bytes = Writes old new result bytes
ContinuesBy (Err e) (Ok y) old new bytes = ⊥
ContinuesBy (Err e) (Err f) old new bytes = new ≡ old

-- after a failure so far the sink stays as it was; else these bytes are written
pub record Continues {T U E F : Type 0} (so_far : Result T E) (result : Result U F)
    (old new : SinkState) (bytes : List ℕ) : Type 0 where
  pub by : ContinuesBy so_far result old new bytes

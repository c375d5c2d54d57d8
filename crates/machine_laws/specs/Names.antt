-- Names of buffers and processes: the one that is made is the first that is free.
use Rattle.std.specs.Prelude.{◌≡◌, ℕ, ◌+◌, ◌^◌, ◌<◌, ◌≤◌, true, List, length, slice_get, Option, Some}
use Rattle.editor_model.specs.Editor.{Live, Name, numbered_name, free_name}
use Rattle.plain_machine.specs.State.{Process}
use Rattle.plain_machine.specs.Arguments.{process_name}

-- a live buffer of the list has the name
pub record BufferHas (buffers : List (Option Live)) (name : Name) : Type 0 where
  pub id : ℕ
  pub buffer : Live
  pub lives : slice_get buffers id ≡ Some (Some buffer)
  pub named : buffer.name ≡ name

-- a listed process has it
pub record ProcessHas (processes : List Process) (name : Name) : Type 0 where
  pub number : ℕ
  pub process : Process
  pub stands : slice_get processes number ≡ Some process
  pub listed : process.listed ≡ true
  pub named : process.name ≡ name

-- the name with the least number, from the first one on, with which it isn't taken
pub record IsFirstNumbered (taken : Name → Type 0) (first : ℕ) (name made : Name) : Type 0 where
  pub number : ℕ
  pub from_first : first ≤ number
  pub numbered : made ≡ numbered_name name number
  pub free : taken made → ⊥
  pub others_taken : (k : ℕ) → first ≤ k → k < number → taken (numbered_name name k)

-- the name itself where it isn't taken, and else a numbered one
pub record IsFirstFree (taken : Name → Type 0) (first : ℕ) (name made : Name) : Type 0 where
  pub itself : (taken name → ⊥) → made ≡ name
  pub other : taken name → IsFirstNumbered taken first name made

-- of any list: no run has more than 256 buffers or processes
abbrev pub BufferNamesAreFirst : Type 0
BufferNamesAreFirst =
    (buffers : List (Option Live)) (name : Name) → length buffers + 2 < 2 ^ 64 →
    IsFirstFree (BufferHas buffers) 2 name (free_name buffers name)

abbrev pub ProcessNamesAreFirst : Type 0
ProcessNamesAreFirst =
    (processes : List Process) (name : Name) → length processes + 1 < 2 ^ 64 →
    IsFirstFree (ProcessHas processes) 1 name (process_name processes name)

-- Room for a process that is about to be started.
use Rattle.std.specs.Prelude.{◌≡◌, ℕ, ◌<◌, Bool, true, false, List, length, Option, Some, None}
use Rattle.editor_model.specs.Values.{Value}
use Rattle.editor_model.specs.Editor.{Editor, Name, with_marker, set_marker_spot}
use Rattle.editor_model.specs.Limits.{most_buffers, most_markers}
use Rattle.editor_model.specs.Arguments.{arg, name_of}
use Rattle.plain_machine.specs.State.{State}
use Rattle.plain_machine.specs.Arguments.{is_new_name, is_process_buffer, process_name}
use Rattle.plain_machine.specs.Refusals.{most_exchanges, most_processes, must_live_or_be_named}
use Rattle.plain_machine.specs.Calls.{end_of}
use Rattle.buffer_table.specs.Room.{Room}
use Rattle.kernel_state.specs.Meaning.{state_of}
use Rattle.kernel_state.specs.declared.kernel.KernelState.{KernelState}
use Rattle.kernel_state.specs.declared.place.StartPlace.{StartPlace}

-- there is room for a buffer of a name where one is to be made
abbrev pub HasBuffer : (new : Bool) → Option Room → Editor → Name → Type 0
HasBuffer false room e name = room ≡ None
HasBuffer true None e name = ⊥
HasBuffer true (Some room) e name = (room.name ≡ name) × (length e.buffers < room.buffers)

-- the room is for the process that a start with these arguments makes
pub record IsPlaceFor (place : StartPlace) (s : State) (args : List Value) : Type 0 where
  pub name : place.process.name ≡ process_name s.processes (name_of (arg args 0))
  pub processes : length s.processes < place.process.processes
  pub markers : length s.editor.marks.markers < place.mark
  pub buffer : HasBuffer (is_new_name s.editor (arg args 1)) place.buffer s.editor (name_of (arg args 1))

-- a kernel has taken all the memory that a start with these arguments needs
pub record HasPlace (kernel : KernelState) (args : List Value) : Type 0 where
  pub place : StartPlace
  pub kept : kernel.place ≡ Some place
  pub fits : IsPlaceFor place (state_of kernel) args

-- what a start whose arguments pass the tests has: of the buffer, and of all
pub record MayMake (e : Editor) (b : Value) : Type 0 where
  pub few : is_new_name e b ≡ true → length e.buffers < most_buffers
  pub live : must_live_or_be_named e b ≡ None
  pub kind : is_process_buffer b ≡ true

pub record MayStart (s : State) (args : List Value) : Type 0 where
  pub processes : length s.processes < most_processes
  pub markers : length s.editor.marks.markers < most_markers
  pub asked : s.asked < most_exchanges
  pub buffer : MayMake s.editor (arg args 1)

-- a marker put at the end of the accessible portion of a buffer, if there is one, and one made there
abbrev pub put_end : (mark : ℕ) → Option ℕ → Editor → Editor
put_end mark None e = e
put_end mark (Some id) e = set_marker_spot mark (end_of e (Some id)) e

abbrev pub with_end : Option ℕ → Editor → Editor
with_end buffer e = with_marker (record { spot = end_of e buffer; advances = false }) e

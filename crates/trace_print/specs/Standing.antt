-- The state of the machine in which names stand.
use Rattle.std.specs.Prelude.{◌≡◌, Result}
use Rattle.plain_machine.specs.State.{State, new_state}
use Rattle.plain_machine.specs.Lines.{Event, line}
use Rattle.ek_types.specs.Io.{SinkState, Writes}
use Rattle.ek_types.specs.declared.io.SinkFault.{SinkFault}
use Rattle.buffer_table.specs.Kept.{editor_of}
use Rattle.trace_print.specs.declared.names.Names.{Names}

-- a state with the editor and the processes of these names
abbrev pub state_of : Names → State
state_of names = record new_state { editor = editor_of names.editor.now; processes = names.processes.now }

-- the names are those of a state
pub record AreNamesIn (s : State) (names : Names) : Type 0 where
  pub editor : editor_of names.editor.now ≡ s.editor
  pub processes : names.processes.now ≡ s.processes

-- the sink got the bytes of an event in whatever state of the machine has these names, or where it failed a
-- front of them
abbrev pub Tells : Names → (old new : SinkState) → Result (Unit {0}) SinkFault → Event → Type 0
Tells names old new result event =
    (s : State) → AreNamesIn s names → Writes old new result (line names.symbols.now s event)

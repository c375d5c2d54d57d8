-- The states of a session's run: what may differ between them, and all that doesn't.
use Rattle.std.specs.Prelude.{ℕ, Bool, false, List, [], ◌∷◌, map, length, codes, Some}
use Rattle.text_model.specs.Characters.{Ch, Scalar}
use Rattle.text_model.specs.Properties.{bare}
use Rattle.text_model.specs.Undo.{Undo}
use Rattle.text_model.specs.Marks.{Marker}
use Rattle.text_model.specs.Commit.{Buffer}
use Rattle.editor_model.specs.Values.{Value}
use Rattle.editor_model.specs.Editor.{Editor, Name, new_live, scratch}
use Rattle.plain_machine.specs.State.{State, Scope, Process, Program}
use Rattle.line_session.specs.Handlers.{session_does}
use Rattle.line_session.specs.Script.{session_symbols, filter_name, sentinel_name}

-- what the run of a session has: its two natives, and no handlers of its script
abbrev pub session_program : (limit : ℕ) → (command : List Value) → Program
session_program limit command =
    record {
      symbols = session_symbols;
      handlers = [];
      natives = filter_name ∷ sentinel_name ∷ [];
      does = session_does limit command;
    }

-- what differs: the text gathered and what stands beside it, the processes, and how much was asked
pub record Parts : Type 0 where
  pub text : List Ch
  pub point : ℕ
  pub modified : Bool
  pub undo : Undo
  pub markers : List Marker
  pub registers : List (ℕ × Value)
  pub processes : List Process
  pub asked : ℕ

abbrev pub session_name : Name
session_name = map Scalar (codes "*session*")

-- the buffer is shown whole, and no character has a property
abbrev pub gathering : Parts → Buffer
gathering parts = record {
  text = bare parts.text;
  begin = 0;
  end = length parts.text;
  point = parts.point;
  modified = parts.modified;
  undo = parts.undo;
}

-- beside the buffer `*scratch*`, which stays empty
abbrev pub editor_with : (current : ℕ) → Parts → Editor
editor_with current parts = record {
  buffers = Some (new_live scratch) ∷
      Some (record { name = session_name; buffer = gathering parts; read_only = false }) ∷ [];
  current = current;
  marks = record { markers = parts.markers; overlays = []; saved = [] };
  registers = parts.registers;
  lifted = false;
}

-- no hooks, and so many handlers
abbrev pub state_with : (current depth : ℕ) → List Scope → Parts → State
state_with current depth scopes parts = record {
  editor = editor_with current parts;
  hooks = [];
  inhibited = false;
  processes = parts.processes;
  scopes = scopes;
  depth = depth;
  asked = parts.asked;
  sent = 0;
}

-- between the handlers, and in one
abbrev pub outside : Parts → State
outside parts = state_with 0 0 [] parts

abbrev pub inside : (current : ℕ) → Parts → State
inside current parts = state_with current 1 ([] ∷ []) parts

-- How many symbols and objects were made in a run.
use Rattle.std.specs.Prelude.{◌≡◌, [], false, length, replicate, None}
use Rattle.text_model.specs.Codings.{Utf8}
use Rattle.editor_model.specs.Editor.{new_editor}
use Rattle.plain_machine.specs.State.{State, Program, Runs, Default, new_state}
use Rattle.handler_code.specs.declared.made.Made.{Made}

-- the counts of a program and a state
abbrev pub AreMade : Made → Program → State → Type 0
AreMade made program s =
    (made.symbols ≡ length program.symbols) × (made.buffers ≡ length s.editor.buffers) ×
    (made.markers ≡ length s.editor.marks.markers)
    × (made.overlays ≡ length s.editor.marks.overlays) × (made.processes ≡ length s.processes)

-- a program and a state with these counts
abbrev pub program_with : Made → Program
program_with made =
    record { symbols = replicate made.symbols []; handlers = []; natives = []; does = λ i args past. None }

abbrev pub state_with : Made → State
state_with made =
    record new_state {
      editor = record new_editor {
        buffers = replicate made.buffers None;
        marks = record {
          markers = replicate made.markers (record { spot = None; advances = false });
          overlays = replicate made.overlays (record
              { span = None; front_advance = false; rear_advance = false; props = [] });
          saved = [];
        };
      };
      processes = replicate made.processes
          (record {
            name = [];
            child = 0;
            status = Runs;
            buffer = None;
            mark = 0;
            filter = Default;
            sentinel = None;
            coding = Utf8;
            bytes = None;
            drained = false;
            closed = false;
            listed = false;
          });
    }

-- Runs that begin where a limit is reached: what is refused then, and what isn't.
use Rattle.std.specs.Prelude.{ℕ, zero, suc, ◌+◌, true, false, decimal, List, [], ◌∷◌, ◌++◌, codes}
use Rattle.std.specs.Prelude.{replicate, map, Option, None}
use Rattle.text_model.specs.Characters.{Scalar}
use Rattle.text_model.specs.Codings.{Utf8}
use Rattle.editor_model.specs.Values.{Form, Prim}
use Rattle.editor_model.specs.Editor.{new_editor}
use Rattle.plain_machine.specs.Exchanges.{Exchange, Ask, Answer}
use Rattle.plain_machine.specs.State.{State, Process, Runs, Signalled, Default, new_state}
use Rattle.plain_machine.specs.Items.{Top}
use Rattle.plain_machine.specs.Symbols.{program_of}
use Rattle.plain_machine.specs.Run.{run}
use Rattle.worked_rows.specs.Row.{Row, script, forms, call, nil, t, string, number, killed}
use Rattle.worked_rows.specs.Row.{reads_nothing, steps, written}

-- some forms in a state, where no exchange is at hand but these
abbrev pub row_in : State → List Form → List Exchange → List (List ℕ) → Row
row_in s fs exchanges expected =
    record {
      ran = run (program_of (script [] [] fs) [] (λ i args past. None)) 16 steps
          (record { state = s; work = Top (forms fs) ∷ [] }) exchanges;
      expected = written expected;
    }

-- 256 buffers were made, and one lives: no other can be made, and the last one can't be killed.
abbrev pub all_buffers : State
all_buffers =
    record new_state { editor = record new_editor { buffers = new_editor.buffers ++ replicate 255 None } }

abbrev pub all_buffers_made : Row
all_buffers_made =
    row_in all_buffers (
    call Prim.GetBufferCreate (string (codes "b") ∷ []) ∷
    call Prim.GenerateNewBuffer (string (codes "b") ∷ []) ∷
    call Prim.StartProcess (string (codes "p") ∷ string (codes "b") ∷ string (codes "x") ∷ []) ∷
    call Prim.KillBuffer [] ∷
    call Prim.GetBufferCreate (string (codes "*scratch*") ∷ []) ∷ []
    ) [] (
    codes "! 16 too-many" ∷
    codes "! 16 too-many" ∷
    codes "! 16 too-many" ∷
    codes "! 16 too-many" ∷
    codes "= #<buffer *scratch*>" ∷
    codes "buffer *scratch* point 1 min 1 max 1 modified nil current" ∷
    codes "text \"\"" ∷ []
    )

-- a process of a buffer, and one that ended long ago
abbrev pub process_in : Option ℕ → Process
process_in b =
    record {
      name = map Scalar (codes "p");
      child = 0;
      status = Runs;
      buffer = b;
      mark = 0;
      filter = Default;
      sentinel = None;
      coding = Utf8;
      bytes = None;
      drained = false;
      closed = false;
      listed = true;
    }

abbrev pub ended : Process
ended = record (process_in None) { status = Signalled; listed = false }

-- 256 processes were made: no other can be started.
abbrev pub ended_lines : (many from : ℕ) → List (List ℕ)
ended_lines zero p = []
ended_lines (suc many) p =
    (codes "process " ++ (decimal p ++ codes " #<process p> signal nil")) ∷ ended_lines many (p + 1)

abbrev pub all_processes_made : Row
all_processes_made =
    row_in (record new_state { processes = replicate 256 ended }) (
    call Prim.StartProcess (string (codes "p") ∷ nil ∷ string (codes "x") ∷ []) ∷
    call Prim.ProcessList [] ∷ []
    ) [] (
    codes "! 16 too-many" ∷
    codes "= nil" ∷
    codes "buffer *scratch* point 1 min 1 max 1 modified nil current" ∷
    codes "text \"\"" ∷
    ended_lines 256 0
    )

-- one process, without a buffer, whose mark points nowhere
abbrev pub one_process : State
one_process =
    record new_state {
      editor = record new_editor {
        marks = record new_editor.marks
            { markers = record { spot = None; advances = false } ∷ [] };
      };
      processes = process_in None ∷ [];
    }

-- 65,536 exchanges were made: a kill isn't counted, and what asks nothing goes on.
abbrev pub all_exchanges_made : Row
all_exchanges_made =
    row_in (record one_process { asked = 65536 }) (
    call Prim.StartProcess (string (codes "p") ∷ nil ∷ string (codes "x") ∷ []) ∷
    call Prim.ProcessSendString (string (codes "p") ∷ string (codes "x") ∷ []) ∷
    call Prim.ProcessSendString (string (codes "p") ∷ string [] ∷ []) ∷
    call Prim.ProcessSendEof (string (codes "p") ∷ []) ∷
    call Prim.AcceptProcessOutput [] ∷
    call Prim.DeleteProcess (string (codes "p") ∷ []) ∷ []
    ) (killed 0 ∷ []) (
    codes "! 14 exchanges-spent" ∷
    codes "! 14 exchanges-spent" ∷
    codes "= nil" ∷
    codes "! 14 exchanges-spent" ∷
    codes "! 14 exchanges-spent" ∷
    codes "> sentinel default #<process p> \"killed\\n\"" ∷
    codes "< default" ∷
    codes "= nil" ∷
    codes "buffer *scratch* point 1 min 1 max 1 modified nil current" ∷
    codes "text \"\"" ∷
    codes "marker 0 #<marker in no buffer>" ∷
    codes "process 0 #<process p> signal nil" ∷ []
    )

-- The last 1,000 exchanges of 65,536: one wait of 1,000 rounds answers nil, the next one is refused, and
-- the kill at the end is asked all the same.
abbrev pub exchanges_spent : Row
exchanges_spent =
    row_in (record one_process { asked = 64536 }) (
    call Prim.AcceptProcessOutput (string (codes "p") ∷ number 1000 ∷ []) ∷
    call Prim.AcceptProcessOutput (string (codes "p") ∷ number 1000 ∷ []) ∷ []
    ) (replicate 1000 (reads_nothing 0) ++ killed 0 ∷ []) (
    codes "= nil" ∷
    codes "! 14 exchanges-spent" ∷
    codes "kill #<process p>" ∷
    codes "buffer *scratch* point 1 min 1 max 1 modified nil current" ∷
    codes "text \"\"" ∷
    codes "marker 0 #<marker in no buffer>" ∷
    codes "process 0 #<process p> run 0" ∷ []
    )

-- All but two bytes were sent that may be sent in a run; bytes that a broken pipe didn't take count too.
abbrev pub all_bytes_sent : Row
all_bytes_sent =
    row_in (record one_process { sent = 16777214 }) (
    call Prim.ProcessSendString (string (codes "p") ∷ string (codes "abc") ∷ []) ∷
    call Prim.ProcessSendString (string (codes "p") ∷ string (codes "ab") ∷ []) ∷
    call Prim.ProcessSendString (string (codes "p") ∷ string (codes "a") ∷ []) ∷ []
    ) (record { ask = Ask.Send 0 (codes "ab"); answer = Answer.Broken } ∷ killed 0 ∷ []) (
    codes "! 16 too-many" ∷
    codes "! 11 broken-pipe" ∷
    codes "! 16 too-many" ∷
    codes "kill #<process p>" ∷
    codes "buffer *scratch* point 1 min 1 max 1 modified nil current" ∷
    codes "text \"\"" ∷
    codes "marker 0 #<marker in no buffer>" ∷
    codes "process 0 #<process p> run 0" ∷ []
    )

-- At depth 16: waits and deletions are refused; a wrong type comes before that, and a buffer without
-- processes is killed.
abbrev pub deepest_handler : Row
deepest_handler =
    row_in (record one_process { depth = 16 }) (
    call Prim.AcceptProcessOutput [] ∷
    call Prim.DeleteProcess (string (codes "p") ∷ []) ∷
    call Prim.KillBuffer [] ∷
    call Prim.AcceptProcessOutput (t ∷ []) ∷ []
    ) (killed 0 ∷ []) (
    codes "                                ! 13 nesting" ∷
    codes "                                ! 13 nesting" ∷
    codes "                                = t" ∷
    codes "                                ! 2 wrong-type-argument" ∷
    codes "kill #<process p>" ∷
    codes "buffer *scratch* point 1 min 1 max 1 modified nil current" ∷
    codes "text \"\"" ∷
    codes "marker 0 #<marker in no buffer>" ∷
    codes "process 0 #<process p> run 0" ∷ []
    )

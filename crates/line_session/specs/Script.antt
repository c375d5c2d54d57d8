-- The script of a session: the child is started with the two natives, and then waited for.
use Rattle.std.specs.Prelude.{ℕ, List, [], ◌∷◌, ◌++◌, map, codes, replicate}
use Rattle.text_model.specs.Decoding.{all_characters}
use Rattle.text_model.specs.Names.{first_symbols}
use Rattle.editor_model.specs.Values.{Value, Sym, plain, Const, Name, Form, Do, Setq, Script}
use Rattle.editor_model.specs.Values.{StartProcess, SetProcessFilter, SetProcessSentinel}
use Rattle.editor_model.specs.Values.{AcceptProcessOutput}
use Rattle.plain_machine.specs.Drill.{call, in_order}
use Rattle.line_session.specs.Handlers.{ascii}

-- the bytes of a word as a string
abbrev pub word_value : List ℕ → Value
word_value word = plain (all_characters word)

-- the arguments of each start
abbrev pub command_of : (program : List ℕ) → (args : List (List ℕ)) → List Value
command_of program args =
    ascii (codes "session") ∷ ascii (codes "*session*") ∷ word_value program ∷ map word_value args

-- its names, numbered behind the first symbols: p, session-filter, session-sentinel
abbrev pub p : ℕ
p = 17

abbrev pub filter_name : ℕ
filter_name = 18

abbrev pub sentinel_name : ℕ
sentinel_name = 19

abbrev pub session_symbols : List (List ℕ)
session_symbols = first_symbols ++ codes "p" ∷ codes "session-filter" ∷ codes "session-sentinel" ∷ []

abbrev pub wait_form : Form
wait_form = Do (call AcceptProcessOutput [])

-- with so many waits
abbrev pub waiting_forms : (waits : ℕ) → (command : List Value) → List Form
waiting_forms waits command =
    Setq p (call StartProcess (map Const command)) ∷
    Do (call SetProcessFilter (Name p ∷ Const (Sym filter_name) ∷ [])) ∷
    Do (call SetProcessSentinel (Name p ∷ Const (Sym sentinel_name) ∷ [])) ∷
    replicate waits wait_form

abbrev pub script_with : (waits : ℕ) → (command : List Value) → Script
script_with waits command =
    record { symbols = session_symbols; handlers = []; forms = in_order (waiting_forms waits command) }

abbrev pub session_script : (command : List Value) → Script
session_script command = script_with 65536 command

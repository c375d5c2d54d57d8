-- What the calls that concern hooks and processes refuse, and in which order.
use Rattle.std.specs.Prelude.{ℕ, ◌+◌, pos, Bool, true, false, ◌&&◌, ◌||◌, not, ◌==◌, nat_lt, nat_le}
use Rattle.std.specs.Prelude.{List, [], ◌∷◌, ◌++◌, map, length, drop, None}
use Rattle.editor_model.specs.Values.{Value, Nil, Int, TheBuffer, is_nil, ArgsOutOfRange, WrongType}
use Rattle.editor_model.specs.Values.{VoidVariable, BufferKilled, NoSuchProcess, ProcessEnded, Nesting}
use Rattle.editor_model.specs.Values.{ExchangesSpent, TooMany, CodingFixed, Prim, KillBuffer, AddHook}
use Rattle.editor_model.specs.Values.{RemoveHook, StartProcess, ProcessList, GetProcess}
use Rattle.editor_model.specs.Values.{SetProcessFilter, SetProcessSentinel, SetProcessBuffer}
use Rattle.editor_model.specs.Values.{ProcessSendString, ProcessSendEof, DeleteProcess}
use Rattle.editor_model.specs.Values.{AcceptProcessOutput, SetProcessCodingSystem}
use Rattle.editor_model.specs.Editor.{Editor, is_live, live_from}
use Rattle.editor_model.specs.Limits.{most_buffers, most_markers}
use Rattle.editor_model.specs.Answers.{Test, refuse}
use Rattle.editor_model.specs.Arguments.{arg, string_of, buffer_of, must_be_string, must_be_symbol}
use Rattle.editor_model.specs.Arguments.{must_be_name, must_be_buffer_or_nil, buffer_there}
use Rattle.editor_model.specs.Arguments.{must_be_fewer, must_be_short}
use Rattle.plain_machine.specs.State.{State, Program}
use Rattle.plain_machine.specs.Hooks.{is_hook, most_hooks, hook_added}
use Rattle.plain_machine.specs.Arguments.{is_handler_argument, is_handler_place, is_filter_place}
use Rattle.plain_machine.specs.Arguments.{is_process, is_process_there, is_coding, process_of}
use Rattle.plain_machine.specs.Arguments.{is_running, is_closed, is_fed, running_in, encoded, is_word}
use Rattle.plain_machine.specs.Arguments.{is_empty, is_process_buffer, is_new_name}

-- LIMITS
abbrev pub most_exchanges : ℕ
most_exchanges = 65536

abbrev pub most_sent : ℕ
most_sent = 16777216

abbrev pub most_processes : ℕ
most_processes = 256

abbrev pub most_rounds : ℕ
most_rounds = 1000

-- TESTS
-- a symbol in a handler's place names one
abbrev pub must_be_handler : Program → Value → Test
must_be_handler program v = refuse VoidVariable (is_handler_argument program v)

abbrev pub must_be_process : Value → Test
must_be_process v = refuse WrongType (is_process v)

abbrev pub must_be_process_or_nil : Value → Test
must_be_process_or_nil v = refuse WrongType (is_nil v || is_process v)

abbrev pub must_be_word : Value → Test
must_be_word v = refuse WrongType (is_word v)

abbrev pub process_there : State → Value → Test
process_there s v = refuse NoSuchProcess (is_process_there s v)

-- a buffer that is given lives; a name may be unknown
abbrev pub must_live_or_be_named : Editor → Value → Test
must_live_or_be_named e (TheBuffer b) = refuse BufferKilled (is_live e b)
must_live_or_be_named e v = None

-- an exchange may be made
abbrev pub may_ask : State → Bool
may_ask s = nat_lt s.asked most_exchanges

abbrev pub must_ask : State → Test
must_ask s = refuse ExchangesSpent (may_ask s)

-- waits and deletions don't nest any deeper
abbrev pub must_nest : (bound : ℕ) → State → Test
must_nest bound s = refuse Nesting (nat_lt s.depth bound)

-- a test that is made in one case only
abbrev pub only_where : Bool → Test → Test
only_where true test = test
only_where false test = None

-- the last live buffer is killed only where one more can be made
abbrev pub is_last : Editor → ℕ → Bool
is_last e b = elim (live_from 0 e.buffers) [ c ∷ [] ↦ c == b | _ ↦ false ]

abbrev pub must_be_replaceable : Editor → ℕ → Test
must_be_replaceable e b = only_where (is_last e b) (must_be_fewer most_buffers (length e.buffers))

-- nil is as many rounds as there may be
abbrev pub rounds_of : Value → ℕ
rounds_of (Int (pos n)) = n
rounds_of Nil = most_rounds
rounds_of _ = 0

abbrev pub is_rounds : Value → Bool
is_rounds (Int i) = true
is_rounds Nil = true
is_rounds _ = false

-- THE TABLE
-- In their order: void names, types, what is absent or dead, ranges, states, limits, depth, exchanges.
abbrev pub process_tests : Program → (bound : ℕ) → State → Prim → List Value → List Test
process_tests program bound s AddHook args =
    must_be_handler program (arg args 1) ∷
    refuse WrongType (is_hook (arg args 0)) ∷ must_be_symbol (arg args 1) ∷
    must_be_fewer (most_hooks + 1) (length (hook_added s (arg args 0) (arg args 1))) ∷ []
process_tests program bound s RemoveHook args =
    must_be_handler program (arg args 1) ∷
    refuse WrongType (is_hook (arg args 0)) ∷ must_be_symbol (arg args 1) ∷ []
process_tests program bound s KillBuffer args =
    let b : ℕ = buffer_of s.editor (arg args 0) in
    must_be_buffer_or_nil (arg args 0) ∷
    buffer_there s.editor (arg args 0) ∷
    must_be_replaceable s.editor b ∷
    only_where (nat_lt 0 (length (running_in s b))) (must_nest bound s) ∷ []
process_tests program bound s StartProcess args =
    let new : Bool = is_new_name s.editor (arg args 1) in
    must_be_name (arg args 0) ∷ refuse WrongType (is_process_buffer (arg args 1)) ∷ must_be_name (arg args 2) ∷
    must_be_word (arg args 2) ∷ map must_be_word (drop 3 args) ++
    must_live_or_be_named s.editor (arg args 1) ∷
    must_be_short (arg args 0) ∷ only_where new (must_be_short (arg args 1)) ∷
    must_be_fewer most_processes (length s.processes) ∷
    must_be_fewer most_markers (length s.editor.marks.markers) ∷
    only_where new (must_be_fewer most_buffers (length s.editor.buffers)) ∷
    must_ask s ∷ []
process_tests program bound s ProcessList args = []
process_tests program bound s GetProcess args = must_be_process (arg args 0) ∷ []
process_tests program bound s SetProcessFilter args =
    must_be_handler program (arg args 1) ∷
    must_be_process (arg args 0) ∷ refuse WrongType (is_filter_place (arg args 1)) ∷
    process_there s (arg args 0) ∷ []
process_tests program bound s SetProcessSentinel args =
    must_be_handler program (arg args 1) ∷
    must_be_process (arg args 0) ∷ refuse WrongType (is_handler_place (arg args 1)) ∷
    process_there s (arg args 0) ∷ []
process_tests program bound s SetProcessBuffer args =
    must_be_process (arg args 0) ∷ must_be_buffer_or_nil (arg args 1) ∷
    process_there s (arg args 0) ∷ buffer_there s.editor (arg args 1) ∷ []
process_tests program bound s SetProcessCodingSystem args =
    must_be_process (arg args 0) ∷ refuse WrongType (is_coding (arg args 1)) ∷
    process_there s (arg args 0) ∷
    refuse CodingFixed (not (is_fed s (process_of s (arg args 0)))) ∷ []
process_tests program bound s ProcessSendString args =
    let p : ℕ = process_of s (arg args 0) in
    let sends : Bool = not (is_empty (arg args 1)) in
    must_be_process (arg args 0) ∷ must_be_string (arg args 1) ∷
    process_there s (arg args 0) ∷
    only_where sends (refuse ProcessEnded (is_running s p && not (is_closed s p))) ∷
    only_where sends (refuse TooMany (nat_le (s.sent + length (encoded (string_of (arg args 1)))) most_sent)) ∷
    only_where sends (must_ask s) ∷ []
process_tests program bound s ProcessSendEof args =
    let p : ℕ = process_of s (arg args 0) in
    must_be_process (arg args 0) ∷
    process_there s (arg args 0) ∷
    refuse ProcessEnded (is_running s p) ∷
    only_where (not (is_closed s p)) (must_ask s) ∷ []
process_tests program bound s DeleteProcess args =
    must_be_process (arg args 0) ∷
    process_there s (arg args 0) ∷
    only_where (is_running s (process_of s (arg args 0))) (must_nest bound s) ∷ []
process_tests program bound s AcceptProcessOutput args =
    must_be_process_or_nil (arg args 0) ∷ refuse WrongType (is_rounds (arg args 1)) ∷
    process_there s (arg args 0) ∷
    refuse ArgsOutOfRange (nat_le 1 (rounds_of (arg args 1)) && nat_le (rounds_of (arg args 1)) most_rounds) ∷
    must_nest bound s ∷ []
-- the calls that ask about one process
process_tests program bound s _ args = must_be_process (arg args 0) ∷ process_there s (arg args 0) ∷ []

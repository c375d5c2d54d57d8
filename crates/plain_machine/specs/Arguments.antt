-- Handlers and processes as arguments of calls. GNU Emacs Lisp Reference Manual, chapter "Processes".
use Rattle.std.specs.Prelude.{ℕ, zero, suc, ◌+◌, Bool, true, false, ◌&&◌, ◌||◌, not, ◌==◌, List, []}
use Rattle.std.specs.Prelude.{◌∷◌, map, flat_map, filter, length, if◌then◌else◌, Option, Some, None}
use Rattle.std.specs.Prelude.{is_some, unwrap_or}
use Rattle.std.specs.List.{list_all, enumerate_from}
use Rattle.text_model.specs.Characters.{Scalar, Raw}
use Rattle.text_model.specs.Characters as Characters
use Rattle.text_model.specs.Properties.{Cell}
use Rattle.text_model.specs.Codings.{Coding, Utf8, Utf8Dos, Latin1}
use Rattle.editor_model.specs.Values.{Value, Nil, T, Sym, Str, TheBuffer, TheProcess, HandlerDef}
use Rattle.editor_model.specs.Editor.{Editor, Name, same_name, find, numbered_name}
use Rattle.editor_model.specs.Arguments.{string_of, name_of}
use Rattle.plain_machine.specs.State.{State, Process, Status, Runs, Filter, Default, Off, Named}
use Rattle.plain_machine.specs.State.{Program, process}

-- HANDLERS
abbrev pub handler_def : List HandlerDef → ℕ → Option HandlerDef
handler_def [] name = None
handler_def (d ∷ defs) name = elim (d.name == name) [ true ↦ Some d | false ↦ handler_def defs name ]

abbrev pub native_from : ℕ → List ℕ → ℕ → Option ℕ
native_from i [] name = None
native_from i (n ∷ names) name = elim (n == name) [ true ↦ Some i | false ↦ native_from (i + 1) names name ]

-- a name in a handler's place names the script's handler, else the native of least number
abbrev pub is_handler : Program → ℕ → Bool
is_handler program name =
    is_some (handler_def program.handlers name) || is_some (native_from 0 program.natives name)

-- of symbols alone it is asked that they name a handler
abbrev pub is_handler_argument : Program → Value → Bool
is_handler_argument program (Sym s) = is_handler program s
is_handler_argument program _ = true

-- nil or a symbol
abbrev pub is_handler_place : Value → Bool
is_handler_place Nil = true
is_handler_place (Sym s) = true
is_handler_place _ = false

-- a filter may be t too
abbrev pub is_filter_place : Value → Bool
is_filter_place T = true
is_filter_place v = is_handler_place v

abbrev pub filter_of : Value → Filter
filter_of (Sym s) = Named s
filter_of T = Off
filter_of _ = Default

abbrev pub filter_value : Filter → Value
filter_value Default = Nil
filter_value Off = T
filter_value (Named s) = Sym s

abbrev pub sentinel_of : Value → Option ℕ
sentinel_of (Sym s) = Some s
sentinel_of _ = None

abbrev pub sentinel_value : Option ℕ → Value
sentinel_value None = Nil
sentinel_value (Some s) = Sym s

-- CODINGS
-- the symbols `utf-8-unix`, `utf-8-dos`, `latin-1-unix`
abbrev pub coding_symbol : Coding → ℕ
coding_symbol Utf8 = 14
coding_symbol Utf8Dos = 15
coding_symbol Latin1 = 16

abbrev pub coding_value : Coding → Value
coding_value c = Sym (coding_symbol c)

abbrev pub is_coding : Value → Bool
is_coding (Sym s) = (s == 14) || ((s == 15) || (s == 16))
is_coding _ = false

abbrev pub coding_named : ℕ → Coding
coding_named s = if s == 15 then Utf8Dos else (if s == 16 then Latin1 else Utf8)

abbrev pub coding_of : Value → Coding
coding_of (Sym s) = coding_named s
coding_of _ = Utf8

-- PROCESSES
-- the listed process of a name
abbrev pub find_process : ℕ → List Process → Name → Option ℕ
find_process p [] name = None
find_process p (x ∷ rest) name = elim (x.listed && same_name x.name name) [
  | true ↦ Some p
  | false ↦ find_process (p + 1) rest name
]

-- a process argument: a process, or the name of a listed one
abbrev pub is_process : Value → Bool
is_process (TheProcess p) = true
is_process (Str s) = true
is_process _ = false

abbrev pub process_of : State → Value → ℕ
process_of s (TheProcess p) = p
process_of s (Str t) = unwrap_or (find_process 0 s.processes (name_of (Str t))) 0
process_of s _ = 0

abbrev pub is_process_there : State → Value → Bool
is_process_there s (Str t) = is_some (find_process 0 s.processes (name_of (Str t)))
is_process_there s _ = true

abbrev pub runs : Status → Bool
runs Runs = true
runs _ = false

abbrev pub is_running : State → ℕ → Bool
is_running s p = elim (process s p) [ None ↦ false | Some x ↦ runs x.status ]

abbrev pub child_of : State → ℕ → ℕ
child_of s p = elim (process s p) [ Some x ↦ x.child | None ↦ 0 ]

abbrev pub is_closed : State → ℕ → Bool
is_closed s p = elim (process s p) [ Some x ↦ x.closed | None ↦ true ]

-- a read of it gave bytes
abbrev pub is_fed : State → ℕ → Bool
is_fed s p = elim (process s p) [ None ↦ false | Some x ↦ is_some x.bytes ]

abbrev pub stands_in : (buffer : ℕ) → Process → Bool
stands_in b x = elim x.buffer [ Some c ↦ c == b | None ↦ false ]

-- the running processes of a buffer, by rising number
abbrev pub running_in : State → (buffer : ℕ) → List ℕ
running_in s b =
    map (λ x. x.0) (filter (λ x. runs x.1.status && stands_in b x.1) (enumerate_from 0 s.processes))

-- TEXTS
abbrev pub encoded : List Cell → List ℕ
encoded text = flat_map (λ c. Characters.encoded c.0) text

-- neither code 0 nor a raw byte
abbrev pub is_plain : Cell → Bool
is_plain c = elim c.0 [ Scalar n ↦ not (n == 0) | Raw b ↦ false ]

-- an argument of a program
abbrev pub is_word : Value → Bool
is_word (Str t) = list_all is_plain t
is_word _ = false

abbrev pub is_empty : Value → Bool
is_empty v = length (string_of v) == 0

-- BUFFERS OF NEW PROCESSES
-- nil, a buffer, or a name that isn't empty
abbrev pub is_process_buffer : Value → Bool
is_process_buffer Nil = true
is_process_buffer (TheBuffer b) = true
is_process_buffer (Str t) = not (is_empty (Str t))
is_process_buffer _ = false

-- the buffer has to be made
abbrev pub is_new_name : Editor → Value → Bool
is_new_name e (Str t) = not (is_some (find e (name_of (Str t))))
is_new_name e _ = false

-- NAMES OF NEW PROCESSES
-- the name, or the first of name<1>, name<2> .. that no listed process has
abbrev pub free_name : (tries n : ℕ) → List Process → Name → Name
free_name zero n list name = numbered_name name n
free_name (suc tries) n list name = elim (is_some (find_process 0 list (numbered_name name n))) [
  | true ↦ free_name tries (n + 1) list name
  | false ↦ numbered_name name n
]

abbrev pub process_name : List Process → Name → Name
process_name list name =
    elim (is_some (find_process 0 list name)) [ true ↦ free_name (length list) 1 list name | false ↦ name ]

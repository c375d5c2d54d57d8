-- Handlers: how they are entered, run and left. A handler is a filter or sentinel of a process or a hook
-- function of a buffer: a body of the script, a native, or the default one. GNU Emacs Lisp Reference
-- Manual, sections "Filter Functions", "Sentinels", "Change Hooks".
use Rattle.std.specs.Prelude.{ℕ, ◌+◌, ◌-◌, Bool, true, false, nat_lt, List, [], ◌∷◌, ◌++◌, map, length}
use Rattle.std.specs.Prelude.{drop, codes, Option, Some, None, unwrap_or}
use Rattle.text_model.specs.Characters.{Scalar}
use Rattle.text_model.specs.Properties.{Cell, bare}
use Rattle.editor_model.specs.Values.{Value, Nil, Str, Prim, WrongType, Reply, HandlerDef}
use Rattle.editor_model.specs.Editor.{is_live}
use Rattle.editor_model.specs.Answers.{Prepared, Changes, Barred}
use Rattle.editor_model.specs.TextCalls.{prepare_output}
use Rattle.plain_machine.specs.State.{State, Scope, Process, Program, process, change_process}
use Rattle.plain_machine.specs.Lines.{Kind, OfFilter, OfSentinel, OfBefore, OfAfter, Entered, Left, line}
use Rattle.plain_machine.specs.Items.{Item, Body, MakeCall, Refuse, MakeChange, Hooks, Native, Called}
use Rattle.plain_machine.specs.Items.{Exit, ToNative, Config, Next, Step}
use Rattle.plain_machine.specs.Hooks.{before_change_functions, after_change_functions, set_hook_list}
use Rattle.plain_machine.specs.Arguments.{handler_def, native_from}
use Rattle.plain_machine.specs.Natives.{normal, is_callable}
use Rattle.plain_machine.specs.Calls.{on}
use Rattle.plain_machine.specs.Forms.{if_live, current}

-- the parameters in order: a missing argument is nil, and further ones are dropped
abbrev pub bound_params : List ℕ → List Value → Scope
bound_params [] args = []
bound_params (p ∷ params) [] = (p, Nil) ∷ bound_params params []
bound_params (p ∷ params) (v ∷ args) = (p, v) ∷ bound_params params args

-- DEFAULT HANDLERS
-- the buffer of a process, where it lives
abbrev pub where_live : State → Option ℕ → Option ℕ
where_live s None = None
where_live s (Some b) = elim (is_live s.editor b) [ true ↦ Some b | false ↦ None ]

abbrev pub process_buffer_of : State → ℕ → Option ℕ
process_buffer_of s p = elim (process s p) [ None ↦ None | Some x ↦ where_live s x.buffer ]

abbrev pub mark_of_process : State → ℕ → ℕ
mark_of_process s p = elim (process s p) [ None ↦ 0 | Some x ↦ x.mark ]

-- an insertion that is prepared, or refused
abbrev pub put_in : State → Prepared → List Item → Config
put_in s (Changes c) rest = record { state = s; work = MakeChange c ∷ rest }
put_in s (Barred f) rest = record { state = s; work = Refuse f ∷ rest }
put_in s _ rest = record { state = s; work = rest }

-- in the process's buffer, where it lives
abbrev pub output_in : State → Option ℕ → (mark : ℕ) → List Cell → List Item → Config
output_in s None mark text rest = record { state = s; work = rest }
output_in s (Some b) mark text rest = put_in (current b s) (prepare_output s.editor b mark text) rest

abbrev pub put_output : State → (p : ℕ) → List Cell → List Item → Config
put_output s p text rest = output_in s (process_buffer_of s p) (mark_of_process s p) text rest

-- a line feed, Process, the name, and what the sentinel is told
abbrev pub sentinel_words : State → (p : ℕ) → List Cell → List Cell
sentinel_words s p text = bare (map Scalar (codes "\nProcess ")) ++
    (bare (elim (process s p) [ Some x ↦ x.name | None ↦ [] ]) ++ (bare (map Scalar (32 ∷ [])) ++ text))

abbrev pub second : List Value → List Cell
second (v ∷ Str text ∷ rest) = text
second _ = []

-- the characters alone
abbrev pub plain_text : List Cell → List Cell
plain_text text = bare (map (λ c. c.0) text)

abbrev pub default_handler : State → Kind → List Value → List Item → Config
default_handler s (OfFilter p) args rest = put_output s p (plain_text (second args)) rest
default_handler s (OfSentinel p) args rest = put_output s p (sentinel_words s p (plain_text (second args))) rest
default_handler s _ args rest = record { state = s; work = rest }

-- ENTERING
-- the body of a script's handler, a native, or the insertion of a default handler
abbrev pub in_scope : Scope → State → State
in_scope scope s = record s { scopes = scope ∷ s.scopes }

-- a script's handler hides a native of its name
abbrev pub named_body : Program → State → Option HandlerDef → (name : ℕ) → List Value → List Item → Config
named_body program s (Some d) name args rest =
    record { state = in_scope (bound_params d.params args) s; work = Body d.body ∷ rest }
named_body program s None name args rest =
    record {
      state = in_scope [] s;
      work = Native (unwrap_or (native_from 0 program.natives name) 0) args [] ∷ rest;
    }

abbrev pub body_of : Program → State → Kind → Option ℕ → List Value → List Item → Config
body_of program s kind None args rest = default_handler (in_scope [] s) kind args rest
body_of program s kind (Some name) args rest =
    named_body program s (handler_def program.handlers name) name args rest

abbrev pub enter : Program → State → Kind → Option ℕ → List Value → List Item → Next
enter program s kind handler args rest = record {
  said = record {
    event = Entered s.depth kind handler args;
    line = line program.symbols s (Entered s.depth kind handler args);
  } ∷ [];
  config = body_of program (record s { depth = s.depth + 1 }) kind handler args
      (Exit kind handler s.editor.current false ∷ rest);
}

-- a native's call: one that no script might make is refused before all else
abbrev pub native_call : Program → State → Prim × List Value → Item
native_call program s c = elim (is_callable program s c) [
  | true ↦ MakeCall c.0 (map normal c.1) ToNative
  | false ↦ Refuse WrongType
]

-- a native goes on until it is done, or has had 256 replies
abbrev pub native_next : (goes_on : Bool) → Option (Prim × List Value) → Program → State → ℕ → List Value →
    List Reply → List Item → Step
native_next false c program s i args past rest = on s rest
native_next true None program s i args past rest = on s rest
native_next true (Some c) program s i args past rest =
    on s (native_call program s c ∷ Called i args past ∷ rest)

abbrev pub native : Program → State → ℕ → List Value → List Reply → List Item → Step
native program s i args past rest =
    native_next (nat_lt (length past) 256) (program.does i args past) program s i args past rest

abbrev pub without_hooks_item : List Item → List Item
without_hooks_item (Hooks kind names args ∷ rest) = rest
without_hooks_item work = work

abbrev pub unlisted : Process → Process
unlisted x = record x { listed = false }

-- what the end of a handler does besides, by what it was entered for
abbrev pub ended_handler : Kind → (faulted : Bool) → State → List Item → Config
ended_handler (OfFilter p) faulted s rest = record { state = s; work = rest }
ended_handler (OfSentinel p) faulted s rest = record { state = change_process p unlisted s; work = rest }
ended_handler (OfBefore b) true s rest =
    record {
      state = if_live s b (set_hook_list b before_change_functions [] s);
      work = without_hooks_item rest;
    }
ended_handler (OfAfter b) true s rest =
    record { state = if_live s b (set_hook_list b after_change_functions [] s); work = without_hooks_item rest }
ended_handler _ faulted s rest = record { state = s; work = rest }

-- the state behind a handler, and the state in which its body begins
abbrev pub left_state : State → (current_at_entry : ℕ) → State
left_state s c =
    let out : State = record s { depth = s.depth - 1; scopes = drop 1 s.scopes } in
    if_live out c (current c out)

abbrev pub entered : State → HandlerDef → List Value → State
entered s d args = record s { depth = s.depth + 1; scopes = bound_params d.params args ∷ s.scopes }

abbrev pub exit : Program → State → Kind → Option ℕ → ℕ → Bool → List Item → Next
exit program s kind handler c faulted rest = record {
  said = record {
    event = Left (s.depth - 1) handler;
    line = line program.symbols s (Left (s.depth - 1) handler);
  } ∷ [];
  config = ended_handler kind faulted (left_state s c) rest;
}

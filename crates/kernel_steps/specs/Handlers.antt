-- Handlers as the code finds, enters and leaves them.
use Rattle.std.specs.Prelude.{ℕ, ◌+◌, Bool, true, false, List, [], ◌∷◌, ◌++◌, Option, Some, None}
use Rattle.std.specs.Prelude.{unwrap_or, Result, Ok, Err}
use Rattle.editor_model.specs.Values.{Value, Nil, Prim, Reply}
use Rattle.editor_model.specs.Answers.{Prepared, Nothing}
use Rattle.editor_model.specs.TextCalls.{prepare_output}
use Rattle.text_model.specs.Properties.{Cell}
use Rattle.plain_machine.specs.State.{State, Program}
use Rattle.plain_machine.specs.Lines.{Kind, OfFilter, OfSentinel, OfBefore, OfAfter}
use Rattle.plain_machine.specs.Items.{Item, Body, Native, Called, Enter, Config}
use Rattle.plain_machine.specs.Arguments.{handler_def, native_from}
use Rattle.plain_machine.specs.Hooks.{set_hook_list, before_change_functions, after_change_functions}
use Rattle.plain_machine.specs.Forms.{if_live, current, bracket}
use Rattle.plain_machine.specs.State.{change_process, hooks_of}
use Rattle.plain_machine.specs.Handling.{bound_params, in_scope, default_handler, native_call, unlisted}
use Rattle.plain_machine.specs.Handling.{without_hooks_item, process_buffer_of, mark_of_process}
use Rattle.plain_machine.specs.Handling.{plain_text, second, sentinel_words}
use Rattle.kernel_steps.specs.Worlds.{World}
use Rattle.kernel_steps.specs.Work.{Work, working, at_item, onwards, outwards}
use Rattle.kernel_steps.specs.declared.kernel.Kind as declared
use Rattle.kernel_steps.specs.declared.kernel.Kind.TheVariants as kind
use Rattle.kernel_steps.specs.declared.stop.Halt.{Halt}
use Rattle.kernel_steps.specs.declared.stop.Halt.TheVariants as halt
use Rattle.kernel_steps.specs.declared.stop.Stop.{Stop}
use Rattle.ek_call.specs.declared.value.Value.{Value as Valued}
use Rattle.ek_call.specs.declared.reply.Reply as declared_reply
use Rattle.ek_call.specs.declared.reply.Reply.TheVariants as reply

-- KINDS
abbrev pub kind_of : declared.Kind → Kind
kind_of (kind.Filter p) = OfFilter p
kind_of (kind.Sentinel p) = OfSentinel p
kind_of (kind.Before b) = OfBefore b
kind_of (kind.After b) = OfAfter b

abbrev pub IsHook : Kind → Type 0
IsHook (OfBefore b) = Unit {0}
IsHook (OfAfter b) = Unit {0}
IsHook _ = ⊥

-- the hook functions of a kind
abbrev pub hook_names : Kind → State → List ℕ
hook_names (OfBefore b) s = (hooks_of s.hooks b).before
hook_names (OfAfter b) s = (hooks_of s.hooks b).after
hook_names _ s = []

-- CODE
abbrev pub params_of : Program → Option ℕ → List ℕ
params_of program None = []
params_of program (Some name) = elim (handler_def program.handlers name) [ Some d ↦ d.params | None ↦ [] ]

abbrev pub native_of : Program → ℕ → ℕ
native_of program name = unwrap_or (native_from 0 program.natives name) 0

-- ENTERING
-- the state in which a handler's code begins
abbrev pub entered : Program → Option ℕ → List Value → State → State
entered program handler args s =
    in_scope (bound_params (params_of program handler) args) (record s { depth = s.depth + 1 })

-- a default handler's buffer is current, and its insertion is prepared
abbrev pub default_state : Kind → State → State
default_state (OfFilter p) s = elim (process_buffer_of s p) [ None ↦ s | Some b ↦ current b s ]
default_state (OfSentinel p) s = elim (process_buffer_of s p) [ None ↦ s | Some b ↦ current b s ]
default_state _ s = s

abbrev pub default_text : Kind → List Value → State → List Cell
default_text (OfSentinel p) args s = sentinel_words s p (plain_text (second args))
default_text _ args s = plain_text (second args)

abbrev pub default_prepared : Kind → List Value → State → Prepared
default_prepared (OfFilter p) args s =
    elim (process_buffer_of s p) [
      | None ↦ Nothing Nil
      | Some b ↦ prepare_output s.editor b
          (mark_of_process s p) (default_text (OfFilter p) args s)
    ]
default_prepared (OfSentinel p) args s =
    elim (process_buffer_of s p) [
      | None ↦ Nothing Nil
      | Some b ↦ prepare_output s.editor b
          (mark_of_process s p) (default_text (OfSentinel p) args s)
    ]
default_prepared _ args s = Nothing Nil

-- what is next of a handler whose scope was made
abbrev pub named_code : Program → (name : ℕ) → List Value → State → List Item → Config
named_code program name args s rest =
    elim (handler_def program.handlers name) [
      | Some d ↦ working s (Body d.body ∷ rest)
      | None ↦ working s
          (Native (native_of program name) args [] ∷ rest)
    ]

abbrev pub code_of : Program → Kind → Option ℕ → List Value → State → List Item → Config
code_of program kind None args s rest = default_handler s kind args rest
code_of program kind (Some name) args s rest = named_code program name args s rest

-- LEAVING
abbrev pub ended_state : Kind → (faulted : Bool) → State → State
ended_state (OfSentinel p) faulted s = change_process p unlisted s
ended_state (OfBefore b) true s = if_live s b (set_hook_list b before_change_functions [] s)
ended_state (OfAfter b) true s = if_live s b (set_hook_list b after_change_functions [] s)
ended_state _ faulted s = s

abbrev pub ended_work : Kind → (faulted : Bool) → List Item → List Item
ended_work (OfBefore b) true rest = without_hooks_item rest
ended_work (OfAfter b) true rest = without_hooks_item rest
ended_work _ faulted rest = rest

-- WORK
-- hook functions are to be entered, unless hooks are inhibited; they are meanwhile
abbrev pub around : Kind → List Value → State → List Item → Config
around kind args s rest =
    working (record s { inhibited = true }) (bracket s.inhibited kind (hook_names kind s) args rest)

abbrev pub HooksAround : {T : Type 0} → Result T Halt → Program → Kind → List Value →
    (before now : World) → Type 0
HooksAround result program kind args before now =
    Work result program before now (around kind args) onwards outwards

-- a handler is entered, run and left
abbrev pub Handles : Result Bool Halt → Program → Kind → Option ℕ → List Value → (before now : World) → Type 0
Handles result program kind handler args before now =
    Work result program before now (at_item (Enter kind handler args))
    (λ faulted s rest. working s (ended_work kind faulted rest)) outwards

-- the code of a handler is run whose scope was made
abbrev pub RunsCode : {T : Type 0} → Result T Halt → Program → Kind → Option ℕ → List Value →
    (before now : World) → Type 0
RunsCode result program kind handler args before now =
    Work result program before now (code_of program kind handler args) onwards outwards

-- a native's call is made, and its reply kept behind the past ones
abbrev pub RepliesTo : {T : Type 0} → Result T Halt → (T → Reply) → Program → Prim × List Value →
    (before now : World) → Type 0
RepliesTo result reply program c before now =
    (i : ℕ) (args : List Value) (past : List Reply) →
    Work result program before now (λ s rest. working s
    (native_call program s c ∷ Called i args past ∷ rest))
    (λ x s rest. working s (Native i args (past ++ reply x ∷ []) ∷ rest)) outwards

-- how a handler ended, by how its code did
abbrev pub ended_by : {T : Type 0} → Result T Halt → Result Bool Stop
ended_by (Ok x) = Ok false
ended_by (Err (halt.Fault f)) = Ok true
ended_by (Err (halt.Stop why)) = Err why

-- the reply that a call came to
abbrev pub reply_by : Result Valued Halt → Result declared_reply.Reply Stop
reply_by (Ok v) = Ok (reply.Value v)
reply_by (Err (halt.Fault f)) = Ok (reply.Fault f)
reply_by (Err (halt.Stop why)) = Err why

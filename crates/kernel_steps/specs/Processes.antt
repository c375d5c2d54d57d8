-- Calls on hooks and processes that enter nothing: what each answers, and what it sets.
use Rattle.std.specs.Prelude.{ℕ, ◌+◌, List, map, drop}
use Rattle.editor_model.specs.Values.{Value, Sym, list, Prim, AddHook, RemoveHook, KillBuffer}
use Rattle.editor_model.specs.Values.{StartProcess, ProcessList, GetProcess, SetProcessFilter}
use Rattle.editor_model.specs.Values.{SetProcessSentinel, SetProcessBuffer, ProcessSendString}
use Rattle.editor_model.specs.Values.{ProcessSendEof, DeleteProcess, AcceptProcessOutput}
use Rattle.editor_model.specs.Values.{SetProcessCodingSystem}
use Rattle.editor_model.specs.Arguments.{arg, string_of, symbol_of}
use Rattle.plain_machine.specs.State.{State, process, change_process}
use Rattle.plain_machine.specs.Arguments.{encoded, filter_of, sentinel_of, coding_of, process_of}
use Rattle.plain_machine.specs.Calls.{with_filter, with_sentinel, of_buffer, with_coding}
use Rattle.plain_machine.specs.Calls.{process_buffer, told_of_one, get_process, listed}
use Rattle.plain_machine.specs.Hooks.{set_hook_list, hook_added, hook_removed}

-- calls that ask the host nothing and enter nothing
abbrev pub IsSilent : Prim → Type 0
IsSilent StartProcess = ⊥
IsSilent ProcessSendString = ⊥
IsSilent ProcessSendEof = ⊥
IsSilent KillBuffer = ⊥
IsSilent DeleteProcess = ⊥
IsSilent AcceptProcessOutput = ⊥
IsSilent _ = Unit {0}

abbrev pub told_by : State → Prim → List Value → Value
told_by s AddHook args = list (map Sym (hook_added s (arg args 0) (arg args 1)))
told_by s RemoveHook args = list (map Sym (hook_removed s (arg args 0) (arg args 1)))
told_by s ProcessList args = list (listed s)
told_by s GetProcess args = get_process s (arg args 0)
told_by s SetProcessFilter args = arg args 1
told_by s SetProcessSentinel args = arg args 1
told_by s SetProcessBuffer args = arg args 1
told_by s SetProcessCodingSystem args = arg args 1
told_by s prim args = told_of_one prim (process s (process_of s (arg args 0)))

abbrev pub set_by : Prim → List Value → State → State
set_by AddHook args s =
    set_hook_list s.editor.current (symbol_of (arg args 0)) (hook_added s (arg args 0) (arg args 1)) s
set_by RemoveHook args s =
    set_hook_list s.editor.current (symbol_of (arg args 0)) (hook_removed s (arg args 0) (arg args 1)) s
set_by SetProcessFilter args s =
    change_process (process_of s (arg args 0)) (with_filter (filter_of (arg args 1))) s
set_by SetProcessSentinel args s =
    change_process (process_of s (arg args 0)) (with_sentinel (sentinel_of (arg args 1))) s
set_by SetProcessBuffer args s =
    change_process (process_of s (arg args 0)) (of_buffer (process_buffer s.editor (arg args 1))) s
set_by SetProcessCodingSystem args s =
    change_process (process_of s (arg args 0)) (with_coding (coding_of (arg args 1))) s
set_by prim args s = s

-- the bytes that are sent, and the words of a program
abbrev pub bytes_of : Value → List ℕ
bytes_of v = encoded (string_of v)

abbrev pub words_of : List Value → List (List ℕ)
words_of args = map bytes_of (drop 3 args)

-- an exchange was made, and so many bytes sent
abbrev pub counted : (sent : ℕ) → State → State
counted n s = record s { asked = s.asked + 1; sent = s.sent + n }

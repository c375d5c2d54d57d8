-- The step of a call. Calls on the editor go by its table; those that concern hooks and processes stand
-- here. GNU Emacs Lisp Reference Manual, sections "Asynchronous Processes", "Deleting Processes", "Process
-- Information", "Input to Processes", "Accepting Output".
use Rattle.std.specs.Prelude.{ℕ, ◌+◌, pos, Bool, true, false, not, ◌==◌, List, [], ◌∷◌, ◌++◌, map}
use Rattle.std.specs.Prelude.{filter, length, drop, if◌then◌else◌, Option, Some, None}
use Rattle.std.specs.List.{list_any, enumerate_from}
use Rattle.text_model.specs.Marks.{Spot}
use Rattle.text_model.specs.Codings.{Coding, Utf8}
use Rattle.editor_model.specs.Values.{Value, Nil, Int, Sym, Str, TheMarker, TheProcess, list}
use Rattle.editor_model.specs.Values.{is_nil, plain, truth, Fault, BrokenPipe, SpawnFailed, Reply}
use Rattle.editor_model.specs.Values.{Answered, Prim, KillBuffer, AddHook, RemoveHook, StartProcess}
use Rattle.editor_model.specs.Values.{ProcessList, GetProcess, ProcessName, ProcessStatus}
use Rattle.editor_model.specs.Values.{ProcessBuffer, ProcessMark, ProcessLiveP, ProcessExitStatus}
use Rattle.editor_model.specs.Values.{ProcessFilter, ProcessSentinel, SetProcessFilter}
use Rattle.editor_model.specs.Values.{SetProcessSentinel, SetProcessBuffer, ProcessSendString}
use Rattle.editor_model.specs.Values.{ProcessSendEof, DeleteProcess, AcceptProcessOutput}
use Rattle.editor_model.specs.Values.{SetProcessCodingSystem, ProcessCodingSystem}
use Rattle.editor_model.specs.Editor.{Editor, buffer_at, with_buffer, with_marker}
use Rattle.editor_model.specs.Arguments.{arg, string_of, name_of, buffer_of, symbol_of}
use Rattle.editor_model.specs.BufferCalls.{buffer_value}
use Rattle.editor_model.specs.Prims.{Manner, OnlyAsks, SetsState, ChangesText, ConcernsHandlers, manner_of}
use Rattle.editor_model.specs.Answers.{Test, first_fault}
use Rattle.editor_model.specs.Table.{Applied, query, apply, prepare, Prepared, Changes, Quiet, Nothing}
use Rattle.editor_model.specs.Table.{Barred, commit}
use Rattle.plain_machine.specs.Exchanges.{Spawn, Send, Close, Answer, Started, Sent, Broken, Closed}
use Rattle.plain_machine.specs.State.{State, Process, Status, Runs, Exited, Signalled, Lost, Filter}
use Rattle.plain_machine.specs.State.{Default, Program, process, change_process}
use Rattle.plain_machine.specs.Hooks.{set_hook_list, hook_added, hook_removed}
use Rattle.plain_machine.specs.Refusals.{process_tests, rounds_of}
use Rattle.plain_machine.specs.Arguments.{filter_of, filter_value, sentinel_of, sentinel_value}
use Rattle.plain_machine.specs.Arguments.{coding_of, coding_value, find_process, process_of, runs}
use Rattle.plain_machine.specs.Arguments.{child_of, is_closed, running_in, encoded, is_new_name}
use Rattle.plain_machine.specs.Arguments.{process_name}
use Rattle.plain_machine.specs.Items.{Item, GiveAnswer, Refuse, MakeChange, Wait, Delete, Target}
use Rattle.plain_machine.specs.Items.{Waiting, Next, Step, Goes, Asks}

-- a step that says nothing
abbrev pub silent : State → List Item → Next
silent s work = record { said = []; config = record { state = s; work = work } }

abbrev pub on : State → List Item → Step
on s work = Goes (silent s work)

abbrev pub answered : State → Target → Reply → List Item → Step
answered s target (Answered v) rest = on s (GiveAnswer v target ∷ rest)
answered s target (Reply.Refused f) rest = on s (Refuse f ∷ rest)

-- a step, unless the call is refused
abbrev pub unless_fault : Option Fault → State → List Item → Step → Step
unless_fault (Some f) s rest step = on s (Refuse f ∷ rest)
unless_fault None s rest step = step

abbrev pub unless : List Test → State → List Item → Step → Step
unless tests s rest step = unless_fault (first_fault tests) s rest step

abbrev pub with_editor : Editor → State → State
with_editor e s = record s { editor = e }

-- HOOKS
abbrev pub set_hook : State → Target → List Item → (hook : Value) → List ℕ → Step
set_hook s target rest hook names =
    on (set_hook_list s.editor.current (symbol_of hook) names s)
    (GiveAnswer (list (map Sym names)) target ∷ rest)

-- STARTING A PROCESS
-- the buffer of a new process, made where the name is unknown
abbrev pub with_process_buffer : Value → Editor → Editor
with_process_buffer b e = if is_new_name e b then with_buffer (name_of b) e else e

abbrev pub process_buffer : Editor → Value → Option ℕ
process_buffer e Nil = None
process_buffer e v = Some (buffer_of e v)

-- its mark stands at the end of the accessible portion, or nowhere
abbrev pub end_of : Editor → Option ℕ → Option Spot
end_of e None = None
end_of e (Some id) = Some (record { buffer = id; place = (buffer_at e id).end })

abbrev pub started : State → (name b : Value) → (child : ℕ) → State
started s name b child =
    let e : Editor = with_process_buffer b s.editor in
    let buffer : Option ℕ = process_buffer e b in
    record s {
      editor = with_marker (record { spot = end_of e buffer; advances = false }) e;
      processes = s.processes ++ record {
        name = process_name s.processes (name_of name);
        child = child;
        status = Runs;
        buffer = buffer;
        mark = length e.marks.markers;
        filter = Default;
        sentinel = None;
        coding = Utf8;
        bytes = None;
        drained = false;
        closed = false;
        listed = true;
      } ∷ [];
      asked = s.asked + 1;
    }

-- a child is new where no process has it
abbrev pub is_new_child : State → ℕ → Bool
is_new_child s child = not (list_any (λ x. x.child == child) s.processes)

-- an answer that names a child which a process has already is no answer to a start
abbrev pub spawned_child : (is_new : Bool) → State → Target → List Item → (name b : Value) →
    (child : ℕ) → Option Next
spawned_child false s target rest name b child = None
spawned_child true s target rest name b child =
    Some (silent (started s name b child) (GiveAnswer (TheProcess (length s.processes)) target ∷ rest))

abbrev pub spawned : State → Target → List Item → (name b : Value) → Answer → Option Next
spawned s target rest name b (Started child) = spawned_child (is_new_child s child) s target rest name b child
spawned s target rest name b Answer.Refused =
    Some (silent (record s { asked = s.asked + 1 }) (Refuse SpawnFailed ∷ rest))
spawned s target rest name b _ = None

-- SETTING
abbrev pub with_filter : Filter → Process → Process
with_filter f x = record x { filter = f }

abbrev pub with_sentinel : Option ℕ → Process → Process
with_sentinel h x = record x { sentinel = h }

abbrev pub of_buffer : Option ℕ → Process → Process
of_buffer b x = record x { buffer = b }

-- as long as nothing was read
abbrev pub with_coding : Coding → Process → Process
with_coding c x = elim x.bytes [ Some bytes ↦ x | None ↦ record x { coding = c } ]

-- SENDING
abbrev pub sent_answer : State → Target → List Item → (size : ℕ) → Answer → Option Next
sent_answer s target rest size Sent =
    Some (silent (record s { asked = s.asked + 1; sent = s.sent + size }) (GiveAnswer Nil target ∷ rest))
sent_answer s target rest size Broken =
    Some (silent (record s { asked = s.asked + 1; sent = s.sent + size }) (Refuse BrokenPipe ∷ rest))
sent_answer s target rest size _ = None

-- an empty text asks nothing
abbrev pub send : State → Target → List Item → (child : ℕ) → (bytes : List ℕ) → Step
send s target rest child [] = on s (GiveAnswer Nil target ∷ rest)
send s target rest child (b ∷ bytes) =
    Asks (Send child (b ∷ bytes)) (sent_answer s target rest (length (b ∷ bytes)))

abbrev pub with_input_closed : Process → Process
with_input_closed x = record x { closed = true }

abbrev pub closed_answer : State → Target → List Item → (p : ℕ) → Answer → Option Next
closed_answer s target rest p Closed =
    Some (silent (change_process p with_input_closed (record s { asked = s.asked + 1 }))
    (GiveAnswer (TheProcess p) target ∷ rest))
closed_answer s target rest p _ = None

-- the input is closed once
abbrev pub send_eof : State → Target → List Item → (p : ℕ) → (is_closed : Bool) → Step
send_eof s target rest p true = on s (GiveAnswer (TheProcess p) target ∷ rest)
send_eof s target rest p false = Asks (Close (child_of s p)) (closed_answer s target rest p)

-- WAITING
abbrev pub waiting : State → (p n flag : Value) → Waiting
waiting s Nil n flag =
    record { target = None; just = false; rounds = rounds_of n; asking = []; counted = false }
waiting s p n flag =
    record {
      target = Some (process_of s p);
      just = not (is_nil flag);
      rounds = rounds_of n;
      asking = [];
      counted = false;
    }

-- ASKING ABOUT PROCESSES
-- the symbols `run`, `exit`, `signal`, `failed`
abbrev pub status_symbol : Status → ℕ
status_symbol Runs = 6
status_symbol (Exited n) = 7
status_symbol Signalled = 8
status_symbol Lost = 9

abbrev pub exit_value : Status → Value
exit_value Runs = Int (pos 0)
exit_value (Exited n) = Int n
exit_value Signalled = Nil
exit_value Lost = Nil

abbrev pub told_of : Prim → Process → Value
told_of ProcessName x = plain x.name
told_of ProcessStatus x = Sym (status_symbol x.status)
told_of ProcessBuffer x = buffer_value x.buffer
told_of ProcessMark x = TheMarker x.mark
told_of ProcessLiveP x = truth (runs x.status)
told_of ProcessExitStatus x = exit_value x.status
told_of ProcessFilter x = filter_value x.filter
told_of ProcessSentinel x = sentinel_value x.sentinel
told_of ProcessCodingSystem x = coding_value x.coding
told_of _ x = Nil

abbrev pub told_of_one : Prim → Option Process → Value
told_of_one prim None = Nil
told_of_one prim (Some x) = told_of prim x

abbrev pub process_value : Option ℕ → Value
process_value None = Nil
process_value (Some p) = TheProcess p

abbrev pub get_process : State → Value → Value
get_process s (Str t) = process_value (find_process 0 s.processes (name_of (Str t)))
get_process s v = v

abbrev pub listed : State → List Value
listed s = map (λ x. TheProcess x.0) (filter (λ x. x.1.listed) (enumerate_from 0 s.processes))

-- THE TABLE
-- what each does where nothing is refused
abbrev pub process_effect : State → Target → List Item → Prim → List Value → Step
process_effect s target rest AddHook args =
    set_hook s target rest (arg args 0) (hook_added s (arg args 0) (arg args 1))
process_effect s target rest RemoveHook args =
    set_hook s target rest (arg args 0) (hook_removed s (arg args 0) (arg args 1))
process_effect s target rest KillBuffer args =
    let b : ℕ = buffer_of s.editor (arg args 0) in
    on s (map Delete (running_in s b) ++ (Item.KillBuffer b target ∷ rest))
process_effect s target rest StartProcess args =
    Asks (Spawn (encoded (string_of (arg args 2))) (map (λ v. encoded (string_of v)) (drop 3 args)))
    (spawned s target rest (arg args 0) (arg args 1))
process_effect s target rest ProcessList args = on s (GiveAnswer (list (listed s)) target ∷ rest)
process_effect s target rest GetProcess args = on s (GiveAnswer (get_process s (arg args 0)) target ∷ rest)
process_effect s target rest SetProcessFilter args =
    on (change_process (process_of s (arg args 0)) (with_filter (filter_of (arg args 1))) s)
    (GiveAnswer (arg args 1) target ∷ rest)
process_effect s target rest SetProcessSentinel args =
    on (change_process (process_of s (arg args 0)) (with_sentinel (sentinel_of (arg args 1))) s)
    (GiveAnswer (arg args 1) target ∷ rest)
process_effect s target rest SetProcessBuffer args =
    on (change_process (process_of s (arg args 0)) (of_buffer (process_buffer s.editor (arg args 1))) s)
    (GiveAnswer (arg args 1) target ∷ rest)
process_effect s target rest SetProcessCodingSystem args =
    on (change_process (process_of s (arg args 0)) (with_coding (coding_of (arg args 1))) s)
    (GiveAnswer (arg args 1) target ∷ rest)
process_effect s target rest ProcessSendString args =
    send s target rest (child_of s (process_of s (arg args 0))) (encoded (string_of (arg args 1)))
process_effect s target rest ProcessSendEof args =
    send_eof s target rest (process_of s (arg args 0)) (is_closed s (process_of s (arg args 0)))
process_effect s target rest DeleteProcess args =
    on s (Delete (process_of s (arg args 0)) ∷ GiveAnswer Nil target ∷ rest)
process_effect s target rest AcceptProcessOutput args =
    on s (Wait (waiting s (arg args 0) (arg args 1) (arg args 2)) target ∷ rest)
process_effect s target rest prim args =
    on s (GiveAnswer (told_of_one prim (process s (process_of s (arg args 0)))) target ∷ rest)

abbrev pub process_call : Program → (bound : ℕ) → State → Target → List Item → Prim → List Value → Step
process_call program bound s target rest prim args =
    unless (process_tests program bound s prim args) s rest (process_effect s target rest prim args)

abbrev pub change_call : State → Target → List Item → Prepared → Step
change_call s target rest (Changes c) = on s (MakeChange c ∷ GiveAnswer c.reply target ∷ rest)
change_call s target rest (Quiet c) =
    on (with_editor (commit s.editor c).editor s) (GiveAnswer c.reply target ∷ rest)
change_call s target rest (Nothing v) = on s (GiveAnswer v target ∷ rest)
change_call s target rest (Barred f) = on s (Refuse f ∷ rest)

abbrev pub set_call : State → Target → List Item → Applied → Step
set_call s target rest a = answered (with_editor a.editor s) target a.reply rest

-- EVERY CALL
abbrev pub call_by : Manner → Program → (bound : ℕ) → State → Target → List Item → Prim → List Value → Step
call_by OnlyAsks program bound s target rest prim args = answered s target (query s.editor prim args) rest
call_by SetsState program bound s target rest prim args = set_call s target rest (apply s.editor prim args)
call_by ChangesText program bound s target rest prim args =
    change_call s target rest (prepare s.editor prim args)
call_by ConcernsHandlers program bound s target rest prim args =
    process_call program bound s target rest prim args

abbrev pub call : Program → (bound : ℕ) → State → Target → List Item → Prim → List Value → Step
call program bound s target rest prim args = call_by (manner_of prim) program bound s target rest prim args

-- Each step of the machine from a good configuration comes to a good one.
use Rattle.std.proofs.Common.{◌≡◌, ℕ, zero, suc, ◌+◌, ◌≤◌, Bool, true, false, List, [], ◌∷◌, ◌++◌, length, map, drop, refl, ap, sym, subst, ◌∙◌, arith}
use Rattle.std.specs.Prelude.{◌-◌, ◌==◌, ◌&&◌, ◌||◌, pos, nat_lt, codes, Option, Some, None, unwrap_or}
use Rattle.std.proofs.lemmas.Bool.{eqb-true, eq-eqb}
use Rattle.text_model.specs.Characters.{Ch, Scalar}
use Rattle.text_model.specs.Codings.{decoded, all_decoded}
use Rattle.text_model.specs.Properties.{Cell, bare}
use Rattle.text_model.specs.Ordered.{AreOrdered}
use Rattle.text_model.specs.Marks.{Spot, Saved, Excursion, Restriction, Pending}
use Rattle.text_model.proofs.Cases.{by_test}
use Rattle.machine_laws.specs.Fits.{KeptFits, SavedFits}
use Rattle.machine_laws.specs.Brackets.{shape, shapes}
use Rattle.machine_laws.proofs.Changes.{ordered-append}
use Rattle.editor_model.specs.Values.{Value, Nil, T, Int, ExchangesSpent, at_place, Reply, Answered, Fault, Prim, AddHook, RemoveHook, KillBuffer, StartProcess, SetProcessFilter, SetProcessSentinel, SetProcessBuffer, SetProcessCodingSystem, ProcessSendString, ProcessSendEof, DeleteProcess, AcceptProcessOutput, Form, Forms, NoForms, Then, Do, Setq, In, WhenEq, Block, SaveExcursion, SaveRestriction, SaveCurrentBuffer, InhibitHooks, HandlerDef, equal, InhibitReadOnly}
use Rattle.editor_model.specs.Editor.{Editor, Live, live, is_live, here, killed, register, with_register, with_buffer, with_marker}
use Rattle.editor_model.specs.Answers.{Test, first_fault, Change, Prepared, Changes, Quiet, Nothing, Barred, Commit, Done, Failed}
use Rattle.editor_model.specs.Arguments.{arg, string_of, name_of, buffer_of}
use Rattle.editor_model.specs.TextCalls.{prepare_output}
use Rattle.editor_model.specs.Table.{query, apply, prepare, commit}
use Rattle.editor_model.specs.Prims.{OnlyAsks, SetsState, ChangesText, ConcernsHandlers, manner_of}
use Rattle.machine_laws.proofs.GoodEditor.{GoodEditor, Steady, FineWhat, FineChange}
use Rattle.machine_laws.proofs.Advancing.{advances_self, buffer_live, size_of, with_buffer_advances}
use Rattle.machine_laws.proofs.Applying.{Lies, lies, apply_steady, markers_append, SpotLies, spot_fits}
use Rattle.machine_laws.proofs.Committing.{FinePrepared, prepare_fine, output_fine, commit_steady, some_of}
use Rattle.machine_laws.proofs.Settling.{Settles, settles_self, settles_advances, advances_settles, marks_settle, killed_steady}
use Rattle.plain_machine.specs.Exchanges.{Answer, Started, Bytes, End, Code, Signal, Running, Sent, Broken, Closed, Killed}
use Rattle.plain_machine.specs.State.{State, hooks_of, Program, Process, Status, Runs, Signalled, process, change_process, read_so_far}
use Rattle.plain_machine.specs.Lines.{Kind, KilledLast, OfBefore, OfAfter, OfFilter, OfSentinel}
use Rattle.plain_machine.specs.Items.{Item, Top, Body, DoForm, MakeCall, Leave, GiveAnswer, Refuse, MakeChange, Hooks, Calm, CommitChange, Enter, Native, Called, Exit, Wait, Delete, Finish, WriteDump, Target, Nowhere, ToName, ToNative, KeptExcursion, KeptRestriction, KeptBuffer, KeptInhibition, KeptLifting, Waiting, Config, Next, Step, Goes, Asks, Ended}
use Rattle.plain_machine.specs.Refusals.{process_tests, may_ask, must_be_replaceable}
use Rattle.plain_machine.specs.Arguments.{process_of, filter_of, sentinel_of, child_of, is_closed, encoded, handler_def, native_from, running_in, is_new_name, coding_of}
use Rattle.plain_machine.specs.Calls.{on, answered, unless, call, process_effect, with_filter, with_sentinel, of_buffer, process_buffer, with_process_buffer, is_new_child, started, spawned, send, sent_answer, send_eof, closed_answer, with_input_closed, change_call, with_editor, call_by, end_of, spawned_child, unless_fault, with_coding}
use Rattle.plain_machine.specs.Forms.{says, with_saved, saved_of, if_live, current, restored, evaluate, do_form, block, bounds_kept, assigned, scope_of, kept_reply, give, make_change, commit_change, at_kept, popped, bracket, after_commit, when_eq, call_with, lifting}
use Rattle.plain_machine.specs.Handling.{plain_text, second, sentinel_words, bound_params, unlisted, body_of, default_handler, put_in, output_in, put_output, process_buffer_of, mark_of_process, native, native_call, left_state, ended_handler, without_hooks_item, named_body, native_next, where_live}
use Rattle.plain_machine.specs.Waits.{ask_process, read_answer, end_answer, drain, entry_of, asked_more, more_characters, is_room, counts, target_is_eligible, from_eligible, eligible, delete, kill_answer, ends, exit_text, kill_at_end, finish, wait, ask_if, ask_next, delete_one, delete_running, finish_one, finish_running, kill_live, wait_case, hear}
use Rattle.plain_machine.specs.Step.{step, item_step}
use Rattle.machine_laws.proofs.GoodConfig.{ItemFine, AllFine, WorkFine, IsPendingIn, Stacked, GoodConfig, Well}
use Rattle.machine_laws.proofs.Working.{kinds, Ready, all_work, well_same, well_settled, change_editor, Rests, popped_rests, left_kinds, restored_rests, leave_stacked, dropped_well}

abbrev Same : ℕ × ℕ → ℕ × ℕ → Type 0
Same p q = p ≡ q

abbrev SameBuffer : Option ℕ → Option ℕ → Type 0
SameBuffer a b = a ≡ b

abbrev pub AnswerWell : State → Option Next → Type 0
AnswerWell s None = Unit {0}
AnswerWell s (Some n) = Well s.editor n.config

abbrev pub StepWell : State → Step → Type 0
StepWell s (Goes n) = Well s.editor n.config
StepWell s (Asks ask next) = (answer : Answer) → AnswerWell s (next answer)
StepWell s Ended = Unit {0}

-- CALLS
answered_well : (s t : State) (target : Target) (y : Reply) (rest : List Item) → Ready s rest → Steady s.editor t.editor → StepWell s (answered t target y rest)
answered_well s t target (Answered v) rest r h = record { advances = h.advances; work = (tt, r.fine); stack = subst (λ ks. Stacked rest ks) (sym h.same_shapes) r.stacked }
answered_well s t target (Reply.Refused f) rest r h = record { advances = h.advances; work = (tt, r.fine); stack = subst (λ ks. Stacked rest ks) (sym h.same_shapes) r.stacked }

steady_same : (s : State) → GoodEditor s.editor → Steady s.editor s.editor
steady_same s g = record { advances = advances_self s.editor g; same_shapes = refl }

unless_well : (tests : List Test) (s : State) (rest : List Item) (t : Step) → Ready s rest → StepWell s t → StepWell s (unless tests s rest t)
unless_well tests s rest t r h = go (first_fault tests)
  where
    go : (o : Option Fault) → StepWell s (unless_fault o s rest t)
    go (Some f) = well_same s s (Refuse f ∷ rest) r.editor refl (tt, r.fine) r.stacked
    go None = h

change_call_well : (s : State) (target : Target) (rest : List Item) (p : Prepared) → Ready s rest → FinePrepared s.editor p → StepWell s (change_call s target rest p)
change_call_well s target rest (Changes c) r f = record { advances = advances_self s.editor r.editor; work = (f.fine, (tt, r.fine)); stack = r.stacked }
change_call_well s target rest (Quiet c) r f =
    let x : Steady s.editor (commit s.editor c).editor = commit_steady s.editor c r.editor (λ q. f.fine) in
    record { advances = x.advances; work = (tt, r.fine); stack = subst (λ ks. Stacked rest ks) (sym x.same_shapes) r.stacked }
change_call_well s target rest (Nothing v) r f = well_same s s (GiveAnswer v target ∷ rest) r.editor refl (tt, r.fine) r.stacked
change_call_well s target rest (Barred y) r f = well_same s s (Refuse y ∷ rest) r.editor refl (tt, r.fine) r.stacked

-- PROCESSES
process_answer : (s : State) (p : ℕ) (f : Process → Process) (v : Value) (target : Target) (rest : List Item) → Ready s rest → StepWell s (on (change_process p f s) (GiveAnswer v target ∷ rest))
process_answer s p f v target rest r = well_same s (change_process p f s) (GiveAnswer v target ∷ rest) r.editor (change_editor p f s) (tt, r.fine) r.stacked

sent_well : (s : State) (target : Target) (rest : List Item) (size : ℕ) (a : Answer) → Ready s rest → AnswerWell s (sent_answer s target rest size a)
sent_well s target rest size Sent r = well_same s _ (GiveAnswer Nil target ∷ rest) r.editor refl (tt, r.fine) r.stacked
sent_well s target rest size Broken r = well_same s _ (Refuse Fault.BrokenPipe ∷ rest) r.editor refl (tt, r.fine) r.stacked
sent_well s target rest size _ r = tt

send_well : (s : State) (target : Target) (rest : List Item) (child : ℕ) (bytes : List ℕ) → Ready s rest → StepWell s (send s target rest child bytes)
send_well s target rest child [] r = well_same s s (GiveAnswer Nil target ∷ rest) r.editor refl (tt, r.fine) r.stacked
send_well s target rest child (b ∷ bytes) r = λ a. sent_well s target rest (length (b ∷ bytes)) a r

closed_well : (s : State) (target : Target) (rest : List Item) (p : ℕ) (a : Answer) → Ready s rest → AnswerWell s (closed_answer s target rest p a)
closed_well s target rest p Closed r = well_same s (change_process p with_input_closed (record s { asked = s.asked + 1 })) (GiveAnswer (Value.TheProcess p) target ∷ rest) r.editor (change_editor p with_input_closed (record s { asked = s.asked + 1 })) (tt, r.fine) r.stacked
closed_well s target rest p _ r = tt

eof_well : (s : State) (target : Target) (rest : List Item) (p : ℕ) (closed : Bool) → Ready s rest → StepWell s (send_eof s target rest p closed)
eof_well s target rest p true r = well_same s s (GiveAnswer (Value.TheProcess p) target ∷ rest) r.editor refl (tt, r.fine) r.stacked
eof_well s target rest p false r = λ a. closed_well s target rest p a r

-- a process's buffer and mark made
started_well : (s : State) (target : Target) (rest : List Item) (name b : Value) (child : ℕ) (v : Value) → Ready s rest → Well s.editor (record { state = started s name b child; work = GiveAnswer v target ∷ rest })
started_well s target rest name b child v r = record {
  advances = advances_settles s.editor e (started s name b child).editor x.advances settled;
  work = (tt, r.fine);
  stack = subst (λ ks. Stacked rest ks) (sym x.same_shapes) r.stacked;
}
  where
    e : Editor
    e = with_process_buffer b s.editor

    x : Steady s.editor e
    x = by_test (λ n. Steady s.editor n) (is_new_name s.editor b) (with_buffer (name_of b) s.editor) s.editor (λ q. record { advances = with_buffer_advances (name_of b) s.editor r.editor; same_shapes = refl }) (λ q. steady_same s r.editor)

    spot : Option Spot
    spot = end_of e (process_buffer e b)

    spot_lies : (o : Option ℕ) → SpotLies e (end_of e o)
    spot_lies None = tt
    spot_lies (Some id) = (lies e id x.advances.good).end

    settled : Settles e (with_marker (record { spot = spot; advances = false }) e)
    settled = marks_settle e (with_marker (record { spot = spot; advances = false }) e) x.advances.good refl (λ id k. record { markers = markers_append id (size_of e id) e.marks.markers (record { spot = spot; advances = false }) k.markers (spot_fits e spot id (spot_lies (process_buffer e b))); overlays = k.overlays; saved = k.saved })

spawned_well : (s : State) (target : Target) (rest : List Item) (name b : Value) (a : Answer) → Ready s rest → AnswerWell s (spawned s target rest name b a)
spawned_well s target rest name b (Started child) r = go (is_new_child s child)
  where
    go : (v : Bool) → AnswerWell s (spawned_child v s target rest name b child)
    go false = tt
    go true = started_well s target rest name b child (Value.TheProcess (length s.processes)) r
spawned_well s target rest name b Answer.Refused r = well_same s _ (Refuse Fault.SpawnFailed ∷ rest) r.editor refl (tt, r.fine) r.stacked
spawned_well s target rest name b _ r = tt

deletes_fine : (ps : List ℕ) (work : List Item) → AllFine work → AllFine (map Delete ps ++ work)
deletes_fine [] work h = h
deletes_fine (p ∷ ps) work h = (tt, deletes_fine ps work h)

deletes_stacked : (ps : List ℕ) (work : List Item) (ks : List (ℕ × ℕ)) → Stacked work ks → Stacked (map Delete ps ++ work) ks
deletes_stacked [] work ks h = h
deletes_stacked (p ∷ ps) work ks h = deletes_stacked ps work ks h

effect_well : (s : State) (target : Target) (rest : List Item) (prim : Prim) (args : List Value) → Ready s rest → StepWell s (process_effect s target rest prim args)
effect_well s target rest AddHook args r = well_same s _ _ r.editor refl (tt, r.fine) r.stacked
effect_well s target rest RemoveHook args r = well_same s _ _ r.editor refl (tt, r.fine) r.stacked
effect_well s target rest KillBuffer args r =
    let b : ℕ = buffer_of s.editor (arg args 0) in
    well_same s s (map Delete (running_in s b) ++ (Item.KillBuffer b target ∷ rest)) r.editor refl (deletes_fine (running_in s b) (Item.KillBuffer b target ∷ rest) (tt, r.fine)) (deletes_stacked (running_in s b) (Item.KillBuffer b target ∷ rest) (kinds s) r.stacked)
effect_well s target rest StartProcess args r = λ a. spawned_well s target rest (arg args 0) (arg args 1) a r
effect_well s target rest SetProcessFilter args r = process_answer s (process_of s (arg args 0)) (with_filter (filter_of (arg args 1))) (arg args 1) target rest r
effect_well s target rest SetProcessSentinel args r = process_answer s (process_of s (arg args 0)) (with_sentinel (sentinel_of (arg args 1))) (arg args 1) target rest r
effect_well s target rest SetProcessBuffer args r = process_answer s (process_of s (arg args 0)) (of_buffer (process_buffer s.editor (arg args 1))) (arg args 1) target rest r
effect_well s target rest SetProcessCodingSystem args r = process_answer s (process_of s (arg args 0)) (with_coding (coding_of (arg args 1))) (arg args 1) target rest r
effect_well s target rest ProcessSendString args r = send_well s target rest (child_of s (process_of s (arg args 0))) (encoded (string_of (arg args 1))) r
effect_well s target rest ProcessSendEof args r = eof_well s target rest (process_of s (arg args 0)) (is_closed s (process_of s (arg args 0))) r
effect_well s target rest DeleteProcess args r = well_same s s (Delete (process_of s (arg args 0)) ∷ GiveAnswer Nil target ∷ rest) r.editor refl (tt, (tt, r.fine)) r.stacked
effect_well s target rest AcceptProcessOutput args r = well_same s s _ r.editor refl (tt, r.fine) r.stacked
effect_well s target rest _ args r = well_same s s _ r.editor refl (tt, r.fine) r.stacked

call_well : (program : Program) (bound : ℕ) (s : State) (target : Target) (rest : List Item) (prim : Prim) (args : List Value) → Ready s rest → StepWell s (call program bound s target rest prim args)
call_well program bound s target rest prim args r =
    (elim (manner_of prim) as (λ m. StepWell s (call_by m program bound s target rest prim args)) [
      | OnlyAsks ↦ answered_well s s target (query s.editor prim args) rest r (steady_same s r.editor)
      | SetsState ↦ answered_well s (with_editor (apply s.editor prim args).editor s) target (apply s.editor prim args).reply rest r (apply_steady s.editor prim args r.editor)
      | ChangesText ↦ change_call_well s target rest (prepare s.editor prim args) r (prepare_fine s.editor prim args r.editor)
      | ConcernsHandlers ↦ unless_well (process_tests program bound s prim args) s rest (process_effect s target rest prim args) r (effect_well s target rest prim args r)
    ])

-- FORMS
evaluated_well : (s : State) (rest : List Item) (o : Option (List Value)) (prim : Prim) (target : Target) → Ready s rest → StepWell s (call_with o prim target s rest)
evaluated_well s rest None prim target r = well_same s s (Refuse Fault.VoidVariable ∷ rest) r.editor refl (tt, r.fine) r.stacked
evaluated_well s rest (Some args) prim target r = well_same s s (MakeCall prim args target ∷ rest) r.editor refl (tt, r.fine) r.stacked

-- a place kept on top
pushed_well : (s : State) (k : Saved) (work : List Item) → GoodEditor s.editor → ((id : ℕ) → KeptFits id (size_of s.editor id) k) → AllFine work → Stacked work (shape k ∷ kinds s) → Well s.editor (record { state = with_saved (k ∷ saved_of s) s; work = work })
pushed_well s k work g h f x = well_settled s.editor (with_saved (k ∷ saved_of s) s) work g
    (marks_settle s.editor (with_saved (k ∷ saved_of s) s).editor g refl (λ id m. record { markers = m.markers; overlays = m.overlays; saved = (h id, m.saved) })) f x

bounds_fit : (s : State) (id : ℕ) → GoodEditor s.editor → KeptFits id (size_of s.editor id) (Restriction s.editor.current (bounds_kept (here s.editor)))
bounds_fit s id g = go ((here s.editor).begin == 0 && ((here s.editor).end == length (here s.editor).text))
  where
    l : Lies (here s.editor)
    l = lies s.editor s.editor.current g

    go : (v : Bool) → KeptFits id (size_of s.editor id) (Restriction s.editor.current (elim v [ true ↦ None | false ↦ Some ((here s.editor).begin, (here s.editor).end) ]))
    go true = tt
    go false = λ q. (l.order, subst (λ i. (here s.editor).end ≤ size_of s.editor i) (eqb-true s.editor.current id q) l.end)

point_fits : (s : State) (id : ℕ) → GoodEditor s.editor → KeptFits id (size_of s.editor id) (Excursion s.editor.current (here s.editor).point)
point_fits s id g = λ q. subst (λ i. (here s.editor).point ≤ size_of s.editor i) (eqb-true s.editor.current id q) (lies s.editor s.editor.current g).point

block_well : (k : Block) (forms : Forms) (s : State) (rest : List Item) → Ready s rest → StepWell s (block k forms s rest)
block_well SaveExcursion forms s rest r = pushed_well s (Excursion s.editor.current (here s.editor).point) (Body forms ∷ Leave KeptExcursion ∷ rest) r.editor (λ id. point_fits s id r.editor) (tt, (tt, r.fine)) r.stacked
block_well SaveRestriction forms s rest r = pushed_well s (Restriction s.editor.current (bounds_kept (here s.editor))) (Body forms ∷ Leave KeptRestriction ∷ rest) r.editor (λ id. bounds_fit s id r.editor) (tt, (tt, r.fine)) r.stacked
block_well SaveCurrentBuffer forms s rest r = well_same s s (Body forms ∷ Leave (KeptBuffer s.editor.current) ∷ rest) r.editor refl (tt, (tt, r.fine)) r.stacked
block_well InhibitReadOnly forms s rest r = well_settled s.editor (lifting true s) (Body forms ∷ Leave (KeptLifting s.editor.lifted) ∷ rest) r.editor (marks_settle s.editor (lifting true s).editor r.editor refl (λ id m. m)) (tt, (tt, r.fine)) r.stacked
block_well InhibitHooks forms s rest r = well_same s (record s { inhibited = true }) (Body forms ∷ Leave (KeptInhibition s.inhibited) ∷ rest) r.editor refl (tt, (tt, r.fine)) r.stacked

pair_well : (s : State) (rest : List Item) (o : Option (List Value)) (forms : Forms) → Ready s rest → StepWell s (when_eq o forms s rest)
pair_well s rest None forms r = well_same s s (Refuse Fault.VoidVariable ∷ rest) r.editor refl (tt, r.fine) r.stacked
pair_well s rest (Some []) forms r = well_same s s (Refuse Fault.VoidVariable ∷ rest) r.editor refl (tt, r.fine) r.stacked
pair_well s rest (Some (x ∷ [])) forms r = well_same s s (Refuse Fault.VoidVariable ∷ rest) r.editor refl (tt, r.fine) r.stacked
pair_well s rest (Some (x ∷ y ∷ [])) forms r = go (equal x y)
  where
    go : (v : Bool) → StepWell s (elim v [ true ↦ on s (Body forms ∷ rest) | false ↦ on s rest ])
    go true = well_same s s (Body forms ∷ rest) r.editor refl (tt, r.fine) r.stacked
    go false = well_same s s rest r.editor refl r.fine r.stacked
pair_well s rest (Some (x ∷ y ∷ z ∷ more)) forms r = well_same s s (Refuse Fault.VoidVariable ∷ rest) r.editor refl (tt, r.fine) r.stacked

form_well : (s : State) (rest : List Item) (f : Form) → Ready s rest → StepWell s (do_form s rest f)
form_well s rest (Do c) r = evaluated_well s rest (evaluate s c.args) c.prim Nowhere r
form_well s rest (Setq name c) r = evaluated_well s rest (evaluate s c.args) c.prim (ToName name) r
form_well s rest (In k forms) r = block_well k forms s rest r
form_well s rest (WhenEq a b forms) r = pair_well s rest (evaluate s (a ∷ b ∷ [])) forms r

-- ANSWERS
assigned_settles : (name : ℕ) (v : Value) (s : State) → GoodEditor s.editor → Rests s (assigned name v s) (kinds s)
assigned_settles name v s g = go (register (scope_of s) name)
  where
    go : (o : Option Value) → Rests s (elim o [ Some old ↦ record s { scopes = with_register name v (scope_of s) ∷ drop 1 s.scopes } | None ↦ record s { editor = record s.editor { registers = with_register name v s.editor.registers } } ]) (kinds s)
    go (Some old) = record { settles = settles_self s.editor g; same_kinds = refl }
    go None = record { settles = marks_settle s.editor (record s.editor { registers = with_register name v s.editor.registers }) g refl (λ id h. h); same_kinds = refl }

reply_fine : (y : Reply) (rest : List Item) → AllFine rest → AllFine (kept_reply y rest)
reply_fine y [] h = h
reply_fine y (Called i args past ∷ rest) h = h
reply_fine y (_ ∷ rest) h = h

reply_stacked : (y : Reply) (rest : List Item) (ks : List (ℕ × ℕ)) → Stacked rest ks → Stacked (kept_reply y rest) ks
reply_stacked y [] ks h = h
reply_stacked y (Called i args past ∷ rest) ks h = h
reply_stacked y (_ ∷ rest) ks h = h

give_well : (program : Program) (s : State) (v : Value) (target : Target) (rest : List Item) → Ready s rest → Well s.editor (give program s v target rest).config
give_well program s v Nowhere rest r = well_same s s rest r.editor refl r.fine r.stacked
give_well program s v (ToName name) rest r =
    let x : Rests s (assigned name v s) (kinds s) = assigned_settles name v s r.editor in
    well_settled s.editor (assigned name v s) rest r.editor x.settles r.fine (subst (λ ks. Stacked rest ks) (sym x.same_kinds) r.stacked)
give_well program s v ToNative rest r = well_same s s (kept_reply (Answered v) rest) r.editor refl (reply_fine (Answered v) rest r.fine) (reply_stacked (Answered v) rest (kinds s) r.stacked)

-- CHANGES
bracket_fine : (v : Bool) (kind : Kind) (names : List ℕ) (args : List Value) (rest : List Item) → AllFine rest → AllFine (bracket v kind names args rest)
bracket_fine true kind names args rest h = h
bracket_fine false kind names args rest h = (tt, (tt, h))

bracket_stacked : (v : Bool) (kind : Kind) (names : List ℕ) (args : List Value) (rest : List Item) (ks : List (ℕ × ℕ)) → Stacked rest ks → Stacked (bracket v kind names args rest) ks
bracket_stacked true kind names args rest ks h = h
bracket_stacked false kind names args rest ks h = h

change_well : (s : State) (c : Change) (rest : List Item) → Ready s rest → FineChange s.editor c → StepWell s (make_change s c rest)
change_well s c rest r f =
    let work : List Item = bracket s.inhibited (OfBefore c.buffer) (hooks_of s.hooks c.buffer).before (at_place c.from ∷ at_place c.to ∷ []) (CommitChange c ∷ rest) in
    let x : Well s.editor (record { state = with_saved (Pending c.buffer c.from c.to ∷ saved_of s) s; work = work }) = pushed_well s (Pending c.buffer c.from c.to) work r.editor
    (λ id q. (f.order, subst (λ i. c.to ≤ size_of s.editor i) (eqb-true c.buffer id q) f.fits))
    (bracket_fine s.inhibited _ _ _ (CommitChange c ∷ rest) (f.what, r.fine)) (bracket_stacked s.inhibited _ _ _ (CommitChange c ∷ rest) ((2, c.buffer) ∷ kinds s) (refl, r.stacked)) in
    record { advances = x.advances; work = x.work; stack = x.stack }

apart : (a b : ℕ) → suc a ≤ b → a ≡ b → ⊥
apart a b h e = omega arith

first_same : (p q : ℕ × ℕ) → Same p q → p.0 ≡ q.0
first_same p q e = ap (λ x. x.0) e

-- the change at its kept ends
pub kept_change : (s : State) (c : Change) → GoodEditor s.editor → FineWhat c.what → IsPendingIn c.buffer (kinds s) → (ks : List Saved) → s.editor.marks.saved ≡ ks → is_live s.editor (at_kept c ks).buffer ≡ true → FineChange s.editor (at_kept c ks)
kept_change s c g w p [] q h = absurd (subst (λ l. IsPendingIn c.buffer (shapes l)) q p)
kept_change s c g w p (Excursion b n ∷ ks) q h = absurd (other (subst (λ l. IsPendingIn c.buffer (shapes l)) q p))
  where
    other : Same (0, b) (2, c.buffer) → ⊥
    other e = apart 0 2 (omega arith) (first_same (0, b) (2, c.buffer) e)
kept_change s c g w p (Restriction b ends ∷ ks) q h = absurd (other (subst (λ l. IsPendingIn c.buffer (shapes l)) q p))
  where
    other : Same (1, b) (2, c.buffer) → ⊥
    other e = apart 1 2 (omega arith) (first_same (1, b) (2, c.buffer) e)
kept_change s c g w p (Pending b from to ∷ ks) q h =
    let e : b ≡ c.buffer = ap (λ x. x.1) (subst (λ l. IsPendingIn c.buffer (shapes l)) q p) in
    let l : (l : Live) × (live s.editor c.buffer ≡ Some l) = some_of (live s.editor c.buffer) h in
    let y : SavedFits c.buffer (length l.0.buffer.text) (Pending b from to ∷ ks) = subst (λ m. SavedFits c.buffer (length l.0.buffer.text) m) q (g.each c.buffer l.0 l.1).fits.marks_fit.saved in
    let z : (from ≤ to) × (to ≤ length l.0.buffer.text) = y.0 (eq-eqb b c.buffer e) in
    record { what = w; order = z.0; fits = subst (λ x. to ≤ length x.text) (sym (buffer_live s.editor c.buffer l.0 l.1)) z.1 }

commit_well : (s : State) (c : Change) (rest : List Item) → GoodEditor s.editor → FineWhat c.what → AllFine rest → IsPendingIn c.buffer (kinds s) → Stacked rest (drop 1 (kinds s)) → StepWell s (commit_change s c rest)
commit_well s c rest g w f p k = go (commit s.editor (at_kept c (saved_of s))) (commit_steady s.editor (at_kept c (saved_of s)) g (kept_change s c g w p (saved_of s) refl))
  where
    go : (done : Commit) → Steady s.editor done.editor → StepWell s (after_commit done.editor done.committed s c rest)
    go done x = by_kind done.committed
      where
        t : State
        t = with_editor done.editor s

        y : Rests t (popped t) (drop 1 (kinds t))
        y = popped_rests t x.advances.good

        by_kind : (o : Rattle.editor_model.specs.Answers.Committed) → StepWell s (after_commit done.editor o s c rest)
        by_kind (Failed a) =
            let z : Rests s (popped s) (drop 1 (kinds s)) = popped_rests s g in
            well_settled s.editor (popped s) (Refuse a ∷ rest) g z.settles (tt, f) (subst (λ ks. Stacked rest ks) (sym z.same_kinds) k)
        by_kind (Done from to old) =
            let work : List Item = bracket s.inhibited (OfAfter c.buffer) (hooks_of s.hooks c.buffer).after (at_place from ∷ at_place to ∷ Int (pos old) ∷ []) rest in
            record {
              advances = advances_settles s.editor done.editor (popped t).editor x.advances y.settles;
              work = all_work (popped t).editor work (bracket_fine s.inhibited _ _ _ rest f);
              stack = bracket_stacked s.inhibited _ _ _ rest (kinds (popped t)) (subst (λ ks. Stacked rest ks) (sym (y.same_kinds ∙ ap (drop 1) x.same_shapes)) k);
            }

-- HANDLERS
text_ordered : (text : List Ch) → AreOrdered (bare text)
text_ordered [] = tt
text_ordered (c ∷ text) = (tt, text_ordered text)

put_in_well : (s t : State) (p : Prepared) (rest : List Item) → Ready s rest → Settles s.editor t.editor → kinds t ≡ kinds s → FinePrepared t.editor p → Well s.editor (put_in t p rest)
put_in_well s t (Changes c) rest r h q f = record { advances = settles_advances s.editor t.editor r.editor h; work = (f.fine, r.fine); stack = subst (λ ks. Stacked rest ks) (sym q) r.stacked }
put_in_well s t (Quiet c) rest r h q f = well_settled s.editor t rest r.editor h r.fine (subst (λ ks. Stacked rest ks) (sym q) r.stacked)
put_in_well s t (Nothing v) rest r h q f = well_settled s.editor t rest r.editor h r.fine (subst (λ ks. Stacked rest ks) (sym q) r.stacked)
put_in_well s t (Barred y) rest r h q f = well_settled s.editor t (Refuse y ∷ rest) r.editor h (tt, r.fine) (subst (λ ks. Stacked rest ks) (sym q) r.stacked)

-- the same preparation, with another buffer current
fine_current : (e : Editor) (b : ℕ) (p : Prepared) → FinePrepared e p → FinePrepared (record e { current = b }) p
fine_current e b (Changes c) f = record { fine = record { what = f.fine.what; order = f.fine.order; fits = f.fine.fits } }
fine_current e b (Quiet c) f = record { fine = record { what = f.fine.what; order = f.fine.order; fits = f.fine.fits } }
fine_current e b (Nothing v) f = record { fine = tt }
fine_current e b (Barred y) f = record { fine = tt }

output_in_well : (s : State) (o : Option ℕ) (mark : ℕ) (text : List Cell) (rest : List Item) → Ready s rest → AreOrdered text → ((b : ℕ) → o ≡ Some b → is_live s.editor b ≡ true) → Well s.editor (output_in s o mark text rest)
output_in_well s None mark text rest r h l = well_same s s rest r.editor refl r.fine r.stacked
output_in_well s (Some b) mark text rest r h l =
    put_in_well s (current b s) (prepare_output s.editor b mark text) rest r (marks_settle s.editor (current b s).editor r.editor refl (λ id x. x)) refl
    (fine_current s.editor b (prepare_output s.editor b mark text) (output_fine s.editor b mark text r.editor (l b refl) h))

pub process_lives : (s : State) (p b : ℕ) → process_buffer_of s p ≡ Some b → is_live s.editor b ≡ true
process_lives s p b h = go (process s p) h
  where
    lives : (o : Option ℕ) → SameBuffer (where_live s o) (Some b) → is_live s.editor b ≡ true
    lives None k = cc
    lives (Some n) k = by_test_of (is_live s.editor n) refl k
      where
        by_test_of : (v : Bool) → is_live s.editor n ≡ v → SameBuffer (elim v [ true ↦ Some n | false ↦ None ]) (Some b) → is_live s.editor b ≡ true
        by_test_of true q k = let e : n ≡ b = cc in subst (λ i. is_live s.editor i ≡ true) e q
        by_test_of false q k = cc

    go : (o : Option Process) → SameBuffer (elim o [ None ↦ None | Some x ↦ (where_live s x.buffer) ]) (Some b) → is_live s.editor b ≡ true
    go None k = cc
    go (Some x) k = lives x.buffer k

output_well : (s : State) (p : ℕ) (text : List Cell) (rest : List Item) → Ready s rest → AreOrdered text → Well s.editor (put_output s p text rest)
output_well s p text rest r h = output_in_well s (process_buffer_of s p) (mark_of_process s p) text rest r h (λ b q. process_lives s p b q)

words_ordered : (s : State) (p : ℕ) (text : List Cell) → AreOrdered text → AreOrdered (sentinel_words s p text)
words_ordered s p text h =
    let words : List Ch = map Scalar (codes "\nProcess ") in
    let name : List Ch = elim (process s p) [ Some x ↦ x.name | None ↦ [] ] in
    let blank : List Ch = map Scalar (32 ∷ []) in
    ordered-append (bare words) (bare name ++ (bare blank ++ text)) (text_ordered words) (ordered-append (bare name) (bare blank ++ text) (text_ordered name) (ordered-append (bare blank) text (text_ordered blank) h))

default_well : (s : State) (kind : Kind) (args : List Value) (rest : List Item) → Ready s rest → Well s.editor (default_handler s kind args rest)
default_well s (OfFilter p) args rest r = output_well s p (plain_text (second args)) rest r (text_ordered (map (λ c. c.0) (second args)))
default_well s (OfSentinel p) args rest r = output_well s p (sentinel_words s p (plain_text (second args))) rest r (words_ordered s p (plain_text (second args)) (text_ordered (map (λ c. c.0) (second args))))
default_well s (OfBefore b) args rest r = well_same s s rest r.editor refl r.fine r.stacked
default_well s (OfAfter b) args rest r = well_same s s rest r.editor refl r.fine r.stacked

body_well : (program : Program) (s : State) (kind : Kind) (handler : Option ℕ) (args : List Value) (rest : List Item) → Ready s rest → Well s.editor (body_of program s kind handler args rest)
body_well program s kind None args rest r = default_well (record s { scopes = [] ∷ s.scopes }) kind args rest (record { editor = r.editor; fine = r.fine; stacked = r.stacked })
body_well program s kind (Some name) args rest r = go (handler_def program.handlers name)
  where
    go : (o : Option HandlerDef) → Well s.editor (named_body program s o name args (rest))
    go None = well_same s (record s { scopes = [] ∷ s.scopes }) (Native (unwrap_or (native_from 0 program.natives name) 0) args [] ∷ rest) r.editor refl (tt, r.fine) r.stacked
    go (Some d) = well_same s (record s { scopes = bound_params d.params args ∷ s.scopes }) (Body d.body ∷ rest) r.editor refl (tt, r.fine) r.stacked

callable_fine : (program : Program) (s : State) (c : Prim × List Value) → ItemFine (native_call program s c)
callable_fine program s c = go (Rattle.plain_machine.specs.Natives.is_callable program s c)
  where
    go : (v : Bool) → ItemFine (elim v [ true ↦ MakeCall c.0 (map Rattle.plain_machine.specs.Natives.normal c.1) ToNative | false ↦ Refuse Fault.WrongType ])
    go true = tt
    go false = tt

callable_stacked : (program : Program) (s : State) (c : Prim × List Value) (rest : List Item) (ks : List (ℕ × ℕ)) → Stacked rest ks → Stacked (native_call program s c ∷ rest) ks
callable_stacked program s c rest ks h = go (Rattle.plain_machine.specs.Natives.is_callable program s c)
  where
    go : (v : Bool) → Stacked ((elim v [ true ↦ MakeCall c.0 (map Rattle.plain_machine.specs.Natives.normal c.1) ToNative | false ↦ Refuse Fault.WrongType ]) ∷ rest) ks
    go true = h
    go false = h

native_well : (program : Program) (s : State) (i : ℕ) (args : List Value) (past : List Reply) (rest : List Item) → Ready s rest → StepWell s (native program s i args past rest)
native_well program s i args past rest r = go (nat_lt (length past) 256) (program.does i args past)
  where
    go : (b : Bool) (o : Option (Prim × List Value)) → StepWell s (native_next b o program s i args past rest)
    go false o = well_same s s rest r.editor refl r.fine r.stacked
    go true None = well_same s s rest r.editor refl r.fine r.stacked
    go true (Some c) = well_same s s (native_call program s c ∷ Called i args past ∷ rest) r.editor refl (callable_fine program s c, (tt, r.fine)) (callable_stacked program s c (Called i args past ∷ rest) (kinds s) r.stacked)

left_settles : (s : State) (c : ℕ) → GoodEditor s.editor → Rests s (left_state s c) (kinds s)
left_settles s c g = go (is_live s.editor c)
  where
    out : State
    out = record s { depth = s.depth - 1; scopes = drop 1 s.scopes }

    go : (v : Bool) → Rests s (elim v [ true ↦ current c out | false ↦ out ]) (kinds s)
    go true = record { settles = marks_settle s.editor (current c out).editor g refl (λ id x. x); same_kinds = refl }
    go false = record { settles = settles_self s.editor g; same_kinds = refl }

hooks_fine : (rest : List Item) → AllFine rest → AllFine (without_hooks_item rest)
hooks_fine [] h = h
hooks_fine (Hooks kind names args ∷ rest) h = h.1
hooks_fine (_ ∷ rest) h = h

hooks_stacked : (rest : List Item) (ks : List (ℕ × ℕ)) → Stacked rest ks → Stacked (without_hooks_item rest) ks
hooks_stacked [] ks h = h
hooks_stacked (Hooks kind names args ∷ rest) ks h = h
hooks_stacked (_ ∷ rest) ks h = h

live_emptied : (b hook : ℕ) (s t : State) (rest : List Item) → GoodEditor s.editor → Settles s.editor t.editor → AllFine rest → Stacked rest (kinds t) → Well s.editor (record { state = if_live t b (Rattle.plain_machine.specs.Hooks.set_hook_list b hook [] t); work = without_hooks_item rest })
live_emptied b hook s t rest g x f k = go (is_live t.editor b)
  where
    go : (v : Bool) → Well s.editor (record { state = elim v [ true ↦ Rattle.plain_machine.specs.Hooks.set_hook_list b hook [] t | false ↦ t ]; work = without_hooks_item rest })
    go true = well_settled s.editor (Rattle.plain_machine.specs.Hooks.set_hook_list b hook [] t) (without_hooks_item rest) g x (hooks_fine rest f) (hooks_stacked rest (kinds t) k)
    go false = well_settled s.editor t (without_hooks_item rest) g x (hooks_fine rest f) (hooks_stacked rest (kinds t) k)

ended_well : (kind : Kind) (faulted : Bool) (s t : State) (rest : List Item) → GoodEditor s.editor → Settles s.editor t.editor → AllFine rest → Stacked rest (kinds t) → Well s.editor (ended_handler kind faulted t rest)
ended_well (OfFilter p) faulted s t rest g x f k = well_settled s.editor t rest g x f k
ended_well (OfSentinel p) faulted s t rest g x f k =
    well_settled s.editor (change_process p unlisted t) rest g (subst (λ e. Settles s.editor e) (sym (change_editor p unlisted t)) x) f (subst (λ e. Stacked rest (shapes e.marks.saved)) (sym (change_editor p unlisted t)) k)
ended_well (OfBefore b) true s t rest g x f k = live_emptied b Rattle.plain_machine.specs.Hooks.before_change_functions s t rest g x f k
ended_well (OfBefore b) false s t rest g x f k = well_settled s.editor t rest g x f k
ended_well (OfAfter b) true s t rest g x f k = live_emptied b Rattle.plain_machine.specs.Hooks.after_change_functions s t rest g x f k
ended_well (OfAfter b) false s t rest g x f k = well_settled s.editor t rest g x f k

-- WAITS AND ENDS
entry_fine : (s : State) (p : ℕ) (x : Process) (text : List Ch) (rest : List Item) → AllFine rest → AllFine (entry_of s p x text rest)
entry_fine s p x [] rest h = h
entry_fine s p x (c ∷ text) rest h = (tt, h)

entry_stacked : (s : State) (p : ℕ) (x : Process) (text : List Ch) (rest : List Item) (ks : List (ℕ × ℕ)) → Stacked rest ks → Stacked (entry_of s p x text rest) ks
entry_stacked s p x [] rest ks h = h
entry_stacked s p x (c ∷ text) rest ks h = h

drain_well : (s : State) (w : Waiting) (target : Target) (rest : List Item) (p : ℕ) (x : Process) → Ready s rest → AnswerWell s (drain s w target rest p x)
drain_well s w target rest p x r =
    let text : List Ch = more_characters (decoded x.coding (read_so_far x)) (all_decoded x.coding (read_so_far x)) in
    let f : Process → Process = (λ y. record y { drained = true }) in
    well_same s (change_process p f (asked_more s)) (entry_of s p x text (Wait w target ∷ rest)) r.editor (change_editor p f (asked_more s)) (entry_fine s p x text (Wait w target ∷ rest) (tt, r.fine)) (entry_stacked s p x text (Wait w target ∷ rest) (kinds s) r.stacked)

read_well : (s : State) (w : Waiting) (target : Target) (rest : List Item) (p : ℕ) (x : Process) (a : Answer) → Ready s rest → AnswerWell s (read_answer s w target rest p x a)
read_well s w target rest p x (Bytes bytes) r = go (is_room bytes)
  where
    text : List Ch
    text = more_characters (decoded x.coding (read_so_far x)) (decoded x.coding (read_so_far x ++ bytes))

    f : Process → Process
    f y = record y { bytes = Some (read_so_far x ++ bytes) }

    work : List Item
    work = Wait (record w { counted = w.counted || counts w p }) target ∷ rest

    go : (v : Bool) → AnswerWell s (hear v s w target rest p x bytes)
    go false = tt
    go true = well_same s (change_process p (λ y. record y { bytes = Some (read_so_far x ++ bytes) }) (asked_more s)) (entry_of s p x text work) r.editor (change_editor p (λ y. record y { bytes = Some (read_so_far x ++ bytes) }) (asked_more s)) (entry_fine s p x text work (tt, r.fine)) (entry_stacked s p x text work (kinds s) r.stacked)
read_well s w target rest p x Answer.Nothing r = well_same s (asked_more s) (Wait w target ∷ rest) r.editor refl (tt, r.fine) r.stacked
read_well s w target rest p x End r = drain_well s w target rest p x r
read_well s w target rest p x Answer.Failed r = drain_well s w target rest p x r
read_well s w target rest p x _ r = tt

ends_well : (s t : State) (p : ℕ) (x : Process) (status : Status) (text : List ℕ) (rest : List Item) → Ready s rest → t.editor ≡ s.editor → Well s.editor (ends t p x status text rest).config
ends_well s t p x status text rest r q = well_same s (change_process p (λ y. record y { status = status }) t) _ r.editor (change_editor p (λ y. record y { status = status }) t ∙ q) (tt, r.fine) r.stacked

end_well : (s : State) (w : Waiting) (target : Target) (rest : List Item) (p : ℕ) (x : Process) (a : Answer) → Ready s rest → AnswerWell s (end_answer s w target rest p x a)
end_well s w target rest p x (Code n) r = ends_well s (asked_more s) p x (Status.Exited n) (exit_text n) (Wait w target ∷ rest) (record { editor = r.editor; fine = (tt, r.fine); stacked = r.stacked }) refl
end_well s w target rest p x Signal r = ends_well s (asked_more s) p x Signalled (codes "killed\n") (Wait w target ∷ rest) (record { editor = r.editor; fine = (tt, r.fine); stacked = r.stacked }) refl
end_well s w target rest p x Answer.Failed r = ends_well s (asked_more s) p x Status.Lost (codes "failed\n") (Wait w target ∷ rest) (record { editor = r.editor; fine = (tt, r.fine); stacked = r.stacked }) refl
end_well s w target rest p x Running r = well_same s (asked_more s) (Wait w target ∷ rest) r.editor refl (tt, r.fine) r.stacked
end_well s w target rest p x _ r = tt

ask_well : (s : State) (w : Waiting) (target : Target) (rest : List Item) (p : ℕ) → Ready s rest → StepWell s (ask_process s w target rest p)
ask_well s w target rest p r = go (may_ask s) (process s p)
  where
    drained : (x : Process) (b : Bool) → StepWell s (ask_next b s w target rest p x)
    drained x true = λ a. end_well s w target rest p x a r
    drained x false = λ a. read_well s w target rest p x a r

    go : (b : Bool) (o : Option Process) → StepWell s (ask_if b o s w target rest p)
    go false o = well_same s s (Refuse ExchangesSpent ∷ rest) r.editor refl (tt, r.fine) r.stacked
    go true None = well_same s s rest r.editor refl r.fine r.stacked
    go true (Some x) = drained x x.drained

wait_well : (s : State) (w : Waiting) (target : Target) (rest : List Item) → Ready s rest → StepWell s (wait s w target rest)
wait_well s w target rest r = go w.counted (target_is_eligible s w) (from_eligible s w w.asking) (eligible s w) w.rounds
  where
    answer : (v : Value) → StepWell s (on s (GiveAnswer v target ∷ rest))
    answer v = well_same s s (GiveAnswer v target ∷ rest) r.editor refl (tt, r.fine) r.stacked

    go : (counted fit : Bool) (asking all : List ℕ) (rounds : ℕ) → StepWell s (wait_case counted fit asking all rounds s w target rest)
    go true fit asking all rounds = answer T
    go false false asking all rounds = answer Nil
    go false true (p ∷ more) all rounds = ask_well s (record w { asking = more }) target rest p r
    go false true [] [] rounds = answer Nil
    go false true [] (p ∷ more) zero = answer Nil
    go false true [] (p ∷ more) (suc n) = well_same s s (Wait (record w { rounds = n; asking = p ∷ more }) target ∷ rest) r.editor refl (tt, r.fine) r.stacked

killed_well : (s : State) (n : Next) (a : Answer) → Well s.editor n.config → AnswerWell s (kill_answer n a)
killed_well s n Killed h = h
killed_well s n Answer.Failed h = h
killed_well s n _ h = tt

delete_well : (s : State) (p : ℕ) (rest : List Item) → Ready s rest → StepWell s (delete s p rest)
delete_well s p rest r = go (process s p)
  where
    status_of : (x : Process) (k : Status) → StepWell s (delete_running k s p x rest)
    status_of x Runs = λ a. killed_well s (ends s p x Signalled (codes "killed\n") rest) a (ends_well s s p x Signalled (codes "killed\n") rest r refl)
    status_of x _ = well_same s s rest r.editor refl r.fine r.stacked

    go : (o : Option Process) → StepWell s (delete_one s p o rest)
    go None = well_same s s rest r.editor refl r.fine r.stacked
    go (Some x) = status_of x x.status

kill_well : (s : State) (b : ℕ) (target : Target) (rest : List Item) → Ready s rest → StepWell s (kill_at_end s b target rest)
kill_well s b target rest r = go (is_live s.editor b)
  where
    x : Steady s.editor (killed b s.editor)
    x = killed_steady b s.editor r.editor

    go : (v : Bool) → StepWell s (kill_live v s b target rest)
    go false = well_same s s (GiveAnswer Nil target ∷ rest) r.editor refl (tt, r.fine) r.stacked
    go true = unless_well (must_be_replaceable s.editor b ∷ []) s rest (on (with_editor (killed b s.editor) s) (GiveAnswer T target ∷ rest)) r
        (record { advances = x.advances; work = (tt, r.fine); stack = subst (λ ks. Stacked rest ks) (sym x.same_shapes) r.stacked })

finish_well : (program : Program) (s : State) (p : ℕ) → GoodEditor s.editor → StepWell s (finish program s p)
finish_well program s p g = go (process s p)
  where
    next : StepWell s (on s (Finish (p + 1) ∷ []))
    next = well_same s s (Finish (p + 1) ∷ []) g refl (tt, tt) tt

    status_of : (x : Process) (k : Status) → StepWell s (finish_running program k s p x)
    status_of x Runs = λ a. killed_well s (says program s (KilledLast p) s (Finish (p + 1) ∷ [])) a next
    status_of x _ = next

    go : (o : Option Process) → StepWell s (finish_one program s p o)
    go None = well_same s s (WriteDump ∷ []) g refl (tt, tt) tt
    go (Some x) = status_of x x.status

-- EACH ITEM
item_well : (program : Program) (bound : ℕ) (s : State) (rest : List Item) (item : Item) → GoodEditor s.editor → WorkFine s.editor (item ∷ rest) → Stacked (item ∷ rest) (kinds s) → StepWell s (item_step program bound s rest item)
item_well program bound s rest (Top NoForms) g f k = well_same s s (Finish 0 ∷ []) g refl (tt, tt) tt
item_well program bound s rest (Top (Then form forms)) g f k = well_same s s (DoForm form ∷ Top forms ∷ rest) g refl (tt, (tt, f.1)) k
item_well program bound s rest (Body NoForms) g f k = well_same s s rest g refl f.1 k
item_well program bound s rest (Body (Then form forms)) g f k = well_same s s (DoForm form ∷ Body forms ∷ rest) g refl (tt, (tt, f.1)) k
item_well program bound s rest (DoForm form) g f k = form_well s rest form (record { editor = g; fine = f.1; stacked = k })
item_well program bound s rest (MakeCall prim args target) g f k = call_well program bound s target rest prim args (record { editor = g; fine = f.1; stacked = k })
item_well program bound s rest (Leave kept) g f k =
    let x : Rests s (restored kept s) (left_kinds kept (kinds s)) = restored_rests kept s g in
    well_settled s.editor (restored kept s) rest g x.settles f.1 (subst (λ ks. Stacked rest ks) (sym x.same_kinds) (leave_stacked kept rest (kinds s) k))
item_well program bound s rest (GiveAnswer v target) g f k = give_well program s v target rest (record { editor = g; fine = f.1; stacked = k })
item_well program bound s rest (Refuse y) g f k = dropped_well y rest s.editor s g (settles_self s.editor g) f.1 k
item_well program bound s rest (MakeChange c) g f k = change_well s c rest (record { editor = g; fine = f.1; stacked = k }) f.0
item_well program bound s rest (Hooks kind [] args) g f k = well_same s s rest g refl f.1 k
item_well program bound s rest (Hooks kind (n ∷ names) args) g f k = well_same s s (Enter kind (Some n) args ∷ Hooks kind names args ∷ rest) g refl (tt, (tt, f.1)) k
item_well program bound s rest (Calm old) g f k = well_same s (record s { inhibited = old }) rest g refl f.1 k
item_well program bound s rest (CommitChange c) g f k = commit_well s c rest g f.0 f.1 k.0 k.1
item_well program bound s rest (Enter kind handler args) g f k = body_well program (record s { depth = s.depth + 1 }) kind handler args (Exit kind handler s.editor.current false ∷ rest) (record { editor = g; fine = (tt, f.1); stacked = k })
item_well program bound s rest (Native i args past) g f k = native_well program s i args past rest (record { editor = g; fine = f.1; stacked = k })
item_well program bound s rest (Called i args past) g f k = well_same s s rest g refl f.1 k
item_well program bound s rest (Exit kind handler c faulted) g f k =
    let x : Rests s (left_state s c) (kinds s) = left_settles s c g in
    ended_well kind faulted s (left_state s c) rest g x.settles f.1 (subst (λ ks. Stacked rest ks) (sym x.same_kinds) k)
item_well program bound s rest (Wait w target) g f k = wait_well s w target rest (record { editor = g; fine = f.1; stacked = k })
item_well program bound s rest (Delete p) g f k = delete_well s p rest (record { editor = g; fine = f.1; stacked = k })
item_well program bound s rest (Item.KillBuffer b target) g f k = kill_well s b target rest (record { editor = g; fine = f.1; stacked = k })
item_well program bound s rest (Finish p) g f k = finish_well program s p g
item_well program bound s rest WriteDump g f k = well_same s s [] g refl tt tt

-- a step from a good configuration
pub step_well : (program : Program) (bound : ℕ) (c : Config) → GoodConfig c → StepWell c.state (step program bound c)
step_well program bound c g = go c.work g.work g.stack
  where
    go : (work : List Item) → WorkFine c.state.editor work → Stacked work (kinds c.state) → StepWell c.state (elim work [ [] ↦ Ended | item ∷ rest ↦ item_step program bound c.state rest item ])
    go [] f k = tt
    go (item ∷ rest) f k = item_well program bound c.state rest item g.editor f k

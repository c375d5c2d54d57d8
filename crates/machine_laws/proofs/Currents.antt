-- The current buffer behind calls and handlers: the one of before, unless it was killed.
use Rattle.std.proofs.Common.{◌≡◌, ◌⊎◌, inl, inr, ℕ, zero, suc, ◌+◌, ◌≤◌, ◌<◌, Bool, true, false, List, [], ◌∷◌, ◌++◌, length, map, refl, ap, sym, ◌∙◌, subst, arith}
use Rattle.std.specs.Prelude.{◌==◌, if◌then◌else◌, Option, Some, None, is_some, unwrap_or, slice_get, slice_set, drop, codes}
use Rattle.std.proofs.lemmas.Bool.{eqb-true, false≢true}
use Rattle.text_model.specs.Characters.{Ch}
use Rattle.text_model.specs.Marks.{Pending, leave_buffer}
use Rattle.text_model.specs.Undo.{passed, with_boundary, started as start_of, disabled, enabled}
use Rattle.text_model.specs.Commit.{Buffer, reset, undone_groups}
use Rattle.text_model.proofs.Cases.{by_test}
use Rattle.editor_model.specs.Values.{Value, Nil, T, Int, Str, TheBuffer, TheMarker, at_place, Fault, Reply, Answered, Prim, SetBuffer, GetBufferCreate, GenerateNewBuffer, RenameBuffer, SetBufferModifiedP, GotoChar, NarrowToRegion, Widen, MakeMarker, PointMarker, CopyMarker, SetMarker, SetMarkerInsertionType, MakeOverlay, OverlayPut, MoveOverlay, DeleteOverlay, UndoBoundary, UndoStart, BufferDisableUndo, BufferEnableUndo, StartProcess, KillBuffer, SetProcessFilter, SetProcessSentinel, SetProcessBuffer, SetProcessCodingSystem, ProcessSendString, ProcessSendEof, Script, SetBufferReadOnly}
use Rattle.editor_model.specs.Editor.{Editor, Live, live, is_live, find, live_from, scratch, with_buffer, change_site, change_buffer, killed, buffer_at, register, with_register}
use Rattle.editor_model.specs.Arguments.{arg, flag, string_of, name_of, buffer_of, place, from_of, to_of}
use Rattle.editor_model.specs.Answers.{first_fault, applied_of, What, Put, Props, UndoGroups, Change}
use Rattle.editor_model.specs.BufferCalls.{found_or_made, get_buffer_create}
use Rattle.editor_model.specs.MarkerCalls.{copy_marker}
use Rattle.editor_model.specs.Commits.{mark_to, put_site, changed, commit_of, commit_tests}
use Rattle.editor_model.specs.TextCalls.{point_at, narrowed, widened}
use Rattle.editor_model.specs.Prims.{Manner, OnlyAsks, SetsState, ChangesText, ConcernsHandlers, manner_of}
use Rattle.editor_model.specs.Table.{Commit, Committed, Done, Failed, Prepared, Changes, Quiet, Nothing, Barred, query, apply, prepare, commit}
use Rattle.plain_machine.specs.Exchanges.{Exchange, Ask, Answer, Started, Bytes, Code, End, Signal, Running, Sent, Broken, Closed, Killed}
use Rattle.plain_machine.specs.State.{State, Process, Status, Runs, Signalled, Exited, Lost, Program, hooks_of, process, change_process, read_so_far}
use Rattle.plain_machine.specs.Lines.{Kind, OfBefore, OfAfter, OfFilter, OfSentinel}
use Rattle.plain_machine.specs.Items.{Item, MakeCall, GiveAnswer, Refuse, MakeChange, Hooks, Calm, CommitChange, Enter, Called, Exit, Wait, Delete, Target, Nowhere, ToName, ToNative, Waiting, Said, Config, Next, Step, Goes, Asks, Ended}
use Rattle.plain_machine.specs.Calls.{on, answered, unless_fault, with_editor, change_call, call, call_by, process_effect, spawned, spawned_child, started, is_new_child, send, sent_answer, send_eof, closed_answer, with_input_closed, with_filter, with_sentinel, of_buffer, process_buffer, with_coding}
use Rattle.plain_machine.specs.Refusals.{process_tests, may_ask, must_be_replaceable}
use Rattle.plain_machine.specs.Arguments.{process_of, filter_of, sentinel_of, child_of, is_closed, encoded, running_in, is_new_name, coding_of}
use Rattle.plain_machine.specs.Forms.{at_kept, saved_of, popped, after_commit, bracket, with_saved, make_change, give, commit_change, dropped, kept_reply, assigned, scope_of}
use Rattle.plain_machine.specs.Handling.{enter, exit, left_state, ended_handler, without_hooks_item}
use Rattle.plain_machine.specs.Waits.{wait, wait_case, ask_process, ask_if, ask_next, read_answer, hear, drain, end_answer, ends, entry_of, asked_more, is_room, from_eligible, eligible, target_is_eligible, delete, delete_one, delete_running, kill_answer, kill_at_end, kill_live}
use Rattle.plain_machine.specs.Step.{step}
use Rattle.plain_machine.specs.Run.{Reaches, start, given, Calls, Handles}
use Rattle.plain_machine.proofs.Composed.{over_runs}
use Rattle.machine_laws.specs.Brackets.{Levels, levels, names_current, CurrentAgain}
use Rattle.machine_laws.proofs.GoodConfig.{GoodConfig, Well}
use Rattle.machine_laws.proofs.Basics.{set_length}
use Rattle.machine_laws.proofs.Advancing.{live_below, with_buffer_old}
use Rattle.machine_laws.proofs.Committing.{some_of}
use Rattle.machine_laws.proofs.Returning.{goes_well, asks_well}
use Rattle.machine_laws.proofs.Working.{change_editor}
use Rattle.machine_laws.proofs.Levels.{exit_of, Above, above, AnswerStays, StepStays, step_stays}
use Rattle.machine_laws.proofs.CallRuns.{one_deeper, body_inside, ended_editor, left_current, goes_is, never_asks}
use Rattle.machine_laws.proofs.Lively.{site_current, protected_current}
use Rattle.machine_laws.proofs.Soundness.{editors_are_sound}

-- EDITORS: which buffer is current, behind each change
buffer_current : (id : ℕ) (f : Buffer → Buffer) (e : Editor) → (change_buffer id f e).current ≡ e.current
buffer_current id f e = site_current id (λ site. record site { buffer = f site.buffer }) e

of_fault : (o : Option Fault) (e new : Editor) (v : Value) → new.current ≡ e.current → (applied_of o e new v).editor.current ≡ e.current
of_fault None e new v q = q
of_fault (Some f) e new v q = refl

found_current : (e : Editor) (name : Value) (o : Option ℕ) → (found_or_made e name o).editor.current ≡ e.current
found_current e name None = of_fault _ e _ _ refl
found_current e name (Some id) = refl

create_current : (e : Editor) (v : Value) → (get_buffer_create e v).editor.current ≡ e.current
create_current e (TheBuffer b) = refl
create_current e (Str s) = found_current e (Str s) (find e (name_of (Str s)))
create_current e _ = refl

copy_current : (e : Editor) (x kind : Value) → (copy_marker e x kind).editor.current ≡ e.current
copy_current e Nil kind = of_fault _ e _ _ refl
copy_current e (Int i) kind = of_fault _ e _ _ refl
copy_current e (TheMarker k) kind = of_fault _ e _ _ refl
copy_current e _ kind = refl

apply_current : (e : Editor) (prim : Prim) (args : List Value) → names_current prim ≡ false → (apply e prim args).editor.current ≡ e.current
apply_current e SetBuffer args h = absurd (false≢true (sym h))
apply_current e GetBufferCreate args h = create_current e (arg args 0)
apply_current e GenerateNewBuffer args h = of_fault _ e _ _ refl
apply_current e RenameBuffer args h = of_fault _ e _ _ refl
apply_current e SetBufferModifiedP args h = buffer_current e.current (λ b. record b { modified = flag (arg args 0) }) e
apply_current e SetBufferReadOnly args h = protected_current e.current (flag (arg args 0)) e
apply_current e GotoChar args h = of_fault _ e _ _ (buffer_current e.current (point_at (place e (arg args 0))) e)
apply_current e NarrowToRegion args h = of_fault _ e _ _ (buffer_current e.current (narrowed (from_of e (arg args 0) (arg args 1)) (to_of e (arg args 0) (arg args 1))) e)
apply_current e Widen args h = buffer_current e.current widened e
apply_current e MakeMarker args h = of_fault _ e _ _ refl
apply_current e PointMarker args h = of_fault _ e _ _ refl
apply_current e CopyMarker args h = copy_current e (arg args 0) (arg args 1)
apply_current e SetMarker args h = of_fault _ e _ _ refl
apply_current e SetMarkerInsertionType args h = of_fault _ e _ _ refl
apply_current e MakeOverlay args h = of_fault _ e _ _ refl
apply_current e OverlayPut args h = of_fault _ e _ _ refl
apply_current e MoveOverlay args h = of_fault _ e _ _ refl
apply_current e DeleteOverlay args h = of_fault _ e _ _ refl
apply_current e UndoBoundary args h = buffer_current e.current (λ b. record b { undo = with_boundary b.undo }) e
apply_current e UndoStart args h = of_fault _ e _ _ (buffer_current e.current (λ b. record b { undo = start_of b.undo }) e)
apply_current e BufferDisableUndo args h = buffer_current e.current (λ b. record b { undo = disabled b.undo }) e
apply_current e BufferEnableUndo args h = buffer_current e.current (λ b. record b { undo = enabled b.undo }) e
apply_current e _ args h = refl

marked_current : (mark : Option ℕ) (id at : ℕ) (e : Editor) → (mark_to mark id at e).current ≡ e.current
marked_current None id at e = refl
marked_current (Some k) id at e = refl

what_current : (e : Editor) (id from to : ℕ) (what : What) → (changed e id from to what).current ≡ e.current
what_current e id from to (Put piece all point_after widen mark) =
    marked_current mark id (from + length piece) (change_site id (put_site id from to piece all point_after widen) e) ∙ site_current id (put_site id from to piece all point_after widen) e
what_current e id from to (Props edit) = buffer_current id (reset edit from to) e
what_current e id from to (UndoGroups n) = site_current id (undone_groups id (passed n (buffer_at e id).undo)) e

commit_current : (e : Editor) (c : Change) → (commit e c).editor.current ≡ e.current
commit_current e c = go (first_fault (commit_tests e c.buffer c.what))
  where
    go : (o : Option Fault) → (commit_of o e (changed e c.buffer c.from c.to c.what) c).editor.current ≡ e.current
    go None = what_current e c.buffer c.from c.to c.what
    go (Some f) = refl

-- where no buffer lives there is none of any number
none_lives : (k : ℕ) (bs : List (Option Live)) → live_from k bs ≡ [] → (i : ℕ) → unwrap_or (slice_get bs i) None ≡ None
none_lives k [] h i = refl
none_lives k (None ∷ bs) h zero = refl
none_lives k (None ∷ bs) h (suc i) = none_lives (k + 1) bs h i
none_lives k (Some l ∷ bs) h i = cc

set_none : (bs : List (Option Live)) (i : ℕ) → unwrap_or (slice_get (slice_set bs i None) i) None ≡ None
set_none [] i = refl
set_none (x ∷ bs) zero = refl
set_none (x ∷ bs) (suc i) = set_none bs i

-- behind the killing of a buffer the one that was current is so still, or lives no more
killed_current : (e : Editor) (id : ℕ) → e.current < length e.buffers → ((killed id e).current ≡ e.current) ⊎ (live (killed id e) e.current ≡ None)
killed_current e id born = go (live_from 0 gone.buffers) refl (e.current == id) refl
  where
    gone : Editor
    gone = record e { buffers = slice_set e.buffers id None; marks = leave_buffer id e.marks }

    go : (ids : List ℕ) → live_from 0 gone.buffers ≡ ids → (v : Bool) → (e.current == id) ≡ v → let new : Editor = elim ids [
      | [] ↦ record (with_buffer scratch gone) { current = length gone.buffers }
      | n ∷ more ↦ if v then record gone { current = n } else gone
    ] in (new.current ≡ e.current) ⊎ (live new e.current ≡ None)
    go [] q v r =
        let size : length gone.buffers ≡ length e.buffers = set_length e.buffers id None in
        let within : e.current < length gone.buffers = omega arith in
        inr (with_buffer_old scratch gone e.current within ∙ none_lives 0 gone.buffers q e.current)
    go (n ∷ more) q true r = inr (subst (λ i. live gone i ≡ None) (sym (eqb-true e.current id r)) (set_none e.buffers id))
    go (n ∷ more) q false r = inl refl

-- STATES
changed_current : (p : ℕ) (f : Process → Process) (s : State) → (change_process p f s).editor.current ≡ s.editor.current
changed_current p f s = ap (λ (e : Editor). e.current) (change_editor p f s)

started_current : (s : State) (name b : Value) (child : ℕ) → (started s name b child).editor.current ≡ s.editor.current
started_current s name b child = by_test (λ (e : Editor). e.current ≡ s.editor.current) (is_new_name s.editor b) (with_buffer (name_of b) s.editor) s.editor (λ q. refl) (λ q. refl)

assigned_current : (name : ℕ) (v : Value) (s : State) → (assigned name v s).editor.current ≡ s.editor.current
assigned_current name v s = go (register (scope_of s) name)
  where
    go : (o : Option Value) → let t : State = elim o [
      | Some old ↦ record s { scopes = with_register name v (scope_of s) ∷ drop 1 s.scopes }
      | None ↦ record s { editor = record s.editor { registers = with_register name v s.editor.registers } }
    ] in t.editor.current ≡ s.editor.current
    go (Some old) = refl
    go None = refl

-- ITEMS that a call or a handler puts in front, but for those of handlers that were entered
abbrev pub Owned : List Item → Type 0
Owned [] = Unit {0}
Owned (MakeCall prim args target ∷ work) = (names_current prim ≡ false) × Owned work
Owned (GiveAnswer v target ∷ work) = Owned work
Owned (Refuse f ∷ work) = Owned work
Owned (MakeChange c ∷ work) = Owned work
Owned (Hooks kind names args ∷ work) = Owned work
Owned (Calm old ∷ work) = Owned work
Owned (CommitChange c ∷ work) = Owned work
Owned (Enter kind name args ∷ work) = Owned work
Owned (Wait w target ∷ work) = Owned work
Owned (Delete p ∷ work) = Owned work
Owned (Item.KillBuffer n target ∷ work) = Owned work
Owned _ = ⊥

replied_owned : (y : Reply) (rest : List Item) → Owned rest → Owned (kept_reply y rest)
replied_owned y [] r = r
replied_owned y (Called i args past ∷ rest) r = absurd r
replied_owned y (_ ∷ rest) r = r

unhooked_owned : (rest : List Item) → Owned rest → Owned (without_hooks_item rest)
unhooked_owned [] r = r
unhooked_owned (Hooks kind names args ∷ rest) r = r
unhooked_owned (_ ∷ rest) r = r

ended_owned : (kind : Kind) (faulted : Bool) (s : State) (rest : List Item) → Owned rest → Owned (ended_handler kind faulted s rest).work
ended_owned (OfFilter p) faulted s rest r = r
ended_owned (OfSentinel p) faulted s rest r = r
ended_owned (OfBefore n) true s rest r = unhooked_owned rest r
ended_owned (OfBefore n) false s rest r = r
ended_owned (OfAfter n) true s rest r = unhooked_owned rest r
ended_owned (OfAfter n) false s rest r = r

deletes_owned : (ps : List ℕ) (n : ℕ) (target : Target) (rest : List Item) → Owned rest → Owned (map Delete ps ++ (Item.KillBuffer n target ∷ rest))
deletes_owned [] n target rest r = r
deletes_owned (p ∷ ps) n target rest r = deletes_owned ps n target rest r

-- WHERE A RUN STANDS: at the depth of the call or handler, with this buffer current; in a handler that was entered there while
-- it was; or the buffer lives no more.
data Comes (b : ℕ) (c : Config) : Type 0 where
  own : Owned c.work → c.state.editor.current ≡ b → Comes b c
  inside : (l : Levels) (kind : Kind) (name : Option ℕ) (rest : List Item) → Owned rest → Above l (exit_of kind name b rest) c → Comes b c
  gone : live c.state.editor b ≡ None → Comes b c

module _ (b : ℕ) where
  abbrev AnswerOwn : Option Next → Type 0
  AnswerOwn None = Unit {0}
  AnswerOwn (Some n) = Comes b n.config

  abbrev StepOwn : Step → Type 0
  StepOwn (Goes n) = Comes b n.config
  StepOwn (Asks ask next) = (answer : Answer) → AnswerOwn (next answer)
  StepOwn Ended = Unit {0}

  dropped_own : (f : Fault) (rest : List Item) (s : State) → Owned rest → s.editor.current ≡ b → Comes b (dropped f rest s)
  dropped_own f [] s r h = own tt h
  dropped_own f (MakeCall prim args target ∷ rest) s r h = dropped_own f rest s r.1 h
  dropped_own f (GiveAnswer v target ∷ rest) s r h = dropped_own f rest s r h
  dropped_own f (Refuse g ∷ rest) s r h = dropped_own f rest s r h
  dropped_own f (MakeChange c ∷ rest) s r h = dropped_own f rest s r h
  dropped_own f (Hooks kind names args ∷ rest) s r h = dropped_own f rest s r h
  dropped_own f (Calm old ∷ rest) s r h = dropped_own f rest s r h
  dropped_own f (CommitChange c ∷ rest) s r h = dropped_own f rest (popped s) r h
  dropped_own f (Enter kind name args ∷ rest) s r h = dropped_own f rest s r h
  dropped_own f (Wait w target ∷ rest) s r h = dropped_own f rest s r h
  dropped_own f (Delete p ∷ rest) s r h = dropped_own f rest s r h
  dropped_own f (Item.KillBuffer n target ∷ rest) s r h = dropped_own f rest s r h
  dropped_own f _ s r h = absurd r

  -- EACH ITEM, in front of others
  module _ (t : State) (h : t.editor.current ≡ b) (rest : List Item) (r : Owned rest) where
    -- CALLS
    answered_own : (new : State) (target : Target) (y : Reply) → new.editor.current ≡ b → StepOwn (answered new target y rest)
    answered_own new target (Answered v) q = own r q
    answered_own new target (Reply.Refused f) q = own r q

    unless_own : (o : Option Fault) (x : Step) → StepOwn x → StepOwn (unless_fault o t rest x)
    unless_own (Some f) x c = own r h
    unless_own None x c = c

    change_own : (target : Target) (p : Prepared) → StepOwn (change_call t target rest p)
    change_own target (Changes c) = own r h
    change_own target (Quiet c) = own r (commit_current t.editor c ∙ h)
    change_own target (Nothing v) = own r h
    change_own target (Barred f) = own r h

    spawned_own : (target : Target) (name v : Value) (answer : Answer) → AnswerOwn (spawned t target rest name v answer)
    spawned_own target name v (Started child) = go (is_new_child t child)
      where
        go : (new : Bool) → AnswerOwn (spawned_child new t target rest name v child)
        go true = own r (started_current t name v child ∙ h)
        go false = tt
    spawned_own target name v Answer.Refused = own r h
    spawned_own target name v _ = tt

    sent_own : (target : Target) (size : ℕ) (answer : Answer) → AnswerOwn (sent_answer t target rest size answer)
    sent_own target size Sent = own r h
    sent_own target size Broken = own r h
    sent_own target size _ = tt

    send_own : (target : Target) (child : ℕ) (bytes : List ℕ) → StepOwn (send t target rest child bytes)
    send_own target child [] = own r h
    send_own target child (x ∷ bytes) = sent_own target (length (x ∷ bytes))

    closed_own : (target : Target) (p : ℕ) (answer : Answer) → AnswerOwn (closed_answer t target rest p answer)
    closed_own target p Closed = own r (changed_current p with_input_closed (asked_more t) ∙ h)
    closed_own target p _ = tt

    eof_own : (target : Target) (p : ℕ) (closed : Bool) → StepOwn (send_eof t target rest p closed)
    eof_own target p true = own r h
    eof_own target p false = closed_own target p

    set_own : (target : Target) (p : ℕ) (f : Process → Process) (v : Value) → StepOwn (on (change_process p f t) (GiveAnswer v target ∷ rest))
    set_own target p f v = own r (changed_current p f t ∙ h)

    effect_own : (target : Target) (prim : Prim) (args : List Value) → StepOwn (process_effect t target rest prim args)
    effect_own target KillBuffer args = own (deletes_owned (running_in t (buffer_of t.editor (arg args 0))) (buffer_of t.editor (arg args 0)) target rest r) h
    effect_own target StartProcess args = spawned_own target (arg args 0) (arg args 1)
    effect_own target SetProcessFilter args = set_own target (process_of t (arg args 0)) (with_filter (filter_of (arg args 1))) (arg args 1)
    effect_own target SetProcessSentinel args = set_own target (process_of t (arg args 0)) (with_sentinel (sentinel_of (arg args 1))) (arg args 1)
    effect_own target SetProcessBuffer args = set_own target (process_of t (arg args 0)) (of_buffer (process_buffer t.editor (arg args 1))) (arg args 1)
    effect_own target SetProcessCodingSystem args = set_own target (process_of t (arg args 0)) (with_coding (coding_of (arg args 1))) (arg args 1)
    effect_own target ProcessSendString args = send_own target (child_of t (process_of t (arg args 0))) (encoded (string_of (arg args 1)))
    effect_own target ProcessSendEof args = eof_own target (process_of t (arg args 0)) (is_closed t (process_of t (arg args 0)))
    effect_own target _ args = own r h

    call_own : (program : Program) (bound : ℕ) (target : Target) (prim : Prim) (args : List Value) → names_current prim ≡ false → StepOwn (call program bound t target rest prim args)
    call_own program bound target prim args n = go (manner_of prim)
      where
        go : (m : Manner) → StepOwn (call_by m program bound t target rest prim args)
        go OnlyAsks = answered_own t target (query t.editor prim args) h
        go SetsState = answered_own (with_editor (apply t.editor prim args).editor t) target (apply t.editor prim args).reply (apply_current t.editor prim args n ∙ h)
        go ChangesText = change_own target (prepare t.editor prim args)
        go ConcernsHandlers = unless_own (first_fault (process_tests program bound t prim args)) (process_effect t target rest prim args) (effect_own target prim args)

    -- WAITS
    heard_own : (s : State) (p : ℕ) (x : Process) (text : List Ch) (w : Waiting) (target : Target) → s.editor.current ≡ b → Comes b (record { state = s; work = entry_of t p x text (Wait w target ∷ rest) })
    heard_own s p x [] w target q = own r q
    heard_own s p x (c ∷ text) w target q = own r q

    drain_own : (w : Waiting) (target : Target) (p : ℕ) (x : Process) → AnswerOwn (drain t w target rest p x)
    drain_own w target p x = heard_own _ p x _ w target (changed_current p (λ y. record y { drained = true }) (asked_more t) ∙ h)

    read_own : (w : Waiting) (target : Target) (p : ℕ) (x : Process) (answer : Answer) → AnswerOwn (read_answer t w target rest p x answer)
    read_own w target p x (Bytes bytes) = go (is_room bytes)
      where
        go : (fits : Bool) → AnswerOwn (hear fits t w target rest p x bytes)
        go false = tt
        go true = heard_own _ p x _ _ target (changed_current p (λ y. record y { bytes = Some (read_so_far x ++ bytes) }) (asked_more t) ∙ h)
    read_own w target p x Answer.Nothing = own r h
    read_own w target p x End = drain_own w target p x
    read_own w target p x Answer.Failed = drain_own w target p x
    read_own w target p x _ = tt

    end_own : (w : Waiting) (target : Target) (p : ℕ) (x : Process) (answer : Answer) → AnswerOwn (end_answer t w target rest p x answer)
    end_own w target p x (Code n) = own r (changed_current p (λ y. record y { status = Exited n }) (asked_more t) ∙ h)
    end_own w target p x Signal = own r (changed_current p (λ y. record y { status = Signalled }) (asked_more t) ∙ h)
    end_own w target p x Answer.Failed = own r (changed_current p (λ y. record y { status = Lost }) (asked_more t) ∙ h)
    end_own w target p x Running = own r h
    end_own w target p x _ = tt

    ask_own : (w : Waiting) (target : Target) (p : ℕ) → StepOwn (ask_process t w target rest p)
    ask_own w target p = go (may_ask t) (process t p)
      where
        by_drained : (x : Process) (drained : Bool) → StepOwn (ask_next drained t w target rest p x)
        by_drained x false = read_own w target p x
        by_drained x true = end_own w target p x

        go : (may : Bool) (o : Option Process) → StepOwn (ask_if may o t w target rest p)
        go false o = own r h
        go true None = own r h
        go true (Some x) = by_drained x x.drained

    wait_own : (w : Waiting) (target : Target) → StepOwn (wait t w target rest)
    wait_own w target = go w.counted (target_is_eligible t w) (from_eligible t w w.asking) (eligible t w) w.rounds
      where
        go : (counted fit : Bool) (asking all : List ℕ) (rounds : ℕ) → StepOwn (wait_case counted fit asking all rounds t w target rest)
        go true fit asking all rounds = own r h
        go false false asking all rounds = own r h
        go false true (p ∷ more) all rounds = ask_own (record w { asking = more }) target p
        go false true [] [] rounds = own r h
        go false true [] (p ∷ more) zero = own r h
        go false true [] (p ∷ more) (suc rounds) = own r h

    -- DELETIONS AND KILLING
    delete_own : (p : ℕ) → StepOwn (delete t p rest)
    delete_own p = go (process t p)
      where
        killed_own : (x : Process) (answer : Answer) → AnswerOwn (kill_answer (ends t p x Signalled (codes "killed\n") rest) answer)
        killed_own x Killed = own r (changed_current p (λ y. record y { status = Signalled }) t ∙ h)
        killed_own x Answer.Failed = own r (changed_current p (λ y. record y { status = Signalled }) t ∙ h)
        killed_own x _ = tt

        by_status : (x : Process) (status : Status) → StepOwn (delete_running status t p x rest)
        by_status x Runs = killed_own x
        by_status x _ = own r h

        go : (o : Option Process) → StepOwn (delete_one t p o rest)
        go None = own r h
        go (Some x) = by_status x x.status

    kill_own : b < length t.editor.buffers → (n : ℕ) (target : Target) → StepOwn (kill_at_end t n target rest)
    kill_own born n target = go (is_live t.editor n)
      where
        after : ((killed n t.editor).current ≡ t.editor.current) ⊎ (live (killed n t.editor) t.editor.current ≡ None) → Comes b (record { state = with_editor (killed n t.editor) t; work = GiveAnswer T target ∷ rest })
        after (inl q) = own r (q ∙ h)
        after (inr q) = gone (subst (λ i. live (killed n t.editor) i ≡ None) h q)

        go : (lives : Bool) → StepOwn (kill_live lives t n target rest)
        go false = own r h
        go true = unless_own (first_fault (must_be_replaceable t.editor n ∷ [])) (on (with_editor (killed n t.editor) t) (GiveAnswer T target ∷ rest))
            (after (killed_current t.editor n (subst (λ i. i < length t.editor.buffers) (sym h) born)))

    -- CHANGES
    make_own : (c : Change) → StepOwn (make_change t c rest)
    make_own c = go t.inhibited
      where
        go : (i : Bool) → Comes b (record { state = record (with_saved (Pending c.buffer c.from c.to ∷ saved_of t) t) { inhibited = true }; work = bracket i (OfBefore c.buffer) (hooks_of t.hooks c.buffer).before (at_place c.from ∷ at_place c.to ∷ []) (CommitChange c ∷ rest) })
        go true = own r h
        go false = own r h

    bracket_owned : (i : Bool) (kind : Kind) (names : List ℕ) (args : List Value) → Owned (bracket i kind names args rest)
    bracket_owned true kind names args = r
    bracket_owned false kind names args = r

    commit_own : (c : Change) → StepOwn (commit_change t c rest)
    commit_own c = go done.committed
      where
        done : Commit
        done = commit t.editor (at_kept c (saved_of t))

        go : (o : Committed) → StepOwn (after_commit done.editor o t c rest)
        go (Failed f) = own r h
        go (Done from to old) = own (bracket_owned t.inhibited _ _ _) (commit_current t.editor (at_kept c (saved_of t)) ∙ h)

    -- REPLIES AND HANDLERS
    give_own : (program : Program) (v : Value) (target : Target) → Comes b (give program t v target rest).config
    give_own program v Nowhere = own r h
    give_own program v (ToName name) = own r (assigned_current name v t ∙ h)
    give_own program v ToNative = own (replied_owned (Answered v) rest r) h

    enter_own : (program : Program) (kind : Kind) (name : Option ℕ) (args : List Value) → Comes b (enter program t kind name args rest).config
    enter_own program kind name args =
        inside (one_deeper (levels t)) kind name rest r (subst (λ i. Above (one_deeper (levels t)) (exit_of kind name i rest) (enter program t kind name args rest).config) h (body_inside program t kind name t.editor.current rest name args))

  -- THE END OF A HANDLER that was entered while the buffer was current
  left_comes : (v : State) (kind : Kind) (faulted : Bool) (rest : List Item) → Owned rest → Comes b (ended_handler kind faulted (left_state v b) rest)
  left_comes v kind faulted rest r = go (live (left_state v b).editor b) refl
    where
      same : (ended_handler kind faulted (left_state v b) rest).state.editor ≡ (left_state v b).editor
      same = ended_editor kind faulted (left_state v b) rest

      go : (o : Option Live) → live (left_state v b).editor b ≡ o → Comes b (ended_handler kind faulted (left_state v b) rest)
      go None q = gone (ap (λ (e : Editor). live e b) same ∙ q)
      go (Some l) q = own (ended_owned kind faulted (left_state v b) rest r) (ap (λ (e : Editor). e.current) same ∙ left_current v b (ap (λ (o : Option Live). is_some o) q))

  -- EACH STEP
  own_item : (program : Program) (bound : ℕ) (t : State) (work : List Item) → b < length t.editor.buffers → t.editor.current ≡ b → Owned work → StepOwn (step program bound (record { state = t; work = work }))
  own_item program bound t [] n h r = tt
  own_item program bound t (MakeCall prim args target ∷ rest) n h r = call_own t h rest r.1 program bound target prim args r.0
  own_item program bound t (GiveAnswer v target ∷ rest) n h r = give_own t h rest r program v target
  own_item program bound t (Refuse f ∷ rest) n h r = dropped_own f rest t r h
  own_item program bound t (MakeChange c ∷ rest) n h r = make_own t h rest r c
  own_item program bound t (Hooks kind [] args ∷ rest) n h r = own r h
  own_item program bound t (Hooks kind (name ∷ names) args ∷ rest) n h r = own r h
  own_item program bound t (Calm old ∷ rest) n h r = own r h
  own_item program bound t (CommitChange c ∷ rest) n h r = commit_own t h rest r c
  own_item program bound t (Enter kind name args ∷ rest) n h r = enter_own t h rest r program kind name args
  own_item program bound t (Wait w target ∷ rest) n h r = wait_own t h rest r w target
  own_item program bound t (Delete p ∷ rest) n h r = delete_own t h rest r p
  own_item program bound t (Item.KillBuffer i target ∷ rest) n h r = kill_own t h rest r n i target
  own_item program bound t _ n h r = absurd r

  module _ (program : Program) (bound : ℕ) where
    goes_comes : (c : Config) (n : Next) → GoodConfig c → b < length c.state.editor.buffers → Comes b c → step program bound c ≡ Goes n → Comes b n.config
    goes_comes c n g k (own r h) e = subst (λ t. StepOwn t) e (own_item program bound c.state c.work k h r)
    goes_comes c n g k (gone d) e = gone ((goes_well program bound c n g e).advances.dead b k d)
    goes_comes c n g k (inside l kind name rest r (above (item ∷ front) faulted w v y)) e =
        inside l kind name rest r (subst (λ t. StepStays l (exit_of kind name b rest) t) e (step_stays l (exit_of kind name b rest) program bound c item front faulted g w v y))
    goes_comes c n g k (inside l kind name rest r (above [] faulted w v y)) e =
        let m : Next = exit program c.state kind name b faulted rest in
        subst (λ (n : Next). Comes b n.config) (goes_is program bound c.state c (Exit kind name b faulted ∷ rest) m n w refl e) (left_comes c.state kind faulted rest r)

    asks_comes : (c : Config) (ask : Ask) (answer : Answer) (next : Answer → Option Next) (n : Next) → GoodConfig c → b < length c.state.editor.buffers → Comes b c → step program bound c ≡ Asks ask next → next answer ≡ Some n → Comes b n.config
    asks_comes c ask answer next n g k (own r h) e f = subst (λ o. AnswerOwn o) f ((subst (λ t. StepOwn t) e (own_item program bound c.state c.work k h r)) answer)
    asks_comes c ask answer next n g k (gone d) e f = gone ((asks_well program bound c ask answer next n g e f).advances.dead b k d)
    asks_comes c ask answer next n g k (inside l kind name rest r (above (item ∷ front) faulted w v y)) e f =
        let a : StepStays l (exit_of kind name b rest) (Asks ask next) = subst (λ t. StepStays l (exit_of kind name b rest) t) e (step_stays l (exit_of kind name b rest) program bound c item front faulted g w v y) in
        inside l kind name rest r (subst (λ o. AnswerStays l (exit_of kind name b rest) o) f (a answer))
    asks_comes c ask answer next n g k (inside l kind name rest r (above [] faulted w v y)) e f =
        absurd (never_asks program bound c.state c (Exit kind name b faulted ∷ rest) (exit program c.state kind name b faulted rest) ask next w refl e)

    -- EACH RUN
    record Kept (c : Config) : Type 0 where
      good : GoodConfig c
      born : b < length c.state.editor.buffers
      comes : Comes b c

    kept_more : (c d : Config) → Kept c → Well c.state.editor d → Comes b d → Kept d
    kept_more c d i w x =
        let k : b < length c.state.editor.buffers = i.born in
        let m : length c.state.editor.buffers ≤ length d.state.editor.buffers = w.advances.longer in
        record { good = record { editor = w.advances.good; work = w.work; stack = w.stack }; born = omega arith; comes = x }

    run_comes : (c d : Config) (xs : List Exchange) (said : List Said) → GoodConfig c → b < length c.state.editor.buffers → Comes b c → Reaches program bound c xs said d → Comes b d
    run_comes c d xs said g k x r = (over_runs program bound (λ ys more z. Kept z)
        (λ ys more z n i h. kept_more z n.config i (goes_well program bound z n i.good h) (goes_comes z n i.good i.born i.comes h))
        (λ ys more z ask answer next n i h e. kept_more z n.config i (asks_well program bound z ask answer next n i.good h e) (asks_comes z ask answer next n i.good i.born i.comes h e))
        r [] [] (record { good = g; born = k; comes = x })).comes

  -- where nothing is left to do, the buffer is current, if it lives
  comes_end : (s : State) → Comes b (record { state = s; work = [] }) → is_live s.editor b ≡ true → s.editor.current ≡ b
  comes_end s (own r h) l = h
  comes_end s (gone d) l = absurd (false≢true (sym (ap (λ (o : Option Live). is_some o) d) ∙ l))
  comes_end s (inside base kind name rest r (above front faulted w v y)) l = absurd (no_work front (Exit kind name b faulted) rest w)
    where
      no_work : (front : List Item) (item : Item) (rest : List Item) → [] ≡ front ++ item ∷ rest → ⊥
      no_work [] item rest e = cc
      no_work (x ∷ front) item rest e = cc

-- the current buffer was made
pub current_born : (program : Program) (bound : ℕ) (script : Script) (c : Config) (xs : List Exchange) (said : List Said) → Reaches program bound (start script) xs said c → c.state.editor.current < length c.state.editor.buffers
current_born program bound script c xs said r =
    let l : (l : Live) × (live c.state.editor c.state.editor.current ≡ Some l) = some_of (live c.state.editor c.state.editor.current) (editors_are_sound program bound script xs said c r).here in
    live_below c.state.editor c.state.editor.current l.0 l.1

pub call_current : (program : Program) (bound : ℕ) (s t : State) (prim : Prim) (args : List Value) (reply : Reply) (xs : List Exchange) (said : List Said) → GoodConfig (record { state = s; work = MakeCall prim args Nowhere ∷ [] }) → s.editor.current < length s.editor.buffers → names_current prim ≡ false →
    Calls program bound prim args s xs said reply t → CurrentAgain s t
call_current program bound s t prim args reply xs said g k n calls = go reply (calls Nowhere [])
  where
    c : Config
    c = record { state = s; work = MakeCall prim args Nowhere ∷ [] }

    go : (y : Reply) → Reaches program bound c xs said (given y Nowhere t []) → CurrentAgain s t
    go (Answered v) r = comes_end s.editor.current t (run_comes s.editor.current program bound c (record { state = t; work = [] }) xs said g k (own (n, tt) refl) r)
    go (Reply.Refused f) r = comes_end s.editor.current t (run_comes s.editor.current program bound c (record { state = t; work = [] }) xs said g k (own (n, tt) refl) r)

pub handler_current : (program : Program) (bound : ℕ) (s t : State) (kind : Kind) (name : Option ℕ) (args : List Value) (faulted : Bool) (xs : List Exchange) (said : List Said) → GoodConfig (record { state = s; work = Enter kind name args ∷ [] }) → s.editor.current < length s.editor.buffers →
    Handles program bound kind name args s xs said faulted t → CurrentAgain s t
handler_current program bound s t kind name args faulted xs said g k handles = by_kind kind faulted refl refl (run_comes s.editor.current program bound c (ended_handler kind faulted t []) xs said g k (own tt refl) (handles []))
  where
    c : Config
    c = record { state = s; work = Enter kind name args ∷ [] }

    -- the end of a handler leaves the editor
    behind : (u : State) → u.editor ≡ t.editor → Comes s.editor.current (record { state = u; work = [] }) → CurrentAgain s t
    behind u q x l = sym (ap (λ (e : Editor). e.current) q) ∙ comes_end s.editor.current u x (ap (λ (e : Editor). is_live e s.editor.current) q ∙ l)

    by_kind : (k : Kind) (f : Bool) → k ≡ kind → f ≡ faulted → Comes s.editor.current (ended_handler kind faulted t []) → CurrentAgain s t
    by_kind k f p q x = go k f (subst (λ f. Comes s.editor.current (ended_handler k f t [])) (sym q) (subst (λ k. Comes s.editor.current (ended_handler k faulted t [])) (sym p) x))
      where
        go : (k : Kind) (f : Bool) → Comes s.editor.current (ended_handler k f t []) → CurrentAgain s t
        go (OfFilter n) f x = behind _ refl x
        go (OfSentinel n) f x = behind _ (ended_editor (OfSentinel n) f t []) x
        go (OfBefore n) true x = behind _ (ended_editor (OfBefore n) true t []) x
        go (OfBefore n) false x = behind _ refl x
        go (OfAfter n) true x = behind _ (ended_editor (OfAfter n) true t []) x
        go (OfAfter n) false x = behind _ refl x

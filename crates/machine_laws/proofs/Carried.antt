-- What each change of an editor keeps holds of the editor in each state of a run.
use Rattle.std.proofs.Common.{◌≡◌, ℕ, zero, suc, ◌+◌, ◌-◌, Bool, true, false, List, [], ◌∷◌, ◌++◌, length, map, drop, refl, ap, sym, subst}
use Rattle.std.specs.Prelude.{Option, Some, None, is_some, nat_lt, codes}
use Rattle.text_model.specs.Places.{clip}
use Rattle.text_model.specs.Properties.{Cell}
use Rattle.text_model.specs.Marks.{Marker, Saved, Excursion, Restriction, Pending}
use Rattle.text_model.specs.Commit.{Buffer}
use Rattle.text_model.proofs.Cases.{by_test}
use Rattle.editor_model.specs.Values.{Value, T, Fault, Reply, Answered, Prim, AddHook, RemoveHook, KillBuffer, StartProcess, SetProcessFilter, SetProcessSentinel, SetProcessBuffer, SetProcessCodingSystem, ProcessSendString, ProcessSendEof, DeleteProcess, AcceptProcessOutput, Form, Forms, NoForms, Then, Do, Setq, In, WhenEq, Block, SaveExcursion, SaveRestriction, SaveCurrentBuffer, InhibitHooks, HandlerDef, equal, Script, InhibitReadOnly}
use Rattle.editor_model.specs.Editor.{Editor, Live, live, is_live, killed, register, with_register, with_buffer, with_marker, change_buffer, new_editor}
use Rattle.editor_model.specs.Arguments.{arg, string_of, name_of, must_be_fewer, must_be_short}
use Rattle.editor_model.specs.Limits.{most_buffers, most_markers}
use Rattle.editor_model.specs.Answers.{Test, first_fault, Change}
use Rattle.editor_model.specs.TextCalls.{prepare_output}
use Rattle.editor_model.specs.Table.{Commit, Committed, query, apply, prepare, Prepared, Changes, Quiet, Nothing, Barred, Done, Failed, commit}
use Rattle.editor_model.specs.Prims.{OnlyAsks, SetsState, ChangesText, ConcernsHandlers, manner_of}
use Rattle.plain_machine.specs.Exchanges.{Exchange, Answer, Started, Sent, Broken, Closed, Killed, Bytes, End, Code, Signal, Running}
use Rattle.plain_machine.specs.State.{State, Program, Process, Status, Runs, Exited, Signalled, Lost, process, change_process, read_so_far}
use Rattle.plain_machine.specs.Lines.{Kind, KilledLast, OfBefore, OfAfter, OfFilter, OfSentinel}
use Rattle.plain_machine.specs.Items.{Item, Top, Body, DoForm, MakeCall, Leave, GiveAnswer, Refuse, MakeChange, Hooks, Calm, CommitChange, Enter, Native, Called, Exit, Wait, Delete, Finish, WriteDump, Target, Nowhere, ToName, ToNative, Kept, KeptExcursion, KeptRestriction, KeptBuffer, KeptInhibition, Waiting, Said, Config, Next, Step, Goes, Asks, Ended, KeptLifting}
use Rattle.plain_machine.specs.Calls.{on, answered, unless, call, process_effect, spawned, spawned_child, is_new_child, started, sent_answer, closed_answer, with_input_closed, with_filter, with_sentinel, of_buffer, process_buffer, with_process_buffer, end_of, send, send_eof, change_call, with_editor, call_by, unless_fault, with_coding}
use Rattle.plain_machine.specs.Refusals.{process_tests, may_ask, must_ask, must_be_replaceable, must_be_word, must_live_or_be_named, only_where, most_processes}
use Rattle.plain_machine.specs.Arguments.{process_of, filter_of, sentinel_of, child_of, is_closed, encoded, handler_def, is_new_name, coding_of}
use Rattle.plain_machine.specs.Hooks.{before_change_functions, after_change_functions, set_hook_list}
use Rattle.plain_machine.specs.Forms.{with_saved, saved_of, if_live, current, in_buffer, put_back, pop, popped, dropped, restored, evaluate, do_form, block, assigned, scope_of, give, commit_change, at_kept, says, after_commit, call_with, when_eq}
use Rattle.plain_machine.specs.Handling.{mark_of_process, second, sentinel_words, plain_text, unlisted, body_of, default_handler, put_in, output_in, process_buffer_of, native, left_state, ended_handler, named_body, native_next}
use Rattle.plain_machine.specs.Waits.{ask_process, asked_more, read_answer, end_answer, drain, is_room, target_is_eligible, from_eligible, eligible, delete, kill_answer, ends, kill_at_end, finish, wait, ask_if, ask_next, delete_one, delete_running, hear, kill_live, wait_case, finish_one, finish_running}
use Rattle.plain_machine.specs.Step.{step, item_step}
use Rattle.plain_machine.specs.Run.{Reaches, start}
use Rattle.plain_machine.proofs.Composed.{over_runs}
use Rattle.machine_laws.proofs.GoodEditor.{GoodEditor, FineWhat, FineChange}
use Rattle.machine_laws.proofs.GoodConfig.{GoodConfig, IsPendingIn, WorkFine, Stacked}
use Rattle.machine_laws.proofs.Advancing.{site_live}
use Rattle.machine_laws.proofs.Committing.{FinePrepared, prepare_fine, some_of}
use Rattle.machine_laws.proofs.Working.{kinds, change_editor}
use Rattle.machine_laws.proofs.Stepping.{kept_change, process_lives}
use Rattle.machine_laws.proofs.Tests.{no_fault, append_passes}
use Rattle.machine_laws.proofs.Returning.{goes_good, asks_good, start_good}

-- what is kept by each of the ways in which an editor is changed
pub record KeptBy (I : Editor → Type 0) : Type 0 where
  pub applies : (e : Editor) (prim : Prim) (args : List Value) → GoodEditor e → I e → I (apply e prim args).editor
  pub commits : (e : Editor) (c : Change) → GoodEditor e → (is_live e c.buffer ≡ true → FineChange e c) → I e → I (commit e c).editor
  pub kills : (e : Editor) (id : ℕ) → is_live e id ≡ true → must_be_replaceable e id ≡ None → I e → I (killed id e)
  pub bounds : (e : Editor) (id : ℕ) (f : Buffer → Buffer) → ((b : Buffer) → (f b).text ≡ b.text) → ((b : Buffer) → (f b).undo ≡ b.undo) → I e → I (change_buffer id f e)
  pub moves : (e : Editor) (id : ℕ) → is_live e id ≡ true → I e → I (record e { current = id })
  pub keeps : (e : Editor) (saved : List Saved) → I e → I (record e { marks = record e.marks { saved = saved } })
  pub names : (e : Editor) (registers : List (ℕ × Value)) → I e → I (record e { registers = registers })
  pub lifts : (e : Editor) (on : Bool) → I e → I (record e { lifted = on })
  pub starts : (e : Editor) (name : Value) → is_new_name e name ≡ true → must_be_fewer most_buffers (length e.buffers) ≡ None → I e → I (with_buffer (name_of name) e)
  pub marks : (e : Editor) (m : Marker) → I e → I (with_marker m e)

-- TESTS
after_tests : (n : ℕ) (ts : List Test) → first_fault ts ≡ None → first_fault (drop n ts) ≡ None
after_tests zero ts h = h
after_tests (suc n) [] h = refl
after_tests (suc n) (t ∷ ts) h = after_tests n ts (no_fault t ts h).1

only_passes : (w : Bool) (t : Test) → only_where w t ≡ None → w ≡ true → t ≡ None
only_passes true t h e = h
only_passes false t h e = cc

-- a process is started in a new buffer only where there are fewer than may be
start_fewer : (program : Program) (bound : ℕ) (s : State) (args : List Value) → first_fault (process_tests program bound s StartProcess args) ≡ None → is_new_name s.editor (arg args 1) ≡ true → must_be_fewer most_buffers (length s.editor.buffers) ≡ None
start_fewer program bound s args h e =
    let new : Bool = is_new_name s.editor (arg args 1) in
    let back : List Test =
    must_live_or_be_named s.editor (arg args 1) ∷ must_be_short (arg args 0) ∷ only_where new (must_be_short (arg args 1)) ∷ must_be_fewer most_processes (length s.processes) ∷
    must_be_fewer most_markers (length s.editor.marks.markers) ∷ only_where new (must_be_fewer most_buffers (length s.editor.buffers)) ∷ must_ask s ∷ [] in
    let a : first_fault (map must_be_word (drop 3 args) ++ back) ≡ None = after_tests 4 (process_tests program bound s StartProcess args) h in
    let b : first_fault back ≡ None = append_passes (map must_be_word (drop 3 args)) back a in
    let c : first_fault (only_where new (must_be_fewer most_buffers (length s.editor.buffers)) ∷ must_ask s ∷ []) ≡ None = after_tests 5 back b in
    only_passes new (must_be_fewer most_buffers (length s.editor.buffers)) (no_fault (only_where new (must_be_fewer most_buffers (length s.editor.buffers))) (must_ask s ∷ []) c).0 e

module _ (I : Editor → Type 0) (k : KeptBy I) where
  abbrev Carries : State → Type 0
  Carries s = I s.editor

  abbrev AnswerCarries : Option Next → Type 0
  AnswerCarries None = Unit {0}
  AnswerCarries (Some n) = Carries n.config.state

  abbrev StepCarries : Step → Type 0
  StepCarries (Goes n) = Carries n.config.state
  StepCarries (Asks ask next) = (answer : Answer) → AnswerCarries (next answer)
  StepCarries Ended = Unit {0}

  -- STATES
  changed : (p : ℕ) (f : Process → Process) (s : State) → Carries s → Carries (change_process p f s)
  changed p f s h = subst (λ e. I e) (sym (change_editor p f s)) h

  when_live : (s : State) (b : ℕ) (t : State) → Carries s → (is_live s.editor b ≡ true → Carries t) → Carries (if_live s b t)
  when_live s b t h f = go (is_live s.editor b) refl
    where
      go : (v : Bool) → is_live s.editor b ≡ v → Carries (elim v [ true ↦ t | false ↦ s ])
      go true q = f q
      go false q = h

  lives_still : (s : State) (b : ℕ) (f : Buffer → Buffer) → is_live s.editor b ≡ true → is_live (in_buffer b f s).editor b ≡ true
  lives_still s b f q =
      let l : (l : Live) × (live s.editor b ≡ Some l) = some_of (live s.editor b) q in
      ap (λ o. is_some o) (site_live b (λ site. record site { buffer = f site.buffer }) s.editor l.0 l.1)

  put_back_carries : (x : Saved) (s : State) → Carries s → Carries (put_back x s)
  put_back_carries (Excursion b p) s h = when_live s b _ h (λ q. k.moves (in_buffer b (λ x. record x { point = clip x.begin x.end p }) s).editor b (lives_still s b (λ x. record x { point = clip x.begin x.end p }) q) (k.bounds s.editor b (λ x. record x { point = clip x.begin x.end p }) (λ x. refl) (λ x. refl) h))
  put_back_carries (Restriction b None) s h = when_live s b _ h (λ q. k.bounds s.editor b (λ x. record x { begin = 0; end = length x.text }) (λ x. refl) (λ x. refl) h)
  put_back_carries (Restriction b (Some ends)) s h = when_live s b _ h (λ q. k.bounds s.editor b (λ x. record x { begin = ends.0; end = ends.1; point = clip ends.0 ends.1 x.point }) (λ x. refl) (λ x. refl) h)
  put_back_carries (Pending b from to) s h = h

  pop_carries : (s : State) → Carries s → Carries (pop s)
  pop_carries s h = go (saved_of s)
    where
      go : (l : List Saved) → Carries (elim l [ [] ↦ s | kept ∷ rest ↦ put_back kept (with_saved rest s) ])
      go [] = h
      go (x ∷ rest) = put_back_carries x (with_saved rest s) (k.keeps s.editor rest h)

  restored_carries : (x : Kept) (s : State) → Carries s → Carries (restored x s)
  restored_carries KeptExcursion s h = pop_carries s h
  restored_carries KeptRestriction s h = pop_carries s h
  restored_carries (KeptBuffer b) s h = when_live s b (current b s) h (λ q. k.moves s.editor b q h)
  restored_carries (KeptInhibition old) s h = h
  restored_carries (KeptLifting old) s h = k.lifts s.editor old h

  popped_carries : (s : State) → Carries s → Carries (popped s)
  popped_carries s h = k.keeps s.editor (drop 1 (saved_of s)) h

  dropped_carries : (f : Fault) (rest : List Item) (s : State) → Carries s → Carries (dropped f rest s).state
  dropped_carries f [] s h = h
  dropped_carries f (Top forms ∷ rest) s h = h
  dropped_carries f (Called i args past ∷ rest) s h = h
  dropped_carries f (Exit kind name c faulted ∷ rest) s h = h
  dropped_carries f (Leave kept ∷ rest) s h = dropped_carries f rest (restored kept s) (restored_carries kept s h)
  dropped_carries f (CommitChange c ∷ rest) s h = dropped_carries f rest (popped s) (popped_carries s h)
  dropped_carries f (_ ∷ rest) s h = dropped_carries f rest s h

  assigned_carries : (name : ℕ) (v : Value) (s : State) → Carries s → Carries (assigned name v s)
  assigned_carries name v s h = go (register (scope_of s) name)
    where
      go : (o : Option Value) → Carries (elim o [ Some old ↦ record s { scopes = with_register name v (scope_of s) ∷ drop 1 s.scopes } | None ↦ record s { editor = record s.editor { registers = with_register name v s.editor.registers } } ])
      go (Some old) = h
      go None = k.names s.editor (with_register name v s.editor.registers) h

  left_carries : (s : State) (c : ℕ) → Carries s → Carries (left_state s c)
  left_carries s c h = when_live out c (current c out) h (λ q. k.moves s.editor c q h)
    where
      out : State
      out = record s { depth = s.depth - 1; scopes = drop 1 s.scopes }

  ended_carries : (kind : Kind) (faulted : Bool) (t : State) (rest : List Item) → Carries t → Carries (ended_handler kind faulted t rest).state
  ended_carries (OfFilter p) faulted t rest h = h
  ended_carries (OfSentinel p) faulted t rest h = changed p unlisted t h
  ended_carries (OfBefore b) true t rest h = when_live t b (set_hook_list b before_change_functions [] t) h (λ q. h)
  ended_carries (OfBefore b) false t rest h = h
  ended_carries (OfAfter b) true t rest h = when_live t b (set_hook_list b after_change_functions [] t) h (λ q. h)
  ended_carries (OfAfter b) false t rest h = h

  -- HANDLERS
  put_carries : (t : State) (p : Prepared) (rest : List Item) → Carries t → Carries (put_in t p rest).state
  put_carries t (Changes c) rest h = h
  put_carries t (Quiet c) rest h = h
  put_carries t (Nothing v) rest h = h
  put_carries t (Barred f) rest h = h

  output_carries : (t : State) (o : Option ℕ) (mark : ℕ) (text : List Cell) (rest : List Item) → ((b : ℕ) → o ≡ Some b → is_live t.editor b ≡ true) → Carries t → Carries (output_in t o mark text rest).state
  output_carries t None mark text rest l h = h
  output_carries t (Some b) mark text rest l h = put_carries (current b t) (prepare_output t.editor b mark text) rest (k.moves t.editor b (l b refl) h)

  default_carries : (t : State) (kind : Kind) (args : List Value) (rest : List Item) → Carries t → Carries (default_handler t kind args rest).state
  default_carries t (OfFilter p) args rest h = output_carries t (process_buffer_of t p) (mark_of_process t p) (plain_text (second args)) rest (λ b q. process_lives t p b q) h
  default_carries t (OfSentinel p) args rest h = output_carries t (process_buffer_of t p) (mark_of_process t p) (sentinel_words t p (plain_text (second args))) rest (λ b q. process_lives t p b q) h
  default_carries t (OfBefore b) args rest h = h
  default_carries t (OfAfter b) args rest h = h

  body_carries : (program : Program) (t : State) (kind : Kind) (o : Option ℕ) (args : List Value) (rest : List Item) → Carries t → Carries (body_of program t kind o args rest).state
  body_carries program t kind None args rest h = default_carries (record t { scopes = [] ∷ t.scopes }) kind args rest h
  body_carries program t kind (Some name) args rest h = go (handler_def program.handlers name)
    where
      go : (o : Option HandlerDef) → Carries (named_body program t o name args rest).state
      go None = h
      go (Some d) = h

  -- EACH ITEM
  module _ (s : State) (rest : List Item) (g : GoodEditor s.editor) (h : Carries s) where
    answered_carries : (t : State) (target : Target) (y : Reply) → Carries t → StepCarries (answered t target y rest)
    answered_carries t target (Answered v) x = x
    answered_carries t target (Reply.Refused f) x = x

    unless_carries : (tests : List Test) (t : Step) → (first_fault tests ≡ None → StepCarries t) → StepCarries (unless tests s rest t)
    unless_carries tests t x = go (first_fault tests) refl
      where
        go : (o : Option Fault) → first_fault tests ≡ o → StepCarries (unless_fault o s rest t)
        go (Some f) q = h
        go None q = x q

    change_carries : (target : Target) (p : Prepared) → FinePrepared s.editor p → StepCarries (change_call s target rest p)
    change_carries target (Changes c) f = h
    change_carries target (Quiet c) f = k.commits s.editor c g (λ q. f.fine) h
    change_carries target (Nothing v) f = h
    change_carries target (Barred y) f = h

    send_carries : (target : Target) (child : ℕ) (bytes : List ℕ) → StepCarries (send s target rest child bytes)
    send_carries target child [] = h
    send_carries target child (b ∷ bytes) = go
      where
        go : (answer : Answer) → AnswerCarries (sent_answer s target rest (length (b ∷ bytes)) answer)
        go Sent = h
        go Broken = h
        go _ = tt

    eof_carries : (target : Target) (p : ℕ) (closed : Bool) → StepCarries (send_eof s target rest p closed)
    eof_carries target p true = h
    eof_carries target p false = go
      where
        go : (answer : Answer) → AnswerCarries (closed_answer s target rest p answer)
        go Closed = changed p with_input_closed (asked_more s) h
        go _ = tt

    started_carries : (name b : Value) (child : ℕ) → (is_new_name s.editor b ≡ true → must_be_fewer most_buffers (length s.editor.buffers) ≡ None) → Carries (started s name b child)
    started_carries name b child few = k.marks (with_process_buffer b s.editor) (record { spot = end_of (with_process_buffer b s.editor) (process_buffer (with_process_buffer b s.editor) b); advances = false })
        (by_test (λ e. I e) (is_new_name s.editor b) (with_buffer (name_of b) s.editor) s.editor (λ q. k.starts s.editor b q (few q) h) (λ q. h))

    spawn_carries : (target : Target) (name b : Value) → (is_new_name s.editor b ≡ true → must_be_fewer most_buffers (length s.editor.buffers) ≡ None) → (answer : Answer) → AnswerCarries (spawned s target rest name b answer)
    spawn_carries target name b few (Started child) = go (is_new_child s child)
      where
        go : (new : Bool) → AnswerCarries (spawned_child new s target rest name b child)
        go false = tt
        go true = started_carries name b child few
    spawn_carries target name b few Answer.Refused = h
    spawn_carries target name b few _ = tt

    effect_carries : (program : Program) (bound : ℕ) (target : Target) (prim : Prim) (args : List Value) → first_fault (process_tests program bound s prim args) ≡ None → StepCarries (process_effect s target rest prim args)
    effect_carries program bound target AddHook args t = h
    effect_carries program bound target RemoveHook args t = h
    effect_carries program bound target KillBuffer args t = h
    effect_carries program bound target StartProcess args t = spawn_carries target (arg args 0) (arg args 1) (start_fewer program bound s args t)
    effect_carries program bound target SetProcessFilter args t = changed (process_of s (arg args 0)) (with_filter (filter_of (arg args 1))) s h
    effect_carries program bound target SetProcessSentinel args t = changed (process_of s (arg args 0)) (with_sentinel (sentinel_of (arg args 1))) s h
    effect_carries program bound target SetProcessBuffer args t = changed (process_of s (arg args 0)) (of_buffer (process_buffer s.editor (arg args 1))) s h
    effect_carries program bound target SetProcessCodingSystem args t = changed (process_of s (arg args 0)) (with_coding (coding_of (arg args 1))) s h
    effect_carries program bound target ProcessSendString args t = send_carries target (child_of s (process_of s (arg args 0))) (encoded (string_of (arg args 1)))
    effect_carries program bound target ProcessSendEof args t = eof_carries target (process_of s (arg args 0)) (is_closed s (process_of s (arg args 0)))
    effect_carries program bound target DeleteProcess args t = h
    effect_carries program bound target AcceptProcessOutput args t = h
    effect_carries program bound target _ args t = h

    call_carries : (program : Program) (bound : ℕ) (target : Target) (prim : Prim) (args : List Value) → StepCarries (call program bound s target rest prim args)
    call_carries program bound target prim args =
        (elim (manner_of prim) as (λ m. StepCarries (call_by m program bound s target rest prim args)) [
          | OnlyAsks ↦ answered_carries s target (query s.editor prim args) h
          | SetsState ↦ answered_carries (with_editor (apply s.editor prim args).editor s) target (apply s.editor prim args).reply (k.applies s.editor prim args g h)
          | ChangesText ↦ change_carries target (prepare s.editor prim args) (prepare_fine s.editor prim args g)
          | ConcernsHandlers ↦ unless_carries (process_tests program bound s prim args) (process_effect s target rest prim args) (effect_carries program bound target prim args)
        ])

    evaluated_carries : (o : Option (List Value)) (prim : Prim) (target : Target) → StepCarries (call_with o prim target s rest)
    evaluated_carries None prim target = h
    evaluated_carries (Some args) prim target = h

    block_carries : (x : Block) (forms : Forms) → StepCarries (block x forms s rest)
    block_carries SaveExcursion forms = k.keeps s.editor _ h
    block_carries SaveRestriction forms = k.keeps s.editor _ h
    block_carries SaveCurrentBuffer forms = h
    block_carries InhibitHooks forms = h
    block_carries InhibitReadOnly forms = k.lifts s.editor true h

    pair_carries : (o : Option (List Value)) (forms : Forms) → StepCarries (when_eq o forms s rest)
    pair_carries None forms = h
    pair_carries (Some []) forms = h
    pair_carries (Some (x ∷ [])) forms = h
    pair_carries (Some (x ∷ y ∷ [])) forms = go (equal x y)
      where
        go : (v : Bool) → StepCarries (elim v [ true ↦ on s (Body forms ∷ rest) | false ↦ on s rest ])
        go true = h
        go false = h
    pair_carries (Some (x ∷ y ∷ z ∷ more)) forms = h

    form_carries : (f : Form) → StepCarries (do_form s rest f)
    form_carries (Do c) = evaluated_carries (evaluate s c.args) c.prim Nowhere
    form_carries (Setq name c) = evaluated_carries (evaluate s c.args) c.prim (ToName name)
    form_carries (In x forms) = block_carries x forms
    form_carries (WhenEq a b forms) = pair_carries (evaluate s (a ∷ b ∷ [])) forms

    give_carries : (program : Program) (v : Value) (target : Target) → Carries (give program s v target rest).config.state
    give_carries program v Nowhere = h
    give_carries program v (ToName name) = assigned_carries name v s h
    give_carries program v ToNative = h

    commit_carries : (c : Change) → FineWhat c.what → IsPendingIn c.buffer (kinds s) → StepCarries (commit_change s c rest)
    commit_carries c w p = go done.committed
      where
        done : Commit
        done = commit s.editor (at_kept c (saved_of s))

        made : I done.editor
        made = k.commits s.editor (at_kept c (saved_of s)) g (kept_change s c g w p (saved_of s) refl) h

        go : (o : Committed) → StepCarries (after_commit done.editor o s c rest)
        go (Failed f) = popped_carries s h
        go (Done from to old) = popped_carries (with_editor done.editor s) made

    native_carries : (program : Program) (i : ℕ) (args : List Value) (past : List Reply) → StepCarries (native program s i args past rest)
    native_carries program i args past = go (nat_lt (length past) 256) (program.does i args past)
      where
        go : (v : Bool) (o : Option (Prim × List Value)) → StepCarries (native_next v o program s i args past rest)
        go false o = h
        go true None = h
        go true (Some c) = h

    drain_carries : (w : Waiting) (target : Target) (p : ℕ) (x : Process) → AnswerCarries (drain s w target rest p x)
    drain_carries w target p x = changed p (λ y. record y { drained = true }) (asked_more s) h

    read_carries : (w : Waiting) (target : Target) (p : ℕ) (x : Process) (answer : Answer) → AnswerCarries (read_answer s w target rest p x answer)
    read_carries w target p x (Bytes bytes) = go (is_room bytes)
      where
        go : (fits : Bool) → AnswerCarries (hear fits s w target rest p x bytes)
        go false = tt
        go true = changed p (λ y. record y { bytes = Some (read_so_far x ++ bytes) }) (asked_more s) h
    read_carries w target p x Answer.Nothing = h
    read_carries w target p x End = drain_carries w target p x
    read_carries w target p x Answer.Failed = drain_carries w target p x
    read_carries w target p x _ = tt

    end_carries : (w : Waiting) (target : Target) (p : ℕ) (x : Process) (answer : Answer) → AnswerCarries (end_answer s w target rest p x answer)
    end_carries w target p x (Code n) = changed p (λ y. record y { status = Exited n }) (asked_more s) h
    end_carries w target p x Signal = changed p (λ y. record y { status = Signalled }) (asked_more s) h
    end_carries w target p x Answer.Failed = changed p (λ y. record y { status = Lost }) (asked_more s) h
    end_carries w target p x Running = h
    end_carries w target p x _ = tt

    ask_carries : (w : Waiting) (target : Target) (p : ℕ) → StepCarries (ask_process s w target rest p)
    ask_carries w target p = go (may_ask s) (process s p)
      where
        by_drained : (x : Process) (v : Bool) → StepCarries (ask_next v s w target rest p x)
        by_drained x false = read_carries w target p x
        by_drained x true = end_carries w target p x

        go : (v : Bool) (o : Option Process) → StepCarries (ask_if v o s w target rest p)
        go false o = h
        go true None = h
        go true (Some x) = by_drained x x.drained

    wait_carries : (w : Waiting) (target : Target) → StepCarries (wait s w target rest)
    wait_carries w target = go w.counted (target_is_eligible s w) (from_eligible s w w.asking) (eligible s w) w.rounds
      where
        go : (counted fit : Bool) (asking all : List ℕ) (rounds : ℕ) → StepCarries (wait_case counted fit asking all rounds s w target rest)
        go true fit asking all rounds = h
        go false false asking all rounds = h
        go false true (p ∷ more) all rounds = ask_carries (record w { asking = more }) target p
        go false true [] [] rounds = h
        go false true [] (p ∷ more) zero = h
        go false true [] (p ∷ more) (suc rounds) = h

    killed_carries : (n : Next) (answer : Answer) → Carries n.config.state → AnswerCarries (kill_answer n answer)
    killed_carries n Killed x = x
    killed_carries n Answer.Failed x = x
    killed_carries n _ x = tt

    delete_carries : (p : ℕ) → StepCarries (delete s p rest)
    delete_carries p = go (process s p)
      where
        by_status : (x : Process) (v : Status) → StepCarries (delete_running v s p x rest)
        by_status x Runs = λ answer. killed_carries (ends s p x Signalled (codes "killed\n") rest) answer (changed p (λ y. record y { status = Signalled }) s h)
        by_status x _ = h

        go : (o : Option Process) → StepCarries (delete_one s p o rest)
        go None = h
        go (Some x) = by_status x x.status

    kill_carries : (b : ℕ) (target : Target) → StepCarries (kill_at_end s b target rest)
    kill_carries b target = go (is_live s.editor b) refl
      where
        go : (v : Bool) → is_live s.editor b ≡ v → StepCarries (kill_live v s b target rest)
        go false q = h
        go true q = unless_carries (must_be_replaceable s.editor b ∷ []) (on (with_editor (killed b s.editor) s) (GiveAnswer T target ∷ rest)) (λ t. k.kills s.editor b q (no_fault (must_be_replaceable s.editor b) [] t).0 h)

    finish_carries : (program : Program) (p : ℕ) → StepCarries (finish program s p)
    finish_carries program p = go (process s p)
      where
        by_status : (x : Process) (v : Status) → StepCarries (finish_running program v s p x)
        by_status x Runs = λ answer. killed_carries (says program s (KilledLast p) s (Finish (p + 1) ∷ [])) answer h
        by_status x _ = h

        go : (o : Option Process) → StepCarries (finish_one program s p o)
        go None = h
        go (Some x) = by_status x x.status

  item_carries : (program : Program) (bound : ℕ) (s : State) (item : Item) (rest : List Item) → GoodEditor s.editor → WorkFine s.editor (item ∷ rest) → Stacked (item ∷ rest) (kinds s) → Carries s → StepCarries (item_step program bound s rest item)
  item_carries program bound s (Top NoForms) rest g w r h = h
  item_carries program bound s (Top (Then form forms)) rest g w r h = h
  item_carries program bound s (Body NoForms) rest g w r h = h
  item_carries program bound s (Body (Then form forms)) rest g w r h = h
  item_carries program bound s (DoForm form) rest g w r h = form_carries s rest g h form
  item_carries program bound s (MakeCall prim args target) rest g w r h = call_carries s rest g h program bound target prim args
  item_carries program bound s (Leave kept) rest g w r h = restored_carries kept s h
  item_carries program bound s (GiveAnswer v target) rest g w r h = give_carries s rest g h program v target
  item_carries program bound s (Refuse f) rest g w r h = dropped_carries f rest s h
  item_carries program bound s (MakeChange c) rest g w r h = k.keeps s.editor (Pending c.buffer c.from c.to ∷ saved_of s) h
  item_carries program bound s (Hooks kind [] args) rest g w r h = h
  item_carries program bound s (Hooks kind (n ∷ names) args) rest g w r h = h
  item_carries program bound s (Calm old) rest g w r h = h
  item_carries program bound s (CommitChange c) rest g w r h = commit_carries s rest g h c w.0 r.0
  item_carries program bound s (Enter kind name args) rest g w r h = body_carries program (record s { depth = s.depth + 1 }) kind name args (Exit kind name s.editor.current false ∷ rest) h
  item_carries program bound s (Native i args past) rest g w r h = native_carries s rest g h program i args past
  item_carries program bound s (Called i args past) rest g w r h = h
  item_carries program bound s (Exit kind name c faulted) rest g w r h = ended_carries kind faulted (left_state s c) rest (left_carries s c h)
  item_carries program bound s (Wait x target) rest g w r h = wait_carries s rest g h x target
  item_carries program bound s (Delete p) rest g w r h = delete_carries s rest g h p
  item_carries program bound s (Item.KillBuffer b target) rest g w r h = kill_carries s rest g h b target
  item_carries program bound s (Finish p) rest g w r h = finish_carries s rest g h program p
  item_carries program bound s WriteDump rest g w r h = h

  step_carries : (program : Program) (bound : ℕ) (c : Config) → GoodConfig c → Carries c.state → StepCarries (step program bound c)
  step_carries program bound c g h = go c.work g.work g.stack
    where
      go : (work : List Item) → WorkFine c.state.editor work → Stacked work (kinds c.state) → StepCarries (elim work [ [] ↦ Ended | item ∷ rest ↦ item_step program bound c.state rest item ])
      go [] w r = tt
      go (item ∷ rest) w r = item_carries program bound c.state item rest g.editor w r h

  -- EACH RUN
  record Carried (xs : List Exchange) (said : List Said) (c : Config) : Type 0 where
    good : GoodConfig c
    holds : Carries c.state

  pub run_carries : (program : Program) (bound : ℕ) (script : Script) (xs : List Exchange) (said : List Said) (c : Config) → I new_editor → Reaches program bound (start script) xs said c → Carries c.state
  run_carries program bound script xs said c h r = (over_runs program bound Carried
      (λ xs said c n x e. record { good = goes_good program bound c n x.good e; holds = subst (λ t. StepCarries t) e (step_carries program bound c x.good x.holds) })
      (λ xs said c ask answer f n x e q. record { good = asks_good program bound c ask answer f n x.good e q; holds = subst (λ o. AnswerCarries o) q ((subst (λ t. StepCarries t) e (step_carries program bound c x.good x.holds)) answer) })
      r [] [] (record { good = start_good script; holds = h })).holds

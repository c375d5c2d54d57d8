-- A call that is refused leaves the state as it was, but for its exchanges: where a call stands, step by step, until it is
-- refused or answered.
use Rattle.std.proofs.Common.{◌≡◌, ◌⊎◌, inl, inr, ℕ, zero, suc, ◌+◌, Bool, true, false, List, [], ◌∷◌, ◌++◌, length, map, refl, ap, sym, ◌∙◌, subst}
use Rattle.std.specs.Prelude.{Option, Some, None, slice_set, drop}
use Rattle.std.proofs.lemmas.Option.{same_Some, none-some}
use Rattle.text_model.specs.Characters.{Ch}
use Rattle.text_model.specs.Marks.{Pending}
use Rattle.editor_model.specs.Values.{Value, Nil, Int, Str, TheMarker, TheBuffer, Fault, VoidVariable, ExchangesSpent, BrokenPipe, SpawnFailed, at_place, Reply, Answered, Prim, Do, Setq, SetBuffer, GetBufferCreate, GenerateNewBuffer, RenameBuffer, SetBufferModifiedP, SetBufferReadOnly, GotoChar, NarrowToRegion, Widen, MakeMarker, PointMarker, CopyMarker, SetMarker, SetMarkerInsertionType, MakeOverlay, OverlayPut, MoveOverlay, DeleteOverlay, UndoBoundary, UndoStart, BufferDisableUndo, BufferEnableUndo, StartProcess, KillBuffer, ProcessSendString, ProcessSendEof, AcceptProcessOutput}
use Rattle.editor_model.specs.Editor.{Editor, is_live, find}
use Rattle.editor_model.specs.Arguments.{arg, string_of, buffer_of, name_of}
use Rattle.editor_model.specs.Answers.{first_fault, Applied, applied_of, Prepared, Changes, Quiet, Nothing, Barred, Change, Committed, Done, Failed}
use Rattle.editor_model.specs.BufferCalls.{get_buffer_create, found_or_made}
use Rattle.editor_model.specs.MarkerCalls.{copy_marker}
use Rattle.editor_model.specs.Table.{query, apply, prepare, commit}
use Rattle.editor_model.specs.Prims.{Manner, OnlyAsks, SetsState, ChangesText, ConcernsHandlers, manner_of}
use Rattle.plain_machine.specs.Exchanges.{Exchange, Ask, Spawn, Read, AskEnd, Send, Close, Kill, Answer, Started, Bytes, Code, End, Signal, Running, Sent, Broken, Closed, Killed}
use Rattle.plain_machine.specs.State.{State, Process, Status, Runs, Program, hooks_of, process, change_process, read_so_far}
use Rattle.plain_machine.specs.Lines.{Kind, OfBefore}
use Rattle.plain_machine.specs.Items.{Item, DoForm, MakeCall, GiveAnswer, Refuse, MakeChange, Hooks, Calm, CommitChange, Enter, Exit, Wait, Delete, Target, Nowhere, ToName, ToNative, Waiting, Said, Config, Next, Step, Goes, Asks, Ended}
use Rattle.plain_machine.specs.Calls.{answered, unless_fault, with_editor, change_call, call, call_by, process_effect, spawned, spawned_child, is_new_child, send, sent_answer, send_eof, closed_answer, waiting}
use Rattle.plain_machine.specs.Refusals.{process_tests, may_ask, must_be_replaceable}
use Rattle.plain_machine.specs.Arguments.{process_of, child_of, is_closed, encoded, running_in}
use Rattle.plain_machine.specs.Forms.{call_with, evaluate, at_kept, saved_of, popped, after_commit, bracket, with_saved, make_change}
use Rattle.plain_machine.specs.Waits.{wait, wait_case, ask_process, ask_if, ask_next, read_answer, hear, drain, end_answer, entry_of, asked_more, is_room, from_eligible, eligible, target_is_eligible, is_eligible, is_eligible_one, delete, delete_one, delete_running, kill_answer, kill_at_end, kill_live}
use Rattle.plain_machine.specs.Step.{step, item_step}
use Rattle.plain_machine.specs.Run.{Reaches, stays, goes, asks}
use Rattle.machine_laws.specs.Refusals.{Noted, Leaves, AllLeave, AnswersNext, IsOfCall, without_ends, RefusalsLeave}
use Rattle.machine_laws.proofs.Steps.{first_fit}
use Rattle.machine_laws.proofs.Basics.{none_first}

-- WHERE A CALL STANDS
-- an item that is a call, or waits, or kills
abbrev IsCall : Item → Type 0
IsCall (DoForm (Do c)) = Unit {0}
IsCall (DoForm (Setq name c)) = Unit {0}
IsCall (MakeCall prim args target) = Unit {0}
IsCall (Wait w target) = Unit {0}
IsCall (Item.KillBuffer b target) = Unit {0}
IsCall _ = ⊥

abbrev Is : State → State → Type 0
Is s t = t ≡ s

-- Of a call that has the state s: where it stands as long as nothing was written. A change under way has put its kept ends
-- on the stack; a call that is to be answered may have changed anything.
pub data Stands (s : State) (c : Config) : Type 0 where
  calls : (item : Item) (rest : List Item) → IsCall item → c.work ≡ item ∷ rest → Is s c.state → Stands s c
  deletes : (p : ℕ) (ps : List ℕ) (b : ℕ) (target : Target) (rest : List Item) → c.work ≡ Delete p ∷ (map Delete ps ++ Item.KillBuffer b target ∷ rest) → Is s c.state → Stands s c
  changes : (k : Change) (v : Value) (target : Target) (rest : List Item) → c.work ≡ MakeChange k ∷ GiveAnswer v target ∷ rest → Is s c.state → Stands s c
  enters_none : (kind : Kind) (args : List Value) (old : Bool) (k : Change) (rest : List Item) → c.work ≡ Hooks kind [] args ∷ Calm old ∷ CommitChange k ∷ rest → AnswersNext rest → Is s (popped (record c.state { inhibited = old })) → Stands s c
  calms : (old : Bool) (k : Change) (rest : List Item) → c.work ≡ Calm old ∷ CommitChange k ∷ rest → AnswersNext rest → Is s (popped (record c.state { inhibited = old })) → Stands s c
  commits : (k : Change) (rest : List Item) → c.work ≡ CommitChange k ∷ rest → AnswersNext rest → Is s (popped c.state) → Stands s c
  refuses : (fault : Fault) (rest : List Item) → c.work ≡ Refuse fault ∷ rest → Is s c.state → Stands s c
  answers : AnswersNext c.work → Stands s c

-- a step that writes nothing leaves the call standing somewhere, in the same state
abbrev StandsAfter : State → Next → Type 0
StandsAfter s n = n.said ≡ [] → Stands s n.config

-- so does an exchange, in the state with what it leaves, or the call is to be answered
abbrev StandsBehind : State → Ask → Answer → Next → Type 0
StandsBehind s ask answer n = n.said ≡ [] → AnswersNext n.config.work ⊎ ((u : State) × Leaves ask answer s u × Stands u n.config)

abbrev StepStands : State → Step → Type 0
StepStands s (Goes n) = StandsAfter s n
StepStands s (Asks ask next) = (answer : Answer) (n : Next) → next answer ≡ Some n → StandsBehind s ask answer n
StepStands s Ended = Unit {0}

-- an answer of the outside that is taken
abbrev AnswerStands : State → Ask → Answer → Option Next → Type 0
AnswerStands s ask answer None = Unit {0}
AnswerStands s ask answer (Some n) = StandsBehind s ask answer n

taken_stands : (s : State) (ask : Ask) (answer : Answer) (o : Option Next) (n : Next) → AnswerStands s ask answer o → o ≡ Some n → StandsBehind s ask answer n
taken_stands s ask answer None n h e = absurd (none-some n e)
taken_stands s ask answer (Some m) n h e = subst (λ (n : Next). StandsBehind s ask answer n) (same_Some m n e) h

-- STATES
-- what an exchange leaves in a state that is the call's
leaves_in : (s t u : State) (ask : Ask) (answer : Answer) → Is s t → Leaves ask answer t u → Leaves ask answer s u
leaves_in s t u ask answer h l = subst (λ (s : State). Leaves ask answer s u) h l

-- two changes that do the same to a process
pub same_change : (t : State) (p : ℕ) (x : Process) (f g : Process → Process) → process t p ≡ Some x → f x ≡ g x → change_process p f t ≡ change_process p g t
same_change t p x f g e k = go (process t p) e
  where
    go : (o : Option Process) → o ≡ Some x → let a : State = elim o [ None ↦ t | Some y ↦ record t { processes = slice_set t.processes p (f y) } ] in let b : State = elim o [ None ↦ t | Some y ↦ record t { processes = slice_set t.processes p (g y) } ] in a ≡ b
    go None e = absurd (none-some x e)
    go (Some y) e =
        let q : f y ≡ g y = subst (λ (z : Process). f z ≡ g z) (sym (same_Some y x e)) k in
        ap (λ (z : Process). record t { processes = slice_set t.processes p z }) q

editor_same : (s t : State) (e : Editor) → Is s t → e ≡ t.editor → Is s (with_editor e t)
editor_same s t e same q = ap (λ (e : Editor). with_editor e t) q ∙ same

inhibited_same : (s t : State) (b : Bool) → Is s t → t.inhibited ≡ b → Is s (record t { inhibited = b })
inhibited_same s t b same q = ap (λ (b : Bool). record t { inhibited = b }) (sym q) ∙ same

-- CALLS THAT SET STATE
abbrev LeavesIfRefused : Editor → Applied → Type 0
LeavesIfRefused e a = (f : Fault) → a.reply ≡ Reply.Refused f → a.editor ≡ e

of_fault : (o : Option Fault) (e new : Editor) (v : Value) → LeavesIfRefused e (applied_of o e new v)
of_fault None e new v f h = cc
of_fault (Some x) e new v f h = refl

found_leaves : (e : Editor) (name : Value) (o : Option ℕ) → LeavesIfRefused e (found_or_made e name o)
found_leaves e name None = of_fault _ e _ _
found_leaves e name (Some id) = λ f h. cc

create_leaves : (e : Editor) (v : Value) → LeavesIfRefused e (get_buffer_create e v)
create_leaves e (TheBuffer b) = λ f h. cc
create_leaves e (Str s) = found_leaves e (Str s) (find e (name_of (Str s)))
create_leaves e _ = λ f h. refl

copy_leaves : (e : Editor) (x kind : Value) → LeavesIfRefused e (copy_marker e x kind)
copy_leaves e Nil kind = of_fault _ e _ _
copy_leaves e (Int i) kind = of_fault _ e _ _
copy_leaves e (TheMarker k) kind = of_fault _ e _ _
copy_leaves e _ kind = λ f h. refl

pub apply_leaves : (e : Editor) (prim : Prim) (args : List Value) → LeavesIfRefused e (apply e prim args)
apply_leaves e SetBuffer args = of_fault _ e _ _
apply_leaves e GetBufferCreate args = create_leaves e (arg args 0)
apply_leaves e GenerateNewBuffer args = of_fault _ e _ _
apply_leaves e RenameBuffer args = of_fault _ e _ _
apply_leaves e SetBufferModifiedP args = λ f h. cc
apply_leaves e SetBufferReadOnly args = λ f h. cc
apply_leaves e GotoChar args = of_fault _ e _ _
apply_leaves e NarrowToRegion args = of_fault _ e _ _
apply_leaves e Widen args = λ f h. cc
apply_leaves e MakeMarker args = of_fault _ e _ _
apply_leaves e PointMarker args = of_fault _ e _ _
apply_leaves e CopyMarker args = copy_leaves e (arg args 0) (arg args 1)
apply_leaves e SetMarker args = of_fault _ e _ _
apply_leaves e SetMarkerInsertionType args = of_fault _ e _ _
apply_leaves e MakeOverlay args = of_fault _ e _ _
apply_leaves e OverlayPut args = of_fault _ e _ _
apply_leaves e MoveOverlay args = of_fault _ e _ _
apply_leaves e DeleteOverlay args = of_fault _ e _ _
apply_leaves e UndoBoundary args = λ f h. cc
apply_leaves e UndoStart args = of_fault _ e _ _
apply_leaves e BufferDisableUndo args = λ f h. cc
apply_leaves e BufferEnableUndo args = λ f h. cc
apply_leaves e _ args = λ f h. refl

-- ANSWERS
-- what is to be answered writes its answer, the entry of a handler or an exit before all else
abbrev StepAnswers : Step → Type 0
StepAnswers (Goes n) = n.said ≡ [] → AnswersNext n.config.work
StepAnswers (Asks ask next) = (answer : Answer) (n : Next) → next answer ≡ Some n → n.said ≡ [] → AnswersNext n.config.work
StepAnswers Ended = Unit {0}

says_something : (x : Said) (said : List Said) → (x ∷ said) ≡ [] → ⊥
says_something x said e = cc

killed_answers : (next : Next) (answer : Answer) (n : Next) → AnswersNext next.config.work → kill_answer next answer ≡ Some n → AnswersNext n.config.work
killed_answers next Killed n h e = subst (λ (n : Next). AnswersNext n.config.work) (same_Some next n e) h
killed_answers next Answer.Failed n h e = subst (λ (n : Next). AnswersNext n.config.work) (same_Some next n e) h
killed_answers next _ n h e = cc

delete_answers : (t : State) (p : ℕ) (rest : List Item) → AnswersNext rest → StepAnswers (delete t p rest)
delete_answers t p rest h = go (process t p)
  where
    by_status : (x : Process) (k : Status) → StepAnswers (delete_running k t p x rest)
    by_status x Runs = λ answer n k e. killed_answers _ answer n tt k
    by_status x _ = λ e. h

    go : (o : Option Process) → StepAnswers (delete_one t p o rest)
    go None = λ e. h
    go (Some x) = by_status x x.status

answers_step : (program : Program) (bound : ℕ) (t : State) (work : List Item) → AnswersNext work → StepAnswers (step program bound (record { state = t; work = work }))
answers_step program bound t (GiveAnswer v Nowhere ∷ work) r = λ e. absurd (says_something _ _ e)
answers_step program bound t (GiveAnswer v (ToName name) ∷ work) r = λ e. absurd (says_something _ _ e)
answers_step program bound t (GiveAnswer v ToNative ∷ work) r = λ e. absurd (says_something _ _ e)
answers_step program bound t (Enter kind handler args ∷ work) r = λ e. absurd (says_something _ _ e)
answers_step program bound t (Exit kind handler current faulted ∷ work) r = λ e. absurd (says_something _ _ e)
answers_step program bound t (Hooks kind [] args ∷ work) r = λ e. r
answers_step program bound t (Hooks kind (n ∷ names) args ∷ work) r = λ e. tt
answers_step program bound t (Calm old ∷ work) r = λ e. r
answers_step program bound t (Delete p ∷ work) r = delete_answers t p work r
answers_step program bound t _ r = absurd r

run_answers : (program : Program) (bound : ℕ) {c d : Config} {exchanges : List Exchange} {said : List Said} → Reaches program bound c exchanges said d → said ≡ [] → AnswersNext c.work → AnswersNext d.work
run_answers program bound stays e x = x
run_answers program bound (goes {c = c} {n = n} {said = said} h r) e x =
    let both : (n.said ≡ []) × (said ≡ []) = none_first n.said said e in
    let k : StepAnswers (Goes n) = subst (λ t. StepAnswers t) h (answers_step program bound c.state c.work x) in
    run_answers program bound r both.1 (k both.0)
run_answers program bound (asks {c = c} {ask = ask} {answer = answer} {next = next} {n = n} {said = said} h k r) e x =
    let both : (n.said ≡ []) × (said ≡ []) = none_first n.said said e in
    let j : StepAnswers (Asks ask next) = subst (λ t. StepAnswers t) h (answers_step program bound c.state c.work x) in
    run_answers program bound r both.1 (j answer n k both.0)

-- CALLS
module _ (s : State) where
  answered_stands : (t : State) (target : Target) (r : Reply) (rest : List Item) → ((f : Fault) → r ≡ Reply.Refused f → Is s t) → StepStands s (answered t target r rest)
  answered_stands t target (Answered v) rest h = λ e. answers tt
  answered_stands t target (Reply.Refused f) rest h = λ e. refuses f rest refl (h f refl)

  change_stands : (t : State) (target : Target) (rest : List Item) (p : Prepared) → Is s t → StepStands s (change_call t target rest p)
  change_stands t target rest (Changes c) h = λ e. changes c c.reply target rest refl h
  change_stands t target rest (Quiet c) h = λ e. answers tt
  change_stands t target rest (Nothing v) h = λ e. answers tt
  change_stands t target rest (Barred f) h = λ e. refuses f rest refl h

  unless_stands : (o : Option Fault) (t : State) (rest : List Item) (x : Step) → Is s t → StepStands s x → StepStands s (unless_fault o t rest x)
  unless_stands (Some f) t rest x h k = λ e. refuses f rest refl h
  unless_stands None t rest x h k = k

  spawned_stands : (t : State) (target : Target) (rest : List Item) (name b : Value) (program : List ℕ) (words : List (List ℕ)) (answer : Answer) → Is s t → AnswerStands s (Spawn program words) answer (spawned t target rest name b answer)
  spawned_stands t target rest name b program words (Started child) h = go (is_new_child t child)
    where
      go : (new : Bool) → AnswerStands s (Spawn program words) (Started child) (spawned_child new t target rest name b child)
      go true = λ e. inl tt
      go false = tt
  spawned_stands t target rest name b program words Answer.Refused h = λ e. inr (asked_more t, leaves_in s t (asked_more t) (Spawn program words) Answer.Refused h refl, refuses SpawnFailed rest refl refl)
  spawned_stands t target rest name b program words _ h = tt

  sent_stands : (t : State) (target : Target) (rest : List Item) (child : ℕ) (bytes : List ℕ) (answer : Answer) → Is s t → AnswerStands s (Send child bytes) answer (sent_answer t target rest (length bytes) answer)
  sent_stands t target rest child bytes Sent h = λ e. inl tt
  sent_stands t target rest child bytes Broken h = λ e. inr (broken, leaves_in s t broken (Send child bytes) Broken h refl, refuses BrokenPipe rest refl refl)
    where
      broken : State
      broken = record t { asked = t.asked + 1; sent = t.sent + length bytes }
  sent_stands t target rest child bytes _ h = tt

  send_stands : (t : State) (target : Target) (rest : List Item) (child : ℕ) (bytes : List ℕ) → Is s t → StepStands s (send t target rest child bytes)
  send_stands t target rest child [] h = λ e. answers tt
  send_stands t target rest child (b ∷ bytes) h = λ answer n e. taken_stands s (Send child (b ∷ bytes)) answer _ n (sent_stands t target rest child (b ∷ bytes) answer h) e

  closed_stands : (t : State) (target : Target) (rest : List Item) (p child : ℕ) (answer : Answer) → AnswerStands s (Close child) answer (closed_answer t target rest p answer)
  closed_stands t target rest p child Closed = λ e. inl tt
  closed_stands t target rest p child _ = tt

  eof_stands : (t : State) (target : Target) (rest : List Item) (p : ℕ) (closed : Bool) → StepStands s (send_eof t target rest p closed)
  eof_stands t target rest p true = λ e. answers tt
  eof_stands t target rest p false = λ answer n e. taken_stands s (Close (child_of t p)) answer _ n (closed_stands t target rest p (child_of t p) answer) e

  deletes_stand : (t : State) (ps : List ℕ) (b : ℕ) (target : Target) (rest : List Item) → Is s t → Stands s (record { state = t; work = map Delete ps ++ Item.KillBuffer b target ∷ rest })
  deletes_stand t [] b target rest h = calls (Item.KillBuffer b target) rest tt refl h
  deletes_stand t (p ∷ ps) b target rest h = deletes p ps b target rest refl h

  effect_stands : (t : State) (target : Target) (rest : List Item) (prim : Prim) (args : List Value) → Is s t → StepStands s (process_effect t target rest prim args)
  effect_stands t target rest KillBuffer args h = λ e. deletes_stand t (running_in t (buffer_of t.editor (arg args 0))) (buffer_of t.editor (arg args 0)) target rest h
  effect_stands t target rest StartProcess args h = λ answer n e. taken_stands s (Spawn (encoded (string_of (arg args 2))) (map (λ v. encoded (string_of v)) (drop 3 args))) answer _ n (spawned_stands t target rest (arg args 0) (arg args 1) (encoded (string_of (arg args 2))) (map (λ v. encoded (string_of v)) (drop 3 args)) answer h) e
  effect_stands t target rest ProcessSendString args h = send_stands t target rest (child_of t (process_of t (arg args 0))) (encoded (string_of (arg args 1))) h
  effect_stands t target rest ProcessSendEof args h = eof_stands t target rest (process_of t (arg args 0)) (is_closed t (process_of t (arg args 0)))
  effect_stands t target rest AcceptProcessOutput args h = λ e. calls (Wait (waiting t (arg args 0) (arg args 1) (arg args 2)) target) rest tt refl h
  effect_stands t target rest _ args h = λ e. answers tt

  call_stands : (program : Program) (bound : ℕ) (t : State) (target : Target) (rest : List Item) (prim : Prim) (args : List Value) → Is s t → StepStands s (call program bound t target rest prim args)
  call_stands program bound t target rest prim args h = go (manner_of prim)
    where
      go : (m : Manner) → StepStands s (call_by m program bound t target rest prim args)
      go OnlyAsks = answered_stands t target (query t.editor prim args) rest (λ f e. h)
      go SetsState = answered_stands (with_editor (apply t.editor prim args).editor t) target (apply t.editor prim args).reply rest (λ f e. editor_same s t _ h (apply_leaves t.editor prim args f e))
      go ChangesText = change_stands t target rest (prepare t.editor prim args) h
      go ConcernsHandlers = unless_stands (first_fault (process_tests program bound t prim args)) t rest (process_effect t target rest prim args) h (effect_stands t target rest prim args h)

  form_stands : (t : State) (rest : List Item) (o : Option (List Value)) (prim : Prim) (target : Target) → Is s t → StepStands s (call_with o prim target t rest)
  form_stands t rest None prim target h = λ e. refuses VoidVariable rest refl h
  form_stands t rest (Some args) prim target h = λ e. calls (MakeCall prim args target) rest tt refl h

  -- WAITS

  -- the work of an entry is the same in any state
  heard_stands : (t u : State) (p : ℕ) (x : Process) (text : List Ch) (w : Waiting) (target : Target) (rest : List Item) (ask : Ask) (answer : Answer) → Leaves ask answer s u →
      let work : List Item = entry_of t p x text (Wait w target ∷ rest) in AnswersNext work ⊎ ((v : State) × Leaves ask answer s v × Stands v (record { state = u; work = work }))
  heard_stands t u p x [] w target rest ask answer l = inr (u, l, calls (Wait w target) rest tt refl refl)
  heard_stands t u p x (c ∷ text) w target rest ask answer l = inl tt

  drain_stands : (t : State) (w : Waiting) (target : Target) (rest : List Item) (p : ℕ) (x : Process) (answer : Answer) → ((u : State) → Noted x.child (λ y. record y { drained = true }) s u → Leaves (Read x.child) answer s u) → process t p ≡ Some x → Is s t → AnswerStands s (Read x.child) answer (drain t w target rest p x)
  drain_stands t w target rest p x answer l k h =
      let u : State = change_process p (λ y. record y { drained = true }) (asked_more t) in
      let noted : Noted x.child (λ y. record y { drained = true }) s u = subst (λ (s : State). Noted x.child (λ y. record y { drained = true }) s u) h (p, x, k, refl, refl) in
      λ e. heard_stands t u p x _ w target rest (Read x.child) answer (l u noted)

  read_stands : (t : State) (w : Waiting) (target : Target) (rest : List Item) (p : ℕ) (x : Process) (answer : Answer) → process t p ≡ Some x → Is s t → AnswerStands s (Read x.child) answer (read_answer t w target rest p x answer)
  read_stands t w target rest p x (Bytes bytes) k h = go (is_room bytes)
    where
      u : State
      u = change_process p (λ y. record y { bytes = Some (read_so_far x ++ bytes) }) (asked_more t)

      noted : Leaves (Read x.child) (Bytes bytes) t u
      noted = (p, x, k, refl, same_change (asked_more t) p x (λ y. record y { bytes = Some (read_so_far x ++ bytes) }) (λ y. record y { bytes = Some (read_so_far y ++ bytes) }) k refl)

      go : (fits : Bool) → AnswerStands s (Read x.child) (Bytes bytes) (hear fits t w target rest p x bytes)
      go false = tt
      go true = λ e. heard_stands t u p x _ (record w { counted = _ }) target rest (Read x.child) (Bytes bytes) (leaves_in s t u (Read x.child) (Bytes bytes) h noted)
  read_stands t w target rest p x Answer.Nothing k h = λ e. inr (asked_more t, leaves_in s t (asked_more t) (Read x.child) Answer.Nothing h refl, calls (Wait w target) rest tt refl refl)
  read_stands t w target rest p x End k h = drain_stands t w target rest p x End (λ u l. l) k h
  read_stands t w target rest p x Answer.Failed k h = drain_stands t w target rest p x Answer.Failed (λ u l. l) k h
  read_stands t w target rest p x _ k h = tt

  end_stands : (t : State) (w : Waiting) (target : Target) (rest : List Item) (p : ℕ) (x : Process) (answer : Answer) → Is s t → AnswerStands s (AskEnd x.child) answer (end_answer t w target rest p x answer)
  end_stands t w target rest p x (Code n) h = λ e. inl tt
  end_stands t w target rest p x Signal h = λ e. inl tt
  end_stands t w target rest p x Answer.Failed h = λ e. inl tt
  end_stands t w target rest p x Running h = λ e. inr (asked_more t, leaves_in s t (asked_more t) (AskEnd x.child) Running h refl, calls (Wait w target) rest tt refl refl)
  end_stands t w target rest p x _ h = tt

  ask_stands : (t : State) (w : Waiting) (target : Target) (rest : List Item) (p : ℕ) → (process t p ≡ None → ⊥) → Is s t → StepStands s (ask_process t w target rest p)
  ask_stands t w target rest p there h = go (may_ask t) (process t p) refl
    where
      by_drained : (x : Process) (drained : Bool) → process t p ≡ Some x → StepStands s (ask_next drained t w target rest p x)
      by_drained x false k = λ answer n e. taken_stands s (Read x.child) answer _ n (read_stands t w target rest p x answer k h) e
      by_drained x true k = λ answer n e. taken_stands s (AskEnd x.child) answer _ n (end_stands t w target rest p x answer h) e

      go : (may : Bool) (o : Option Process) → process t p ≡ o → StepStands s (ask_if may o t w target rest p)
      go false o k = λ e. refuses ExchangesSpent rest refl h
      go true None k = absurd (there k)
      go true (Some x) k = by_drained x x.drained k

  -- a process that is eligible is there
  eligible_is_there : (t : State) (w : Waiting) (p : ℕ) → is_eligible t w p ≡ true → process t p ≡ None → ⊥
  eligible_is_there t w p h k =
      let q : is_eligible_one w p None ≡ true = subst (λ o. is_eligible_one w p o ≡ true) k h in
      cc

  wait_stands : (t : State) (w : Waiting) (target : Target) (rest : List Item) → Is s t → StepStands s (wait t w target rest)
  wait_stands t w target rest h = go w.counted (target_is_eligible t w) (from_eligible t w w.asking) refl (eligible t w) w.rounds
    where
      go : (counted fit : Bool) (asking : List ℕ) → from_eligible t w w.asking ≡ asking → (all : List ℕ) (rounds : ℕ) → StepStands s (wait_case counted fit asking all rounds t w target rest)
      go true fit asking k all rounds = λ e. answers tt
      go false false asking k all rounds = λ e. answers tt
      go false true (p ∷ more) k all rounds = ask_stands t (record w { asking = more }) target rest p (eligible_is_there t w p (first_fit t w w.asking p more k)) h
      go false true [] k [] rounds = λ e. answers tt
      go false true [] k (p ∷ more) zero = λ e. answers tt
      go false true [] k (p ∷ more) (suc rounds) = λ e. calls (Wait (record w { rounds = rounds; asking = p ∷ more }) target) rest tt refl h

  -- DELETIONS AND KILLING
  kill_stands : (next : Next) (child : ℕ) (answer : Answer) → AnswersNext next.config.work → AnswerStands s (Kill child) answer (kill_answer next answer)
  kill_stands next child Killed h = λ e. inl h
  kill_stands next child Answer.Failed h = λ e. inl h
  kill_stands next child _ h = tt

  delete_stands : (t : State) (p : ℕ) (rest : List Item) → Stands s (record { state = t; work = rest }) → StepStands s (delete t p rest)
  delete_stands t p rest h = go (process t p)
    where
      by_status : (x : Process) (k : Status) → StepStands s (delete_running k t p x rest)
      by_status x Runs = λ answer n e. taken_stands s (Kill x.child) answer _ n (kill_stands _ x.child answer tt) e
      by_status x _ = λ e. h

      go : (o : Option Process) → StepStands s (delete_one t p o rest)
      go None = λ e. h
      go (Some x) = by_status x x.status

  kill_buffer_stands : (t : State) (b : ℕ) (target : Target) (rest : List Item) → Is s t → StepStands s (kill_at_end t b target rest)
  kill_buffer_stands t b target rest h = go (is_live t.editor b)
    where
      go : (lives : Bool) → StepStands s (kill_live lives t b target rest)
      go false = λ e. answers tt
      go true = unless_stands (first_fault (must_be_replaceable t.editor b ∷ [])) t rest _ h (λ e. answers tt)

  -- CHANGES
  hooks_stand : (t : State) (kind : Kind) (names : List ℕ) (args : List Value) (k : Change) (rest : List Item) → AnswersNext rest → Is s (popped (record t { inhibited = false })) →
      Stands s (record { state = t; work = Hooks kind names args ∷ Calm false ∷ CommitChange k ∷ rest })
  hooks_stand t kind [] args k rest r h = enters_none kind args false k rest refl r h
  hooks_stand t kind (n ∷ names) args k rest r h = answers tt

  make_stands : (t : State) (k : Change) (rest : List Item) → AnswersNext rest → Is s t → StepStands s (make_change t k rest)
  make_stands t k rest r h = λ e. go t.inhibited refl
    where
      begun : State
      begun = record (with_saved (Pending k.buffer k.from k.to ∷ saved_of t) t) { inhibited = true }

      go : (b : Bool) → t.inhibited ≡ b → Stands s (record { state = begun; work = bracket b (OfBefore k.buffer) (hooks_of t.hooks k.buffer).before (at_place k.from ∷ at_place k.to ∷ []) (CommitChange k ∷ rest) })
      go true q = commits k rest refl r (inhibited_same s t true h q)
      go false q = hooks_stand begun (OfBefore k.buffer) _ _ k rest r (inhibited_same s t false h q)

  after_stands : (u : State) (b : Bool) (kind : Kind) (names : List ℕ) (args : List Value) (rest : List Item) → AnswersNext rest → Stands s (record { state = u; work = bracket b kind names args rest })
  after_stands u true kind names args rest r = answers r
  after_stands u false kind [] args rest r = answers r
  after_stands u false kind (n ∷ names) args rest r = answers tt

  commit_stands : (t : State) (k : Change) (rest : List Item) (new : Editor) (done : Committed) → AnswersNext rest → Is s (popped t) → StepStands s (after_commit new done t k rest)
  commit_stands t k rest new (Failed f) r h = λ e. refuses f rest refl h
  commit_stands t k rest new (Done from to old) r h = λ e. after_stands _ t.inhibited _ _ _ rest r

  -- EACH STEP
  answering_stands : (x : Step) → StepAnswers x → StepStands s x
  answering_stands (Goes n) h = λ e. answers (h e)
  answering_stands (Asks ask next) h = λ answer n k e. inl (h answer n k e)
  answering_stands Ended h = tt

  item_stands : (program : Program) (bound : ℕ) (t : State) (item : Item) (rest : List Item) → IsCall item → Is s t → StepStands s (item_step program bound t rest item)
  item_stands program bound t (DoForm (Do c)) rest q h = form_stands t rest (evaluate t c.args) c.prim Nowhere h
  item_stands program bound t (DoForm (Setq name c)) rest q h = form_stands t rest (evaluate t c.args) c.prim (ToName name) h
  item_stands program bound t (MakeCall prim args target) rest q h = call_stands program bound t target rest prim args h
  item_stands program bound t (Wait w target) rest q h = wait_stands t w target rest h
  item_stands program bound t (Item.KillBuffer b target) rest q h = kill_buffer_stands t b target rest h
  item_stands program bound t _ rest q h = absurd q

  at_work : (program : Program) (bound : ℕ) (c : Config) (work : List Item) → c.work ≡ work → StepStands s (step program bound (record { state = c.state; work = work })) → StepStands s (step program bound c)
  at_work program bound c work e h = subst (λ (w : List Item). StepStands s (step program bound (record { state = c.state; work = w }))) (sym e) h

  step_stands : (program : Program) (bound : ℕ) (c : Config) → Stands s c → StepStands s (step program bound c)
  step_stands program bound c (calls item rest q e h) = at_work program bound c (item ∷ rest) e (item_stands program bound c.state item rest q h)
  step_stands program bound c (deletes p ps b target rest e h) = at_work program bound c _ e (delete_stands c.state p _ (deletes_stand c.state ps b target rest h))
  step_stands program bound c (changes k v target rest e h) = at_work program bound c _ e (make_stands c.state k (GiveAnswer v target ∷ rest) tt h)
  step_stands program bound c (enters_none kind args old k rest e r h) = at_work program bound c _ e (λ x. calms old k rest refl r h)
  step_stands program bound c (calms old k rest e r h) = at_work program bound c _ e (λ x. commits k rest refl r h)
  step_stands program bound c (commits k rest e r h) = at_work program bound c _ e (commit_stands c.state k rest (commit c.state.editor (at_kept k (saved_of c.state))).editor (commit c.state.editor (at_kept k (saved_of c.state))).committed r h)
  step_stands program bound c (refuses f rest e h) = at_work program bound c _ e (λ x. absurd (says_something _ _ x))
  step_stands program bound c (answers r) = answering_stands (step program bound c) (answers_step program bound c.state c.work r)

  goes_stands : (program : Program) (bound : ℕ) (c : Config) (n : Next) → Stands s c → step program bound c ≡ Goes n → StandsAfter s n
  goes_stands program bound c n x h = let k : StepStands s (Goes n) = subst (λ t. StepStands s t) h (step_stands program bound c x) in k

  asks_stands : (program : Program) (bound : ℕ) (c : Config) (ask : Ask) (next : Answer → Option Next) (answer : Answer) (n : Next) → Stands s c → step program bound c ≡ Asks ask next → next answer ≡ Some n → StandsBehind s ask answer n
  asks_stands program bound c ask next answer n x h k = let j : StepStands s (Asks ask next) = subst (λ t. StepStands s t) h (step_stands program bound c x) in j answer n k

-- EACH RUN
abbrev IsRefused : List Item → Type 0
IsRefused (Refuse fault ∷ rest) = Unit {0}
IsRefused _ = ⊥

never_answers : (work : List Item) → IsRefused work → AnswersNext work → ⊥
never_answers (Refuse fault ∷ rest) w r = r
never_answers _ w r = w

-- a call that stands before its refusal has changed nothing
refused_same : (s : State) (c : Config) → IsRefused c.work → Stands s c → Is s c.state
refused_same s c w (calls item rest q e h) = h
refused_same s c w (deletes p ps b target rest e h) = h
refused_same s c w (changes k v target rest e h) = h
refused_same s c w (enters_none kind args old k rest e r h) = absurd (subst (λ l. IsRefused l) e w)
refused_same s c w (calms old k rest e r h) = absurd (subst (λ l. IsRefused l) e w)
refused_same s c w (commits k rest e r h) = absurd (subst (λ l. IsRefused l) e w)
refused_same s c w (refuses g rest e h) = h
refused_same s c w (answers r) = absurd (never_answers c.work w r)

-- behind an exchange either no refusal comes, or one that leaves what the further exchanges leave
behind_leaves : (s t : State) (ask : Ask) (answer : Answer) (n : Next) (exchanges : List Exchange) → (AnswersNext n.config.work → ⊥) → ((u : State) → Stands u n.config → AllLeave exchanges u t) →
    AnswersNext n.config.work ⊎ ((u : State) × Leaves ask answer s u × Stands u n.config) → (u : State) × Leaves ask answer s u × AllLeave exchanges u t
behind_leaves s t ask answer n exchanges never go (inl a) = absurd (never a)
behind_leaves s t ask answer n exchanges never go (inr y) = (y.0, y.1, go y.0 y.2)

run_leaves : (program : Program) (bound : ℕ) (s : State) {c d : Config} {exchanges : List Exchange} {said : List Said} → Reaches program bound c exchanges said d → said ≡ [] → IsRefused d.work → Stands s c → AllLeave exchanges s d.state
run_leaves program bound s (stays {c = c}) e w x = refused_same s c w x
run_leaves program bound s (goes {c = c} {n = n} {said = said} h r) e w x =
    let both : (n.said ≡ []) × (said ≡ []) = none_first n.said said e in
    run_leaves program bound s r both.1 w (goes_stands s program bound c n x h both.0)
run_leaves program bound s (asks {c = c} {d = d} {ask = ask} {answer = answer} {next = next} {n = n} {exchanges = exchanges} {said = said} h k r) e w x =
    let both : (n.said ≡ []) × (said ≡ []) = none_first n.said said e in
    behind_leaves s d.state ask answer n exchanges
    (λ a. never_answers d.work w (run_answers program bound r both.1 a))
    (λ u y. run_leaves program bound u r both.1 w y)
    (asks_stands s program bound c ask next answer n x h k both.0)

begins : (item : Item) (rest : List Item) (s : State) → IsOfCall item rest → Stands (without_ends item s) (record { state = s; work = item ∷ rest })
begins (DoForm (Do c)) rest s h = calls (DoForm (Do c)) rest tt refl refl
begins (DoForm (Setq name c)) rest s h = calls (DoForm (Setq name c)) rest tt refl refl
begins (MakeCall prim args target) rest s h = calls (MakeCall prim args target) rest tt refl refl
begins (Wait w target) rest s h = calls (Wait w target) rest tt refl refl
begins (Item.KillBuffer b target) rest s h = calls (Item.KillBuffer b target) rest tt refl refl
begins (CommitChange c) rest s h = commits c rest refl h refl
begins _ rest s h = absurd h

pub refusals_leave : (program : Program) (bound : ℕ) → RefusalsLeave program bound
refusals_leave program bound item rest more s t exchanges f h r =
    run_leaves program bound (without_ends item s) r refl tt (begins item rest s h)

-- Refused calls, with whatever handlers between: where a call stands while handlers run in it, and what is left of it so far.
use Rattle.std.proofs.Common.{◌≡◌, ℕ, zero, suc, ◌+◌, Bool, true, false, List, [], ◌∷◌, ◌++◌, length, map, drop, refl, ap, sym, ◌∙◌, subst, arith}
use Rattle.std.specs.Prelude.{Option, Some, None, nat_lt, codes}
use Rattle.text_model.specs.Characters.{Ch}
use Rattle.text_model.specs.Marks.{Pending}
use Rattle.editor_model.specs.Values.{Value, T, Fault, ExchangesSpent, BrokenPipe, SpawnFailed, at_place, Reply, Answered, Prim, StartProcess, KillBuffer, ProcessSendString, ProcessSendEof, AcceptProcessOutput, SetProcessFilter, SetProcessSentinel, SetProcessBuffer, SetProcessCodingSystem}
use Rattle.editor_model.specs.Editor.{Editor, is_live, killed}
use Rattle.editor_model.specs.Arguments.{arg, string_of, buffer_of}
use Rattle.editor_model.specs.Answers.{first_fault}
use Rattle.editor_model.specs.Prims.{Manner, OnlyAsks, SetsState, ChangesText, ConcernsHandlers, manner_of}
use Rattle.editor_model.specs.Table.{Change, Commit, Committed, Done, Failed, Prepared, Changes, Quiet, Nothing, Barred, query, apply, prepare, commit}
use Rattle.plain_machine.specs.Exchanges.{Ask, Spawn, Read, AskEnd, Send, Close, Kill, Answer, Started, Bytes, Code, End, Signal, Running, Sent, Broken, Closed, Killed}
use Rattle.plain_machine.specs.State.{State, Process, Status, Runs, Exited, Signalled, Lost, Program, hooks_of, process, change_process, read_so_far}
use Rattle.plain_machine.specs.Lines.{Kind, OfBefore, OfFilter, OfSentinel}
use Rattle.plain_machine.specs.Items.{Item, MakeCall, GiveAnswer, Refuse, MakeChange, Hooks, Calm, CommitChange, Enter, Wait, Delete, Target, Nowhere, ToName, ToNative, Waiting, Said, Config, Next, Step, Goes, Asks, Ended}
use Rattle.plain_machine.specs.Calls.{silent, on, answered, unless_fault, with_editor, change_call, call, call_by, process_effect, spawned, spawned_child, is_new_child, send, sent_answer, send_eof, closed_answer, with_input_closed, waiting, with_filter, with_sentinel, of_buffer, process_buffer, with_coding}
use Rattle.plain_machine.specs.Refusals.{process_tests, may_ask, must_be_replaceable}
use Rattle.plain_machine.specs.Arguments.{process_of, filter_of, sentinel_of, child_of, is_closed, encoded, running_in, coding_of}
use Rattle.plain_machine.specs.Forms.{at_kept, saved_of, popped, after_commit, bracket, with_saved, make_change, give, commit_change}
use Rattle.plain_machine.specs.Waits.{wait, wait_case, ask_process, ask_if, ask_next, read_answer, hear, drain, end_answer, exit_text, ends, entry_of, asked_more, is_room, from_eligible, eligible, target_is_eligible, delete, delete_one, delete_running, kill_answer, kill_at_end, kill_live}
use Rattle.plain_machine.specs.Step.{step, item_step}
use Rattle.machine_laws.specs.Refusals.{Noted, Leaves}
use Rattle.machine_laws.specs.RefusedCalls.{Ends, without_change, is_within}
use Rattle.machine_laws.proofs.Steps.{first_fit}
use Rattle.machine_laws.proofs.LevelStates.{change_levels}
use Rattle.machine_laws.proofs.Refusing.{apply_leaves, same_change}
use Rattle.machine_laws.proofs.Rounds.{eligible_is_there}

-- WORK
-- a call that is to be answered, and isn't refused any more
abbrev pub Answering : List Item → Type 0
Answering (GiveAnswer v target ∷ work) = Unit {0}
Answering (Hooks kind names args ∷ work) = Answering work
Answering (Calm old ∷ work) = Answering work
Answering (Delete p ∷ work) = Answering work
Answering _ = ⊥

abbrev pub Killing : List Item → Type 0
Killing (Delete p ∷ work) = Killing work
Killing (Item.KillBuffer b target ∷ work) = Unit {0}
Killing _ = ⊥

abbrev pub Committing : List Item → Type 0
Committing (CommitChange k ∷ work) = Answering work
Committing _ = ⊥

abbrev pub Calming : List Item → Type 0
Calming (Calm old ∷ work) = (old ≡ false) × Committing work
Calming _ = ⊥

-- a call that may still be refused
abbrev pub Standing : List Item → Type 0
Standing (MakeCall prim args target ∷ work) = Unit {0}
Standing (Wait w target ∷ work) = Unit {0}
Standing (Item.KillBuffer b target ∷ work) = Unit {0}
Standing (Delete p ∷ work) = Killing work
Standing (MakeChange k ∷ work) = Answering work
Standing (Hooks kind names args ∷ work) = Calming work
Standing (Calm old ∷ work) = (old ≡ false) × Committing work
Standing (CommitChange k ∷ work) = Answering work
Standing (Refuse f ∷ work) = Unit {0}
Standing _ = ⊥

-- what may stand behind a handler of such a call
abbrev pub Resumes : List Item → Type 0
Resumes (Wait w target ∷ work) = Unit {0}
Resumes (Item.KillBuffer b target ∷ work) = Unit {0}
Resumes (Delete p ∷ work) = Killing work
Resumes (Hooks kind names args ∷ work) = Calming work
Resumes _ = ⊥

-- the state of the call: without a change under way
abbrev pub based : List Item → State → State
based (Hooks kind names args ∷ work) s = without_change s
based (Calm old ∷ work) s = without_change s
based (CommitChange k ∷ work) s = popped s
based _ s = s

pub data Own (u : State) (c : Config) : Type 0 where
  own : (work : List Item) → c.work ≡ work → Standing work → based work c.state ≡ u → Own u c

-- Where a step at this depth comes to: the call stands in the same state; a handler is entered in it; it is to be answered; a
-- reply was written.
pub data Comes (u : State) (d : ℕ) (n : Next) : Type 0 where
  stands : n.said ≡ [] → Own u n.config → Comes u d n
  enters : (kind : Kind) (name : Option ℕ) (args : List Value) (rest : List Item) → n.said ≡ [] → n.config.work ≡ Enter kind name args ∷ rest → Resumes rest → based rest n.config.state ≡ u → Comes u d n
  answers : n.said ≡ [] → Answering n.config.work → n.config.state.depth ≡ d → Comes u d n
  replies : (x : Said) → n.said ≡ x ∷ [] → is_within d x.event ≡ false → Comes u d n

pub data Behind (u : State) (d : ℕ) (ask : Ask) (answer : Answer) (n : Next) : Type 0 where
  leaves : (v : State) → Leaves ask answer u v → v.depth ≡ u.depth → Comes v d n → Behind u d ask answer n
  ends_one : (v : State) → Ends ask answer u v → v.depth ≡ u.depth → Comes v d n → Behind u d ask answer n
  to_answer : n.said ≡ [] → Answering n.config.work → n.config.state.depth ≡ d → Behind u d ask answer n

abbrev pub AnswerOwn : State → ℕ → Ask → Answer → Option Next → Type 0
AnswerOwn u d ask answer None = Unit {0}
AnswerOwn u d ask answer (Some n) = Behind u d ask answer n

abbrev pub StepOwn : State → ℕ → Step → Type 0
StepOwn u d (Goes n) = Comes u d n
StepOwn u d (Asks ask next) = (answer : Answer) → AnswerOwn u d ask answer (next answer)
StepOwn u d Ended = Unit {0}

-- the same of a call that is to be answered
pub data Follows (d : ℕ) (n : Next) : Type 0 where
  goes_on : n.said ≡ [] → Answering n.config.work → n.config.state.depth ≡ d → Follows d n
  enters_one : (kind : Kind) (name : Option ℕ) (args : List Value) (rest : List Item) → n.said ≡ [] → n.config.work ≡ Enter kind name args ∷ rest → Answering rest → n.config.state.depth ≡ d → Follows d n
  has_replied : (x : Said) → n.said ≡ x ∷ [] → is_within d x.event ≡ false → Follows d n

abbrev pub AnswerFollows : ℕ → Option Next → Type 0
AnswerFollows d None = Unit {0}
AnswerFollows d (Some n) = Follows d n

abbrev pub StepFollows : ℕ → Step → Type 0
StepFollows d (Goes n) = Follows d n
StepFollows d (Asks ask next) = (answer : Answer) → AnswerFollows d (next answer)
StepFollows d Ended = Unit {0}

-- SMALL THINGS
not_below : (a d : ℕ) → a ≡ d → nat_lt d a ≡ false
not_below a d e = grind arith

pub changed_depth : (p : ℕ) (f : Process → Process) (s : State) → (change_process p f s).depth ≡ s.depth
changed_depth p f s = ap (λ l. l.depth) (change_levels p f s)

pub based_depth : (work : List Item) (s : State) → (based work s).depth ≡ s.depth
based_depth [] s = refl
based_depth (Hooks kind names args ∷ work) s = refl
based_depth (Calm old ∷ work) s = refl
based_depth (CommitChange k ∷ work) s = refl
based_depth (_ ∷ work) s = refl

abbrev SameDepth : State → ℕ → Type 0
SameDepth s d = s.depth ≡ d

-- A CALL'S OWN STEPS, from a state t that is the call's
module _ (u : State) (d : ℕ) (t : State) (h : t ≡ u) (k : SameDepth t d) where
  -- what an exchange leaves in this state it leaves in the call's
  left_at : (v : State) (ask : Ask) (answer : Answer) (n : Next) → Leaves ask answer t v → v.depth ≡ t.depth → Comes v d n → Behind u d ask answer n
  left_at v ask answer n l e c = leaves v (subst (λ (s : State). Leaves ask answer s v) h l) (e ∙ ap (λ (s : State). s.depth) h) c

  ended_at : (v : State) (ask : Ask) (answer : Answer) (n : Next) → Ends ask answer t v → v.depth ≡ t.depth → Comes v d n → Behind u d ask answer n
  ended_at v ask answer n l e c = ends_one v (subst (λ (s : State). Ends ask answer s v) h l) (e ∙ ap (λ (s : State). s.depth) h) c

  answered_comes : (new : State) (target : Target) (y : Reply) (rest : List Item) → new.depth ≡ t.depth → ((f : Fault) → y ≡ Reply.Refused f → new ≡ t) → StepOwn u d (answered new target y rest)
  answered_comes new target (Answered v) rest e r = answers refl tt (e ∙ k)
  answered_comes new target (Reply.Refused f) rest e r = stands refl (own (Refuse f ∷ rest) refl tt (r f refl ∙ h))

  unless_comes : (o : Option Fault) (rest : List Item) (x : Step) → StepOwn u d x → StepOwn u d (unless_fault o t rest x)
  unless_comes (Some f) rest x c = stands refl (own (Refuse f ∷ rest) refl tt h)
  unless_comes None rest x c = c

  change_comes : (target : Target) (rest : List Item) (p : Prepared) → StepOwn u d (change_call t target rest p)
  change_comes target rest (Changes c) = stands refl (own (MakeChange c ∷ GiveAnswer c.reply target ∷ rest) refl tt h)
  change_comes target rest (Quiet c) = answers refl tt k
  change_comes target rest (Nothing v) = answers refl tt k
  change_comes target rest (Barred f) = stands refl (own (Refuse f ∷ rest) refl tt h)

  spawned_comes : (target : Target) (rest : List Item) (name b : Value) (program : List ℕ) (words : List (List ℕ)) (answer : Answer) → AnswerOwn u d (Spawn program words) answer (spawned t target rest name b answer)
  spawned_comes target rest name b program words (Started child) = go (is_new_child t child)
    where
      go : (new : Bool) → AnswerOwn u d (Spawn program words) (Started child) (spawned_child new t target rest name b child)
      go true = to_answer refl tt k
      go false = tt
  spawned_comes target rest name b program words Answer.Refused = left_at (asked_more t) (Spawn program words) Answer.Refused _ refl refl (stands refl (own (Refuse SpawnFailed ∷ rest) refl tt refl))
  spawned_comes target rest name b program words _ = tt

  sent_comes : (target : Target) (rest : List Item) (child : ℕ) (bytes : List ℕ) (answer : Answer) → AnswerOwn u d (Send child bytes) answer (sent_answer t target rest (length bytes) answer)
  sent_comes target rest child bytes Sent = to_answer refl tt k
  sent_comes target rest child bytes Broken = left_at (record t { asked = t.asked + 1; sent = t.sent + length bytes }) (Send child bytes) Broken _ refl refl (stands refl (own (Refuse BrokenPipe ∷ rest) refl tt refl))
  sent_comes target rest child bytes _ = tt

  send_comes : (target : Target) (rest : List Item) (child : ℕ) (bytes : List ℕ) → StepOwn u d (send t target rest child bytes)
  send_comes target rest child [] = answers refl tt k
  send_comes target rest child (b ∷ bytes) = sent_comes target rest child (b ∷ bytes)

  closed_comes : (target : Target) (rest : List Item) (p child : ℕ) (answer : Answer) → AnswerOwn u d (Close child) answer (closed_answer t target rest p answer)
  closed_comes target rest p child Closed = to_answer refl tt (changed_depth p with_input_closed (asked_more t) ∙ k)
  closed_comes target rest p child _ = tt

  eof_comes : (target : Target) (rest : List Item) (p : ℕ) (closed : Bool) → StepOwn u d (send_eof t target rest p closed)
  eof_comes target rest p true = answers refl tt k
  eof_comes target rest p false = closed_comes target rest p (child_of t p)

  deletes_stand : (ps : List ℕ) (b : ℕ) (target : Target) (rest : List Item) → Standing (map Delete ps ++ (Item.KillBuffer b target ∷ rest)) × (based (map Delete ps ++ (Item.KillBuffer b target ∷ rest)) t ≡ t)
  deletes_stand [] b target rest = (tt, refl)
  deletes_stand (p ∷ ps) b target rest = (kills ps, refl)
    where
      kills : (ps : List ℕ) → Killing (map Delete ps ++ (Item.KillBuffer b target ∷ rest))
      kills [] = tt
      kills (p ∷ ps) = kills ps

  set_comes : (target : Target) (rest : List Item) (p : ℕ) (f : Process → Process) (v : Value) → StepOwn u d (on (change_process p f t) (GiveAnswer v target ∷ rest))
  set_comes target rest p f v = answers refl tt (changed_depth p f t ∙ k)

  effect_comes : (target : Target) (rest : List Item) (prim : Prim) (args : List Value) → StepOwn u d (process_effect t target rest prim args)
  effect_comes target rest KillBuffer args =
      let x : Standing (map Delete (running_in t (buffer_of t.editor (arg args 0))) ++ (Item.KillBuffer (buffer_of t.editor (arg args 0)) target ∷ rest)) × (based (map Delete (running_in t (buffer_of t.editor (arg args 0))) ++ (Item.KillBuffer (buffer_of t.editor (arg args 0)) target ∷ rest)) t ≡ t) = deletes_stand (running_in t (buffer_of t.editor (arg args 0))) (buffer_of t.editor (arg args 0)) target rest in
      stands refl (own (map Delete (running_in t (buffer_of t.editor (arg args 0))) ++ (Item.KillBuffer (buffer_of t.editor (arg args 0)) target ∷ rest)) refl x.0 (x.1 ∙ h))
  effect_comes target rest StartProcess args = spawned_comes target rest (arg args 0) (arg args 1) (encoded (string_of (arg args 2))) (map (λ v. encoded (string_of v)) (drop 3 args))
  effect_comes target rest SetProcessFilter args = set_comes target rest (process_of t (arg args 0)) (with_filter (filter_of (arg args 1))) (arg args 1)
  effect_comes target rest SetProcessSentinel args = set_comes target rest (process_of t (arg args 0)) (with_sentinel (sentinel_of (arg args 1))) (arg args 1)
  effect_comes target rest SetProcessBuffer args = set_comes target rest (process_of t (arg args 0)) (of_buffer (process_buffer t.editor (arg args 1))) (arg args 1)
  effect_comes target rest SetProcessCodingSystem args = set_comes target rest (process_of t (arg args 0)) (with_coding (coding_of (arg args 1))) (arg args 1)
  effect_comes target rest ProcessSendString args = send_comes target rest (child_of t (process_of t (arg args 0))) (encoded (string_of (arg args 1)))
  effect_comes target rest ProcessSendEof args = eof_comes target rest (process_of t (arg args 0)) (is_closed t (process_of t (arg args 0)))
  effect_comes target rest AcceptProcessOutput args = stands refl (own (Wait (waiting t (arg args 0) (arg args 1) (arg args 2)) target ∷ rest) refl tt h)
  effect_comes target rest _ args = answers refl tt k

  call_comes : (program : Program) (bound : ℕ) (target : Target) (rest : List Item) (prim : Prim) (args : List Value) → StepOwn u d (call program bound t target rest prim args)
  call_comes program bound target rest prim args = go (manner_of prim)
    where
      go : (m : Manner) → StepOwn u d (call_by m program bound t target rest prim args)
      go OnlyAsks = answered_comes t target (query t.editor prim args) rest refl (λ f e. refl)
      go SetsState = answered_comes (with_editor (apply t.editor prim args).editor t) target (apply t.editor prim args).reply rest refl (λ f e. ap (λ (e : Editor). with_editor e t) (apply_leaves t.editor prim args f e))
      go ChangesText = change_comes target rest (prepare t.editor prim args)
      go ConcernsHandlers = unless_comes (first_fault (process_tests program bound t prim args)) rest (process_effect t target rest prim args) (effect_comes target rest prim args)

  -- WAITS
  heard_comes : (v : State) (p : ℕ) (x : Process) (text : List Ch) (w : Waiting) (target : Target) (rest : List Item) → Comes v d (silent v (entry_of t p x text (Wait w target ∷ rest)))
  heard_comes v p x [] w target rest = stands refl (own (Wait w target ∷ rest) refl tt refl)
  heard_comes v p x (c ∷ text) w target rest = enters (OfFilter p) _ _ (Wait w target ∷ rest) refl refl tt refl

  drain_comes : (w : Waiting) (target : Target) (rest : List Item) (p : ℕ) (x : Process) (answer : Answer) → ((v : State) → Noted x.child (λ y. record y { drained = true }) t v → Leaves (Read x.child) answer t v) → process t p ≡ Some x → AnswerOwn u d (Read x.child) answer (drain t w target rest p x)
  drain_comes w target rest p x answer l e =
      let v : State = change_process p (λ y. record y { drained = true }) (asked_more t) in
      left_at v (Read x.child) answer _ (l v (p, x, e, refl, refl)) (changed_depth p (λ y. record y { drained = true }) (asked_more t)) (heard_comes v p x _ w target rest)

  read_comes : (w : Waiting) (target : Target) (rest : List Item) (p : ℕ) (x : Process) (answer : Answer) → process t p ≡ Some x → AnswerOwn u d (Read x.child) answer (read_answer t w target rest p x answer)
  read_comes w target rest p x (Bytes bytes) e = go (is_room bytes)
    where
      v : State
      v = change_process p (λ y. record y { bytes = Some (read_so_far x ++ bytes) }) (asked_more t)

      noted : Leaves (Read x.child) (Bytes bytes) t v
      noted = (p, x, e, refl, same_change (asked_more t) p x (λ y. record y { bytes = Some (read_so_far x ++ bytes) }) (λ y. record y { bytes = Some (read_so_far y ++ bytes) }) e refl)

      go : (fits : Bool) → AnswerOwn u d (Read x.child) (Bytes bytes) (hear fits t w target rest p x bytes)
      go false = tt
      go true = left_at v (Read x.child) (Bytes bytes) _ noted (changed_depth p (λ y. record y { bytes = Some (read_so_far x ++ bytes) }) (asked_more t)) (heard_comes v p x _ _ target rest)
  read_comes w target rest p x Answer.Nothing e = left_at (asked_more t) (Read x.child) Answer.Nothing _ refl refl (stands refl (own (Wait w target ∷ rest) refl tt refl))
  read_comes w target rest p x End e = drain_comes w target rest p x End (λ v l. l) e
  read_comes w target rest p x Answer.Failed e = drain_comes w target rest p x Answer.Failed (λ v l. l) e
  read_comes w target rest p x _ e = tt

  ended_comes : (s : State) (p : ℕ) (x : Process) (status : Status) (text : List ℕ) (rest : List Item) (ask : Ask) (answer : Answer) → s.depth ≡ t.depth → Resumes rest → ((v : State) → based rest v ≡ v) →
      Ends ask answer t (change_process p (λ y. record y { status = status }) s) → Behind u d ask answer (ends s p x status text rest)
  ended_comes s p x status text rest ask answer e r b l =
      let v : State = change_process p (λ y. record y { status = status }) s in
      ended_at v ask answer _ l (changed_depth p (λ y. record y { status = status }) s ∙ e) (enters (OfSentinel p) _ _ rest refl refl r (b v))

  end_comes : (w : Waiting) (target : Target) (rest : List Item) (p : ℕ) (x : Process) (answer : Answer) → process t p ≡ Some x → AnswerOwn u d (AskEnd x.child) answer (end_answer t w target rest p x answer)
  end_comes w target rest p x (Code n) e = ended_comes (asked_more t) p x (Exited n) (exit_text n) (Wait w target ∷ rest) (AskEnd x.child) (Code n) refl tt (λ v. refl) (p, x, e, refl, refl)
  end_comes w target rest p x Signal e = ended_comes (asked_more t) p x Signalled (codes "killed\n") (Wait w target ∷ rest) (AskEnd x.child) Signal refl tt (λ v. refl) (p, x, e, refl, refl)
  end_comes w target rest p x Answer.Failed e = ended_comes (asked_more t) p x Lost (codes "failed\n") (Wait w target ∷ rest) (AskEnd x.child) Answer.Failed refl tt (λ v. refl) (p, x, e, refl, refl)
  end_comes w target rest p x Running e = left_at (asked_more t) (AskEnd x.child) Running _ refl refl (stands refl (own (Wait w target ∷ rest) refl tt refl))
  end_comes w target rest p x _ e = tt

  ask_comes : (w : Waiting) (target : Target) (rest : List Item) (p : ℕ) → (process t p ≡ None → ⊥) → StepOwn u d (ask_process t w target rest p)
  ask_comes w target rest p there = go (may_ask t) (process t p) refl
    where
      by_drained : (x : Process) (drained : Bool) → process t p ≡ Some x → StepOwn u d (ask_next drained t w target rest p x)
      by_drained x false e = λ answer. read_comes w target rest p x answer e
      by_drained x true e = λ answer. end_comes w target rest p x answer e

      go : (may : Bool) (o : Option Process) → process t p ≡ o → StepOwn u d (ask_if may o t w target rest p)
      go false o e = stands refl (own (Refuse ExchangesSpent ∷ rest) refl tt h)
      go true None e = absurd (there e)
      go true (Some x) e = by_drained x x.drained e

  wait_comes : (w : Waiting) (target : Target) (rest : List Item) → StepOwn u d (wait t w target rest)
  wait_comes w target rest = go w.counted (target_is_eligible t w) (from_eligible t w w.asking) refl (eligible t w) w.rounds
    where
      go : (counted fit : Bool) (asking : List ℕ) → from_eligible t w w.asking ≡ asking → (all : List ℕ) (rounds : ℕ) → StepOwn u d (wait_case counted fit asking all rounds t w target rest)
      go true fit asking e all rounds = answers refl tt k
      go false false asking e all rounds = answers refl tt k
      go false true (p ∷ more) e all rounds = ask_comes (record w { asking = more }) target rest p (eligible_is_there t w p (first_fit t w w.asking p more e))
      go false true [] e [] rounds = answers refl tt k
      go false true [] e (p ∷ more) zero = answers refl tt k
      go false true [] e (p ∷ more) (suc rounds) = stands refl (own (Wait (record w { rounds = rounds; asking = p ∷ more }) target ∷ rest) refl tt h)

  -- DELETIONS AND KILLING
  killing_based : (work : List Item) (v : State) → Killing work → Standing work × (Resumes work × (based work v ≡ v))
  killing_based (Delete p ∷ work) v r = (r, (r, refl))
  killing_based (Item.KillBuffer b target ∷ work) v r = (tt, (tt, refl))
  killing_based _ v r = absurd r

  delete_comes : (p : ℕ) (rest : List Item) → Killing rest → StepOwn u d (delete t p rest)
  delete_comes p rest r = go (process t p) refl
    where
      based_of : (v : State) → based rest v ≡ v
      based_of v = (killing_based rest v r).1.1

      killed_comes : (x : Process) (answer : Answer) → process t p ≡ Some x → AnswerOwn u d (Kill x.child) answer (kill_answer (ends t p x Signalled (codes "killed\n") rest) answer)
      killed_comes x Killed e = ended_comes t p x Signalled (codes "killed\n") rest (Kill x.child) Killed refl (killing_based rest t r).1.0 based_of (p, x, e, refl, refl)
      killed_comes x Answer.Failed e = ended_comes t p x Signalled (codes "killed\n") rest (Kill x.child) Answer.Failed refl (killing_based rest t r).1.0 based_of (p, x, e, refl, refl)
      killed_comes x _ e = tt

      by_status : (x : Process) (status : Status) → process t p ≡ Some x → StepOwn u d (delete_running status t p x rest)
      by_status x Runs e = λ answer. killed_comes x answer e
      by_status x _ e = stands refl (own rest refl (killing_based rest t r).0 (based_of t ∙ h))

      go : (o : Option Process) → process t p ≡ o → StepOwn u d (delete_one t p o rest)
      go None e = stands refl (own rest refl (killing_based rest t r).0 (based_of t ∙ h))
      go (Some x) e = by_status x x.status e

  kill_comes : (b : ℕ) (target : Target) (rest : List Item) → StepOwn u d (kill_at_end t b target rest)
  kill_comes b target rest = go (is_live t.editor b)
    where
      go : (lives : Bool) → StepOwn u d (kill_live lives t b target rest)
      go false = answers refl tt k
      go true = unless_comes (first_fault (must_be_replaceable t.editor b ∷ [])) rest (on (with_editor (killed b t.editor) t) (GiveAnswer T target ∷ rest)) (answers refl tt k)

  -- CHANGES
  make_comes : (c : Change) (rest : List Item) → Answering rest → StepOwn u d (make_change t c rest)
  make_comes c rest r = go t.inhibited refl
    where
      begun : State
      begun = record (with_saved (Pending c.buffer c.from c.to ∷ saved_of t) t) { inhibited = true }

      same : (b : Bool) → t.inhibited ≡ b → record t { inhibited = b } ≡ u
      same b q = ap (λ (b : Bool). record t { inhibited = b }) (sym q) ∙ h

      go : (b : Bool) → t.inhibited ≡ b → Comes u d (silent begun (bracket b (OfBefore c.buffer) (hooks_of t.hooks c.buffer).before (at_place c.from ∷ at_place c.to ∷ []) (CommitChange c ∷ rest)))
      go true q = stands refl (own (CommitChange c ∷ rest) refl r (same true q))
      go false q = stands refl (own (Hooks (OfBefore c.buffer) (hooks_of t.hooks c.buffer).before (at_place c.from ∷ at_place c.to ∷ []) ∷ Calm false ∷ CommitChange c ∷ rest) refl (refl, r) (same false q))

  refused_comes : (f : Fault) (program : Program) (rest : List Item) → StepOwn u d (item_step program d t rest (Refuse f))
  refused_comes f program rest = replies _ refl (not_below t.depth d k)

-- a change under way
module _ (u : State) (d : ℕ) (t : State) (k : SameDepth t d) where
  calm_own : (work : List Item) → Calming work → without_change t ≡ u → Own u (record { state = t; work = work })
  calm_own (Calm old ∷ work) r h = own (Calm old ∷ work) refl r h
  calm_own _ r h = absurd r

  hooks_come : (kind : Kind) (names : List ℕ) (args : List Value) (work : List Item) (program : Program) (bound : ℕ) → Calming work → without_change t ≡ u → StepOwn u d (item_step program bound t work (Hooks kind names args))
  hooks_come kind [] args work program bound r h = stands refl (calm_own work r h)
  hooks_come kind (n ∷ names) args work program bound r h = enters kind (Some n) args (Hooks kind names args ∷ work) refl refl r h

  calm_comes : (old : Bool) (work : List Item) → old ≡ false → Committing work → without_change t ≡ u → StepOwn u d (on (record t { inhibited = old }) work)
  calm_comes old (CommitChange c ∷ work) q r h = stands refl (own (CommitChange c ∷ work) refl r (ap (λ (b : Bool). popped (record t { inhibited = b })) q ∙ h))
  calm_comes old _ q r h = absurd r

  answering_bracket : (b : Bool) (kind : Kind) (names : List ℕ) (args : List Value) (rest : List Item) → Answering rest → Answering (bracket b kind names args rest)
  answering_bracket true kind names args rest r = r
  answering_bracket false kind names args rest r = r

  commit_comes : (c : Change) (rest : List Item) → Answering rest → popped t ≡ u → StepOwn u d (commit_change t c rest)
  commit_comes c rest r h = go done.committed
    where
      done : Commit
      done = commit t.editor (at_kept c (saved_of t))

      go : (o : Committed) → StepOwn u d (after_commit done.editor o t c rest)
      go (Failed f) = stands refl (own (Refuse f ∷ rest) refl tt h)
      go (Done from to old) = answers refl (answering_bracket t.inhibited _ _ _ rest r) k

-- EACH STEP
own_item : (program : Program) (bound : ℕ) (u : State) (d : ℕ) (t : State) (work : List Item) → SameDepth t d → Standing work → based work t ≡ u → StepOwn u d (step program bound (record { state = t; work = work }))
own_item program bound u d t (MakeCall prim args target ∷ rest) k r h = call_comes u d t h k program bound target rest prim args
own_item program bound u d t (Wait w target ∷ rest) k r h = wait_comes u d t h k w target rest
own_item program bound u d t (Item.KillBuffer b target ∷ rest) k r h = kill_comes u d t h k b target rest
own_item program bound u d t (Delete p ∷ rest) k r h = delete_comes u d t h k p rest r
own_item program bound u d t (MakeChange c ∷ rest) k r h = make_comes u d t h k c rest r
own_item program bound u d t (Hooks kind names args ∷ rest) k r h = hooks_come u d t k kind names args rest program bound r h
own_item program bound u d t (Calm old ∷ rest) k r h = calm_comes u d t k old rest r.0 r.1 h
own_item program bound u d t (CommitChange c ∷ rest) k r h = commit_comes u d t k c rest r h
own_item program bound u d t (Refuse f ∷ rest) k r h = refused_comes u d t h k f program rest
own_item program bound u d t _ k r h = absurd r

pub own_step : (program : Program) (bound : ℕ) (u : State) (d : ℕ) (c : Config) → SameDepth c.state d → Own u c → StepOwn u d (step program bound c)
own_step program bound u d c k (own work e r h) = subst (λ (w : List Item). StepOwn u d (step program bound (record { state = c.state; work = w }))) (sym e) (own_item program bound u d c.state work k r h)

-- TO BE ANSWERED
module _ (d : ℕ) (t : State) (k : SameDepth t d) where
  given_follows : (program : Program) (v : Value) (target : Target) (rest : List Item) → Follows d (give program t v target rest)
  given_follows program v Nowhere rest = has_replied _ refl (not_below t.depth d k)
  given_follows program v (ToName name) rest = has_replied _ refl (not_below t.depth d k)
  given_follows program v ToNative rest = has_replied _ refl (not_below t.depth d k)

  delete_follows : (p : ℕ) (rest : List Item) → Answering rest → StepFollows d (delete t p rest)
  delete_follows p rest r = go (process t p)
    where
      killed_follows : (x : Process) (answer : Answer) → AnswerFollows d (kill_answer (ends t p x Signalled (codes "killed\n") rest) answer)
      killed_follows x Killed = enters_one (OfSentinel p) _ _ rest refl refl r (changed_depth p (λ y. record y { status = Signalled }) t ∙ k)
      killed_follows x Answer.Failed = enters_one (OfSentinel p) _ _ rest refl refl r (changed_depth p (λ y. record y { status = Signalled }) t ∙ k)
      killed_follows x _ = tt

      by_status : (x : Process) (status : Status) → StepFollows d (delete_running status t p x rest)
      by_status x Runs = killed_follows x
      by_status x _ = goes_on refl r k

      go : (o : Option Process) → StepFollows d (delete_one t p o rest)
      go None = goes_on refl r k
      go (Some x) = by_status x x.status

  answering_step : (program : Program) (bound : ℕ) (work : List Item) → Answering work → StepFollows d (step program bound (record { state = t; work = work }))
  answering_step program bound (GiveAnswer v target ∷ rest) r = given_follows program v target rest
  answering_step program bound (Hooks kind [] args ∷ rest) r = goes_on refl r k
  answering_step program bound (Hooks kind (n ∷ names) args ∷ rest) r = enters_one kind (Some n) args (Hooks kind names args ∷ rest) refl refl r k
  answering_step program bound (Calm old ∷ rest) r = goes_on refl r k
  answering_step program bound (Delete p ∷ rest) r = delete_follows p rest r
  answering_step program bound _ r = absurd r

pub follows_step : (program : Program) (bound : ℕ) (d : ℕ) (c : Config) → SameDepth c.state d → Answering c.work → StepFollows d (step program bound c)
follows_step program bound d c k r = answering_step d c.state k program bound c.work r

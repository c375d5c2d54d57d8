-- Each step of the machine is one of those moves.
use Rattle.std.proofs.Common.{◌≡◌, ℕ, zero, suc, ◌+◌, Bool, true, false, List, [], ◌∷◌, ◌++◌, length, map, refl, ap, sym, ◌∙◌, subst, arith}
use Rattle.std.proofs.lemmas.List.{map-append}
use Rattle.std.specs.Prelude.{pos, Option, Some, None, is_some, ◌==◌, not, ◌||◌, nat_lt, drop, codes, slice_get, slice_set}
use Rattle.std.specs.List.{list_any}
use Rattle.text_model.specs.Characters.{Ch}
use Rattle.text_model.specs.Codings.{Coding, decoded, all_decoded}
use Rattle.text_model.specs.Properties.{Cell, bare}
use Rattle.editor_model.specs.Values.{Value, T, Int, at_place, Reply, Answered, Fault, Prim, StartProcess, KillBuffer, ProcessSendString, ProcessSendEof, DeleteProcess, Form, Forms, NoForms, Then, Do, Setq, In, WhenEq, Block, SaveExcursion, SaveRestriction, SaveCurrentBuffer, InhibitHooks, InhibitReadOnly, HandlerDef, equal}
use Rattle.editor_model.specs.Editor.{is_live, killed}
use Rattle.editor_model.specs.Arguments.{arg, string_of, buffer_of}
use Rattle.editor_model.specs.Answers.{Test, first_fault}
use Rattle.editor_model.specs.TextCalls.{prepare_output}
use Rattle.editor_model.specs.Table.{Change, Commit, query, apply, prepare, Prepared, Changes, Quiet, Nothing, Barred, Done, Failed, commit}
use Rattle.editor_model.specs.Prims.{OnlyAsks, SetsState, ChangesText, ConcernsHandlers, manner_of}
use Rattle.plain_machine.specs.Exchanges.{Ask, Spawn, Read, AskEnd, Send, Close, Kill, Answer, Started, Sent, Broken, Closed, Killed, Bytes, End, Code, Signal, Running, Exchange}
use Rattle.plain_machine.specs.State.{State, hooks_of, Program, Process, Status, Runs, Exited, Signalled, Lost, process, change_process, read_so_far}
use Rattle.plain_machine.specs.Lines.{Kind, KilledLast, OfBefore, OfAfter, OfFilter, OfSentinel}
use Rattle.plain_machine.specs.Items.{Item, Top, Body, DoForm, MakeCall, Leave, GiveAnswer, Refuse, MakeChange, Hooks, Calm, CommitChange, Enter, Native, Called, Exit, Wait, Delete, Finish, WriteDump, Target, Nowhere, ToName, ToNative, Waiting, Config, Next, Step, Goes, Asks, Ended}
use Rattle.plain_machine.specs.Calls.{silent, on, answered, unless, call, process_effect, spawned, started, is_new_child, sent_answer, closed_answer, with_input_closed, send, send_eof, change_call, with_editor, call_by, spawned_child, unless_fault}
use Rattle.plain_machine.specs.Refusals.{process_tests, may_ask, must_be_replaceable}
use Rattle.plain_machine.specs.Arguments.{process_of, child_of, is_closed, encoded, handler_def, running_in, runs}
use Rattle.plain_machine.specs.Step.{step, item_step}
use Rattle.plain_machine.specs.Forms.{dropped, restored, evaluate, do_form, block, give, kept_reply, commit_change, at_kept, saved_of, popped, bracket, says, current, after_commit, call_with, when_eq}
use Rattle.plain_machine.specs.Handling.{mark_of_process, second, sentinel_words, plain_text, enter, body_of, default_handler, put_in, output_in, process_buffer_of, native, left_state, ended_handler, without_hooks_item, named_body, native_next}
use Rattle.plain_machine.specs.Waits.{ask_process, asked_more, read_answer, end_answer, drain, is_room, entry_of, counts, more_characters, ends, exit_text, is_eligible, target_is_eligible, from_eligible, eligible, delete, kill_answer, kill_at_end, finish, wait, ask_if, ask_next, delete_one, delete_running, hear, is_eligible_one, kill_live, wait_case, finish_one, finish_running}
use Rattle.machine_laws.proofs.Keeping.{Core, core, cores, fixed, change_cores, step_keeps}
use Rattle.machine_laws.proofs.Moves.{IsHook, Plain, AllPlain, Valid, Silent, Nobody, Output, coming, output_of, Working, phase, IsIdle, IsNew, IsLast, Still, Ends, Moves, rests, enters, spawns, hears, drains, dies, closes, passes, kills, dumps}
use Rattle.machine_laws.proofs.Basics.{and_left, or_nil}

-- what is to be shown of a step of an item that enters nobody
abbrev Does : State → Step → Type 0
Does s (Goes n) = AllPlain n.config.work × Silent n.said
Does s (Asks ask next) = (answer : Answer) (n : Next) → next answer ≡ Some n → Moves (cores s) Nobody Working (record { ask = ask; answer = answer } ∷ []) n.said (cores n.config.state) (coming n.config.work) (phase n.config.work) × Valid n.config.work
Does s Ended = Unit {0}

-- WORK
plain_valid : (work : List Item) → AllPlain work → Valid work
plain_valid [] r = tt
plain_valid (Enter kind handler args ∷ work) r = r.1
plain_valid (Finish p ∷ work) r = absurd r.0
plain_valid (WriteDump ∷ work) r = absurd r.0
plain_valid (_ ∷ work) r = r

plain_phase : (work : List Item) → AllPlain work → phase work ≡ Working
plain_phase [] r = absurd r
plain_phase (Finish p ∷ work) r = absurd r.0
plain_phase (WriteDump ∷ work) r = absurd r.0
plain_phase (_ ∷ work) r = refl

hook_coming : (kind : Kind) (handler : Option ℕ) (args : List Value) (work : List Item) → IsHook kind → coming (Enter kind handler args ∷ work) ≡ Nobody
hook_coming (OfFilter p) handler args work h = absurd h
hook_coming (OfSentinel p) handler args work h = absurd h
hook_coming (OfBefore b) handler args work h = refl
hook_coming (OfAfter b) handler args work h = refl

plain_coming : (work : List Item) → AllPlain work → coming work ≡ Nobody
plain_coming [] r = absurd r
plain_coming (Enter kind handler args ∷ work) r = hook_coming kind handler args work r.0
plain_coming (_ ∷ work) r = refl

plain_dropped : (f : Fault) (work : List Item) (s : State) → AllPlain work → AllPlain (dropped f work s).work
plain_dropped f [] s r = r
plain_dropped f (Top forms ∷ rest) s r = r
plain_dropped f (Called i args past ∷ rest) s r = r
plain_dropped f (Exit kind handler c faulted ∷ rest) s r = r
plain_dropped f (Leave kept ∷ rest) s r = plain_dropped f rest (restored kept s) r.1
plain_dropped f (CommitChange c ∷ rest) s r = plain_dropped f rest (popped s) r.1
plain_dropped f (_ ∷ rest) s r = plain_dropped f rest s r.1

plain_kept : (reply : Reply) (work : List Item) → AllPlain work → AllPlain (kept_reply reply work)
plain_kept reply (Called i args past ∷ rest) r = r
plain_kept reply work r = r

plain_without : (work : List Item) → AllPlain work → AllPlain (without_hooks_item work)
plain_without (Hooks kind names args ∷ rest) r = r.1
plain_without work r = r

plain_deletes : (ps : List ℕ) (work : List Item) → AllPlain work → AllPlain (map Delete ps ++ work)
plain_deletes [] work r = r
plain_deletes (p ∷ ps) work r = (tt, plain_deletes ps work r)

plain_bracket : (b : Bool) (kind : Kind) (names : List ℕ) (args : List Value) (work : List Item) → IsHook kind → AllPlain work → AllPlain (bracket b kind names args work)
plain_bracket true kind names args work h r = r
plain_bracket false kind names args work h r = (h, (tt, r))

plain_put_in : (s : State) (p : Prepared) (work : List Item) → AllPlain work → AllPlain (put_in s p work).work
plain_put_in s (Changes c) work r = (tt, r)
plain_put_in s (Quiet c) work r = r
plain_put_in s (Nothing v) work r = r
plain_put_in s (Barred f) work r = (tt, r)

plain_output_in : (s : State) (o : Option ℕ) (mark : ℕ) (text : List Cell) (work : List Item) → AllPlain work → AllPlain (output_in s o mark text work).work
plain_output_in s None mark text work r = r
plain_output_in s (Some b) mark text work r = plain_put_in (current b s) (prepare_output s.editor b mark text) work r

plain_default : (s : State) (kind : Kind) (args : List Value) (work : List Item) → AllPlain work → AllPlain (default_handler s kind args work).work
plain_default s (OfFilter p) args work r = plain_output_in s (process_buffer_of s p) (mark_of_process s p) (plain_text (second args)) work r
plain_default s (OfSentinel p) args work r = plain_output_in s (process_buffer_of s p) (mark_of_process s p) (sentinel_words s p (plain_text (second args))) work r
plain_default s (OfBefore b) args work r = r
plain_default s (OfAfter b) args work r = r

plain_body : (program : Program) (s : State) (kind : Kind) (handler : Option ℕ) (args : List Value) (work : List Item) → AllPlain work → AllPlain (body_of program s kind handler args work).work
plain_body program s kind None args work r = plain_default (record s { scopes = [] ∷ s.scopes }) kind args work r
plain_body program s kind (Some name) args work r = go (handler_def program.handlers name)
  where
    go : (o : Option HandlerDef) → let k : Config = named_body program s o name args (work) in AllPlain k.work
    go None = (tt, r)
    go (Some d) = (tt, r)

plain_entered : (program : Program) (s : State) (kind : Kind) (handler : Option ℕ) (args : List Value) (rest : List Item) → AllPlain rest → AllPlain (enter program s kind handler args rest).config.work
plain_entered program s kind handler args rest r = plain_body program (record s { depth = s.depth + 1 }) kind handler args (Exit kind handler s.editor.current false ∷ rest) (tt, r)

plain_ended : (kind : Kind) (faulted : Bool) (t : State) (rest : List Item) → AllPlain rest → AllPlain (ended_handler kind faulted t rest).work
plain_ended (OfFilter p) faulted t rest r = r
plain_ended (OfSentinel p) faulted t rest r = r
plain_ended (OfBefore b) true t rest r = plain_without rest r
plain_ended (OfBefore b) false t rest r = r
plain_ended (OfAfter b) true t rest r = plain_without rest r
plain_ended (OfAfter b) false t rest r = r

-- FORMS AND CALLS
if_does : (s : State) (b : Bool) (x y : Step) → Does s x → Does s y → Does s (elim b [ true ↦ x | false ↦ y ])
if_does s true x y h k = h
if_does s false x y h k = k

answered_does : (s t : State) (target : Target) (r : Reply) (rest : List Item) → AllPlain rest → Does s (answered t target r rest)
answered_does s t target (Answered v) rest h = ((tt, h), tt)
answered_does s t target (Reply.Refused f) rest h = ((tt, h), tt)

unless_does : (tests : List Test) (s : State) (rest : List Item) (t : Step) → AllPlain rest → Does s t → Does s (unless tests s rest t)
unless_does tests s rest t r h = (elim (first_fault tests) as (λ o. Does s (unless_fault o s rest t)) [ Some f ↦ ((tt, r), tt) | None ↦ h ])

change_call_does : (s : State) (target : Target) (rest : List Item) (p : Prepared) → AllPlain rest → Does s (change_call s target rest p)
change_call_does s target rest (Changes c) r = ((tt, (tt, r)), tt)
change_call_does s target rest (Quiet c) r = ((tt, r), tt)
change_call_does s target rest (Nothing v) r = ((tt, r), tt)
change_call_does s target rest (Barred f) r = ((tt, r), tt)

-- an answer that changes no process's output
resting : (s : State) (ask : Ask) (answer : Answer) (m n : Next) → IsIdle (cores s) ask answer → Still (record { ask = ask; answer = answer } ∷ []) → AllPlain m.config.work → Silent m.said → cores m.config.state ≡ cores s → Some m ≡ Some n →
    Moves (cores s) Nobody Working (record { ask = ask; answer = answer } ∷ []) n.said (cores n.config.state) (coming n.config.work) (phase n.config.work) × Valid n.config.work
resting s ask answer m n i still r q k e =
    let p : m ≡ n = cc in
    subst (λ (n : Next). Moves (cores s) Nobody Working (record { ask = ask; answer = answer } ∷ []) n.said (cores n.config.state) (coming n.config.work) (phase n.config.work) × Valid n.config.work) p
    (rests refl (plain_coming m.config.work r) k (i, refl) q refl (plain_phase m.config.work r) still, plain_valid m.config.work r)

eof_does : (s : State) (target : Target) (rest : List Item) (p : ℕ) (closed : Bool) → AllPlain rest → Does s (send_eof s target rest p closed)
eof_does s target rest p true r = ((tt, r), tt)
eof_does s target rest p false r = go
  where
    go : (answer : Answer) (n : Next) → closed_answer s target rest p answer ≡ Some n → Moves (cores s) Nobody Working (record { ask = Close (child_of s p); answer = answer } ∷ []) n.said (cores n.config.state) (coming n.config.work) (phase n.config.work) × Valid n.config.work
    go Closed n e = resting s (Close (child_of s p)) Closed _ n tt (refl, λ c. refl) (tt, r) tt (change_cores p with_input_closed (record s { asked = s.asked + 1 }) (λ y. refl)) e
    go _ n e = cc

send_does : (s : State) (target : Target) (rest : List Item) (child : ℕ) (bytes : List ℕ) → AllPlain rest → Does s (send s target rest child bytes)
send_does s target rest child [] r = ((tt, r), tt)
send_does s target rest child (b ∷ bytes) r = go
  where
    go : (answer : Answer) (n : Next) → sent_answer s target rest (length (b ∷ bytes)) answer ≡ Some n → Moves (cores s) Nobody Working (record { ask = Send child (b ∷ bytes); answer = answer } ∷ []) n.said (cores n.config.state) (coming n.config.work) (phase n.config.work) × Valid n.config.work
    go Sent n e = resting s (Send child (b ∷ bytes)) Sent _ n tt (refl, λ c. refl) (tt, r) tt refl e
    go Broken n e = resting s (Send child (b ∷ bytes)) Broken _ n tt (refl, λ c. refl) (tt, r) tt refl e
    go _ n e = cc

-- a new child is the child of no process
other_child : (a child : ℕ) → not (a == child) ≡ true → a ≡ child → ⊥
other_child a child h e = grind arith

not_or : (a b : Bool) → not (a || b) ≡ true → (not a ≡ true) × (not b ≡ true)
not_or true b h = cc
not_or false b h = (refl, h)

new_in : (child : ℕ) (xs : List Process) → not (list_any (λ x. x.child == child) xs) ≡ true → IsNew child (map core xs)
new_in child [] h p x e k = cc
new_in child (y ∷ xs) h zero x e k =
    let b : (not (y.child == child) ≡ true) × (not (list_any (λ x. x.child == child) xs) ≡ true) = not_or (y.child == child) (list_any (λ x. x.child == child) xs) h in
    let q : core y ≡ x = cc in
    other_child y.child child b.0 (ap (λ (c : Core). c.child) q ∙ k)
new_in child (y ∷ xs) h (suc p) x e k =
    let b : (not (y.child == child) ≡ true) × (not (list_any (λ x. x.child == child) xs) ≡ true) = not_or (y.child == child) (list_any (λ x. x.child == child) xs) h in
    new_in child xs b.1 p x e k

spawn_does : (s : State) (target : Target) (rest : List Item) (name b : Value) (program : List ℕ) (words : List (List ℕ)) → AllPlain rest → Does s (Asks (Spawn program words) (spawned s target rest name b))
spawn_does s target rest name b program words r = go
  where
    made : (child : ℕ) (new : Bool) → is_new_child s child ≡ new → (n : Next) → spawned_child new s target rest name b child ≡ Some n →
        Moves (cores s) Nobody Working (record { ask = Spawn program words; answer = Started child } ∷ []) n.said (cores n.config.state) (coming n.config.work) (phase n.config.work) × Valid n.config.work
    made child false h n e = cc
    made child true h n e =
        let p : silent (started s name b child) (GiveAnswer (Value.TheProcess (length s.processes)) target ∷ rest) ≡ n = cc in
        subst (λ (n : Next). Moves (cores s) Nobody Working (record { ask = Spawn program words; answer = Started child } ∷ []) n.said (cores n.config.state) (coming n.config.work) (phase n.config.work) × Valid n.config.work) p
        (spawns child refl refl (map-append core s.processes _) (new_in child s.processes h) (tt, refl) refl refl refl (refl, λ c. refl), (tt, r))

    go : (answer : Answer) (n : Next) → spawned s target rest name b answer ≡ Some n → Moves (cores s) Nobody Working (record { ask = Spawn program words; answer = answer } ∷ []) n.said (cores n.config.state) (coming n.config.work) (phase n.config.work) × Valid n.config.work
    go (Started child) n e = made child (is_new_child s child) refl n e
    go Answer.Refused n e = resting s (Spawn program words) Answer.Refused _ n tt (refl, λ c. refl) (tt, r) tt refl e
    go _ n e = cc

effect_does : (s : State) (target : Target) (rest : List Item) (prim : Prim) (args : List Value) → AllPlain rest → Does s (process_effect s target rest prim args)
effect_does s target rest StartProcess args r = spawn_does s target rest (arg args 0) (arg args 1) (encoded (string_of (arg args 2))) (map (λ v. encoded (string_of v)) (drop 3 args)) r
effect_does s target rest KillBuffer args r = (plain_deletes (running_in s (buffer_of s.editor (arg args 0))) _ (tt, r), tt)
effect_does s target rest DeleteProcess args r = ((tt, (tt, r)), tt)
effect_does s target rest ProcessSendEof args r = eof_does s target rest (process_of s (arg args 0)) (is_closed s (process_of s (arg args 0))) r
effect_does s target rest ProcessSendString args r = send_does s target rest (child_of s (process_of s (arg args 0))) (encoded (string_of (arg args 1))) r
effect_does s target rest _ args r = ((tt, r), tt)

call_does : (program : Program) (bound : ℕ) (s : State) (target : Target) (rest : List Item) (prim : Prim) (args : List Value) → AllPlain rest → Does s (call program bound s target rest prim args)
call_does program bound s target rest prim args r =
    (elim (manner_of prim) as (λ m. Does s (call_by m program bound s target rest prim args)) [
      | OnlyAsks ↦ answered_does s s target (query s.editor prim args) rest r
      | SetsState ↦ answered_does s _ target (apply s.editor prim args).reply rest r
      | ChangesText ↦ change_call_does s target rest (prepare s.editor prim args) r
      | ConcernsHandlers ↦ unless_does (process_tests program bound s prim args) s rest (process_effect s target rest prim args) r (effect_does s target rest prim args r)
    ])

evaluated_does : (s : State) (rest : List Item) (o : Option (List Value)) (prim : Prim) (target : Target) → AllPlain rest → Does s (call_with o prim target s rest)
evaluated_does s rest None prim target r = ((tt, r), tt)
evaluated_does s rest (Some args) prim target r = ((tt, r), tt)

block_does : (k : Block) (forms : Forms) (s : State) (rest : List Item) → AllPlain rest → Does s (block k forms s rest)
block_does SaveExcursion forms s rest r = ((tt, (tt, r)), tt)
block_does SaveRestriction forms s rest r = ((tt, (tt, r)), tt)
block_does SaveCurrentBuffer forms s rest r = ((tt, (tt, r)), tt)
block_does InhibitHooks forms s rest r = ((tt, (tt, r)), tt)
block_does InhibitReadOnly forms s rest r = ((tt, (tt, r)), tt)

pair_does : (s : State) (rest : List Item) (o : Option (List Value)) (forms : Forms) → AllPlain rest → Does s (when_eq o forms s rest)
pair_does s rest None forms r = ((tt, r), tt)
pair_does s rest (Some []) forms r = ((tt, r), tt)
pair_does s rest (Some (x ∷ [])) forms r = ((tt, r), tt)
pair_does s rest (Some (x ∷ y ∷ [])) forms r = if_does s (equal x y) _ _ ((tt, r), tt) (r, tt)
pair_does s rest (Some (x ∷ y ∷ z ∷ more)) forms r = ((tt, r), tt)

form_does : (s : State) (rest : List Item) (f : Form) → AllPlain rest → Does s (do_form s rest f)
form_does s rest (Do c) r = evaluated_does s rest (evaluate s c.args) c.prim Nowhere r
form_does s rest (Setq name c) r = evaluated_does s rest (evaluate s c.args) c.prim (ToName name) r
form_does s rest (In k forms) r = block_does k forms s rest r
form_does s rest (WhenEq a b forms) r = pair_does s rest (evaluate s (a ∷ b ∷ [])) forms r

give_does : (program : Program) (s : State) (v : Value) (target : Target) (rest : List Item) → AllPlain rest → Does s (Goes (give program s v target rest))
give_does program s v Nowhere rest r = (r, (tt, tt))
give_does program s v (ToName name) rest r = (r, (tt, tt))
give_does program s v ToNative rest r = (plain_kept (Answered v) rest r, (tt, tt))

-- CHANGES AND HANDLERS
commit_does : (s : State) (c : Change) (rest : List Item) → AllPlain rest → Does s (commit_change s c rest)
commit_does s c rest r =
    let done : Commit = commit s.editor (at_kept c (saved_of s)) in
    (elim done.committed as (λ k. Does s (after_commit done.editor k s c rest)) [ Failed f ↦ ((tt, r), tt) | Done from to old ↦ (plain_bracket s.inhibited (OfAfter c.buffer) (hooks_of s.hooks c.buffer).after (at_place from ∷ at_place to ∷ Int (pos old) ∷ []) rest tt r, tt) ])

callable_does : (s : State) (rest : List Item) (b : Bool) (prim : Prim) (args : List Value) (f : Fault) → AllPlain rest → Does s (on s (elim b [ true ↦ MakeCall prim args ToNative | false ↦ Refuse f ] ∷ rest))
callable_does s rest true prim args f r = ((tt, r), tt)
callable_does s rest false prim args f r = ((tt, r), tt)

native_does : (program : Program) (s : State) (i : ℕ) (args : List Value) (past : List Reply) (rest : List Item) → AllPlain rest → Does s (native program s i args past rest)
native_does program s i args past rest r = go (nat_lt (length past) 256) (program.does i args past)
  where
    go : (b : Bool) (o : Option (Prim × List Value)) → Does s (native_next b o program s i args past rest)
    go false o = (r, tt)
    go true None = (r, tt)
    go true (Some c) = callable_does s (Called i args past ∷ rest) (Rattle.plain_machine.specs.Natives.is_callable program s c) c.0 (map Rattle.plain_machine.specs.Natives.normal c.1) Fault.WrongType (tt, r)

-- WAITS AND ENDS
coming_of_text : (text : List Ch) → text ≡ map (λ c. c.0) (bare text)
coming_of_text [] = refl
coming_of_text (c ∷ text) = ap (λ cs. c ∷ cs) (coming_of_text text)

entry_coming : (s : State) (p : ℕ) (x : Process) (text : List Ch) (work : List Item) → AllPlain work → (coming (entry_of s p x text work) ≡ output_of p text) × Valid (entry_of s p x text work) × (phase (entry_of s p x text work) ≡ Working)
entry_coming s p x [] work r = (plain_coming work r, plain_valid work r, plain_phase work r)
entry_coming s p x (c ∷ text) work r = (ap (λ cs. Output p (c ∷ cs)) (sym (coming_of_text text)), r, refl)

-- a change of one process, seen so
set_cores : (xs : List Process) (p : ℕ) (x y : Process) → map core (slice_set xs p y) ≡ slice_set (map core xs) p (core y)
set_cores [] p x y = refl
set_cores (z ∷ xs) zero x y = refl
set_cores (z ∷ xs) (suc p) x y = ap (λ cs. core z ∷ cs) (set_cores xs p x y)

pub get_cores : (xs : List Process) (p : ℕ) (x : Process) → slice_get xs p ≡ Some x → slice_get (map core xs) p ≡ Some (core x)
get_cores [] p x e = cc
get_cores (z ∷ xs) zero x e = let q : z ≡ x = cc in ap (λ y. Some (core y)) q
get_cores (z ∷ xs) (suc p) x e = get_cores xs p x e

get_none : (xs : List Process) (p : ℕ) → slice_get xs p ≡ None → slice_get (map core xs) p ≡ None
get_none [] p e = refl
get_none (z ∷ xs) zero e = cc
get_none (z ∷ xs) (suc p) e = get_none xs p e

changed_cores : (p : ℕ) (f : Process → Process) (s : State) (x : Process) → process s p ≡ Some x → cores (change_process p f s) ≡ slice_set (cores s) p (core (f x))
changed_cores p f s x e =
    (subst (λ o. cores (elim o [ None ↦ s | Some x ↦ record s { processes = slice_set s.processes p (f x) } ]) ≡ slice_set (cores s) p (core (f x))) (sym e) (set_cores s.processes p x (f x)))

pub may_have : (o : Option (List ℕ)) (c : Coding) → is_some o ≡ true → c ≡ fixed o c
may_have (Some bytes) c h = refl
may_have None c h = cc

module _ (s : State) (target : Target) (rest : List Item) (r : AllPlain rest) where
  abbrev Comes : Ask → Answer → Next → Type 0
  Comes ask answer n = Moves (cores s) Nobody Working (record { ask = ask; answer = answer } ∷ []) n.said (cores n.config.state) (coming n.config.work) (phase n.config.work) × Valid n.config.work

  comes : (ask : Ask) (answer : Answer) (m n : Next) → Some m ≡ Some n → Comes ask answer m → Comes ask answer n
  comes ask answer m n e h = let p : m ≡ n = cc in subst (λ (n : Next). Comes ask answer n) p h

  read_does : (w : Waiting) (p : ℕ) (x : Process) → process s p ≡ Some x → runs x.status ≡ true → x.drained ≡ false → (answer : Answer) (n : Next) → read_answer s w target rest p x answer ≡ Some n → Comes (Read x.child) answer n
  read_does w p x h live undrained = go
    where
      last : (answer : Answer) → IsLast answer → (n : Next) → drain s w target rest p x ≡ Some n → Comes (Read x.child) answer n
      last answer l n e =
          let text : List Ch = more_characters (decoded x.coding (read_so_far x)) (all_decoded x.coding (read_so_far x)) in
          let t : (coming (entry_of s p x text (Wait w target ∷ rest)) ≡ output_of p text) × Valid (entry_of s p x text (Wait w target ∷ rest)) × (phase (entry_of s p x text (Wait w target ∷ rest)) ≡ Working) = entry_coming s p x text (Wait w target ∷ rest) (tt, r) in
          comes (Read x.child) answer _ n e
          (drains p (core x) x.coding answer (may_have x.bytes x.coding) l refl (get_cores s.processes p x h) live undrained refl refl (changed_cores p (λ y. record y { drained = true }) (asked_more s) x h) t.0 refl t.2, t.1)

      heard : (bytes : List ℕ) (room : Bool) (n : Next) → hear room s w target rest p x bytes ≡ Some n → Comes (Read x.child) (Bytes bytes) n
      heard bytes false n e = cc
      heard bytes true n e =
          let text : List Ch = more_characters (decoded x.coding (read_so_far x)) (decoded x.coding (read_so_far x ++ bytes)) in
          let w' : Waiting = record w { counted = w.counted || counts w p } in
          let t : (coming (entry_of s p x text (Wait w' target ∷ rest)) ≡ output_of p text) × Valid (entry_of s p x text (Wait w' target ∷ rest)) × (phase (entry_of s p x text (Wait w' target ∷ rest)) ≡ Working) = entry_coming s p x text (Wait w' target ∷ rest) (tt, r) in
          comes (Read x.child) (Bytes bytes) _ n e
          (hears p (core x) x.coding bytes (may_have x.bytes x.coding) refl (get_cores s.processes p x h) live undrained refl refl (changed_cores p (λ y. record y { bytes = Some (read_so_far x ++ bytes) }) (asked_more s) x h) t.0 refl t.2, t.1)

      go : (answer : Answer) (n : Next) → read_answer s w target rest p x answer ≡ Some n → Comes (Read x.child) answer n
      go (Bytes bytes) n e = heard bytes (is_room bytes) n e
      go Answer.Nothing n e = resting s (Read x.child) Answer.Nothing _ n tt (refl, λ c. refl) (tt, r) tt refl e
      go End n e = last End tt n e
      go Answer.Failed n e = last Answer.Failed tt n e
      go _ n e = cc

  -- the process ends
  ends_does : (t : State) (ask : Ask) (answer : Answer) (p : ℕ) (x : Process) (status : Status) (text : List ℕ) (work : List Item) → AllPlain work → process s p ≡ Some x → t.processes ≡ s.processes → runs x.status ≡ true → runs status ≡ false → IsIdle (cores s) ask answer → Ends x.child (record { ask = ask; answer = answer } ∷ []) → (n : Next) →
      Some (ends t p x status text work) ≡ Some n → Comes ask answer n
  ends_does t ask answer p x status text work k h same live dead i gone n e =
      let q : process t p ≡ Some x = ap (λ xs. slice_get xs p) same ∙ h in
      let d : cores (change_process p (λ y. record y { status = status }) t) ≡ slice_set (cores s) p (core (record x { status = status })) = changed_cores p (λ y. record y { status = status }) t x q ∙ ap (λ xs. slice_set (map core xs) p (core (record x { status = status }))) same in
      comes ask answer _ n e
      (dies p (core x) refl (get_cores s.processes p x h) live (i, refl) refl (d ∙ ap (λ b. slice_set (cores s) p (record (core x) { live = b })) dead) refl refl refl gone, k)

  end_does : (w : Waiting) (p : ℕ) (x : Process) → process s p ≡ Some x → runs x.status ≡ true → x.drained ≡ true → (answer : Answer) (n : Next) → end_answer s w target rest p x answer ≡ Some n → Comes (AskEnd x.child) answer n
  end_does w p x h live closed = go
    where
      go : (answer : Answer) (n : Next) → end_answer s w target rest p x answer ≡ Some n → Comes (AskEnd x.child) answer n
      go (Code c) n e = ends_does (asked_more s) (AskEnd x.child) (Code c) p x (Exited c) (exit_text c) (Wait w target ∷ rest) (tt, r) h refl live refl (p, core x, get_cores s.processes p x h, refl, closed) (refl, λ c. or_nil (x.child == c)) n e
      go Signal n e = ends_does (asked_more s) (AskEnd x.child) Signal p x Signalled (codes "killed\n") (Wait w target ∷ rest) (tt, r) h refl live refl (p, core x, get_cores s.processes p x h, refl, closed) (refl, λ c. or_nil (x.child == c)) n e
      go Answer.Failed n e = ends_does (asked_more s) (AskEnd x.child) Answer.Failed p x Lost (codes "failed\n") (Wait w target ∷ rest) (tt, r) h refl live refl (p, core x, get_cores s.processes p x h, refl, closed) (refl, λ c. or_nil (x.child == c)) n e
      go Running n e = resting s (AskEnd x.child) Running _ n (p, core x, get_cores s.processes p x h, refl, closed) (refl, λ c. refl) (tt, r) tt refl e
      go _ n e = cc

  kill_does : (p : ℕ) (x : Process) → process s p ≡ Some x → runs x.status ≡ true → (answer : Answer) (n : Next) → kill_answer (ends s p x Signalled (codes "killed\n") rest) answer ≡ Some n → Comes (Kill x.child) answer n
  kill_does p x h live Killed n e = ends_does s (Kill x.child) Killed p x Signalled (codes "killed\n") rest r h refl live refl tt (refl, λ c. or_nil (x.child == c)) n e
  kill_does p x h live Answer.Failed n e = ends_does s (Kill x.child) Answer.Failed p x Signalled (codes "killed\n") rest r h refl live refl tt (refl, λ c. or_nil (x.child == c)) n e
  kill_does p x h live _ n e = cc

  ask_does : (w : Waiting) (p : ℕ) → ((x : Process) → process s p ≡ Some x → runs x.status ≡ true) → Does s (ask_process s w target rest p)
  ask_does w p live = go (may_ask s) (process s p) refl
    where
      which : (x : Process) → process s p ≡ Some x → (b : Bool) → x.drained ≡ b → Does s (ask_next b s w target rest p x)
      which x h true e = end_does w p x h (live x h) e
      which x h false e = read_does w p x h (live x h) e

      go : (b : Bool) (o : Option Process) → process s p ≡ o → Does s (ask_if b o s w target rest p)
      go false o e = ((tt, r), tt)
      go true None e = (r, tt)
      go true (Some x) e = which x e x.drained refl

  delete_does : (p : ℕ) → Does s (delete s p rest)
  delete_does p = go (process s p) refl
    where
      by_status : (x : Process) → process s p ≡ Some x → (k : Status) → x.status ≡ k → Does s (delete_running k s p x rest)
      by_status x h Runs e = kill_does p x h (ap runs e)
      by_status x h _ e = (r, tt)

      go : (o : Option Process) → process s p ≡ o → Does s (delete_one s p o rest)
      go None e = (r, tt)
      go (Some x) e = by_status x e x.status refl

-- who is asked runs
fit_runs : (s : State) (w : Waiting) (p : ℕ) (x : Process) → is_eligible s w p ≡ true → process s p ≡ Some x → runs x.status ≡ true
fit_runs s w p x h e =
    let k : (o : Option Process) → o ≡ Some x → (is_eligible_one w p o) ≡ true → runs x.status ≡ true =
    λ o e h. and_left (runs x.status) _ (subst (λ o. (is_eligible_one w p o) ≡ true) e h) in
    k (process s p) e h

pub first_fit : (s : State) (w : Waiting) (asking : List ℕ) (p : ℕ) (more : List ℕ) → from_eligible s w asking ≡ p ∷ more → is_eligible s w p ≡ true
first_fit s w [] p more e = cc
first_fit s w (q ∷ asking) p more e = go (is_eligible s w q) (first_fit s w asking p more) refl e
  where
    go : (b : Bool) → (from_eligible s w asking ≡ p ∷ more → is_eligible s w p ≡ true) → is_eligible s w q ≡ b → elim b [ true ↦ q ∷ asking | false ↦ from_eligible s w asking ] ≡ p ∷ more → is_eligible s w p ≡ true
    go true ih h e = let k : q ≡ p = cc in subst (λ q. is_eligible s w q ≡ true) k h
    go false ih h e = ih e

wait_does : (s : State) (w : Waiting) (target : Target) (rest : List Item) → AllPlain rest → Does s (wait s w target rest)
wait_does s w target rest r = go w.counted (target_is_eligible s w) (from_eligible s w w.asking) refl (eligible s w) w.rounds
  where
    go : (counted fit : Bool) (asking : List ℕ) → from_eligible s w w.asking ≡ asking → (all : List ℕ) (rounds : ℕ) → Does s (wait_case counted fit asking all rounds s w target rest)
    go true fit asking e all rounds = ((tt, r), tt)
    go false false asking e all rounds = ((tt, r), tt)
    go false true (p ∷ more) e all rounds = ask_does s target rest r (record w { asking = more }) p (λ x h. fit_runs s w p x (first_fit s w w.asking p more e) h)
    go false true [] e [] rounds = ((tt, r), tt)
    go false true [] e (p ∷ more) zero = ((tt, r), tt)
    go false true [] e (p ∷ more) (suc n) = ((tt, r), tt)

kill_buffer_does : (s : State) (b : ℕ) (target : Target) (rest : List Item) → AllPlain rest → Does s (kill_at_end s b target rest)
kill_buffer_does s b target rest r = go (is_live s.editor b)
  where
    go : (v : Bool) → Does s (kill_live v s b target rest)
    go false = ((tt, r), tt)
    go true = unless_does (must_be_replaceable s.editor b ∷ []) s rest (on (with_editor (killed b s.editor) s) (GiveAnswer T target ∷ rest)) r ((tt, r), tt)

-- EACH ITEM
item_does : (program : Program) (bound : ℕ) (s : State) (rest : List Item) (item : Item) → Plain item → AllPlain rest → Does s (item_step program bound s rest item)
item_does program bound s rest (Top forms) h r = absurd h
item_does program bound s rest (Body NoForms) h r = (r, tt)
item_does program bound s rest (Body (Then form forms)) h r = ((tt, (tt, r)), tt)
item_does program bound s rest (DoForm form) h r = form_does s rest form r
item_does program bound s rest (MakeCall prim args target) h r = call_does program bound s target rest prim args r
item_does program bound s rest (Leave kept) h r = (r, tt)
item_does program bound s rest (GiveAnswer v target) h r = give_does program s v target rest r
item_does program bound s rest (Refuse f) h r = (plain_dropped f rest s r, (tt, tt))
item_does program bound s rest (MakeChange c) h r = (plain_bracket s.inhibited (OfBefore c.buffer) _ _ (CommitChange c ∷ rest) tt (tt, r), tt)
item_does program bound s rest (Hooks kind [] args) h r = (r, tt)
item_does program bound s rest (Hooks kind (n ∷ names) args) h r = ((h, (h, r)), tt)
item_does program bound s rest (Calm old) h r = (r, tt)
item_does program bound s rest (CommitChange c) h r = commit_does s c rest r
item_does program bound s rest (Enter kind handler args) h r = (plain_entered program s kind handler args rest r, (h, tt))
item_does program bound s rest (Native i args past) h r = native_does program s i args past rest r
item_does program bound s rest (Called i args past) h r = (r, tt)
item_does program bound s rest (Exit kind handler c faulted) h r = (plain_ended kind faulted (left_state s c) rest r, (tt, tt))
item_does program bound s rest (Wait w target) h r = wait_does s w target rest r
item_does program bound s rest (Delete p) h r = delete_does s Nowhere rest r p
item_does program bound s rest (Item.KillBuffer b target) h r = kill_buffer_does s b target rest r
item_does program bound s rest (Finish p) h r = absurd h
item_does program bound s rest WriteDump h r = absurd h

-- EACH STEP
abbrev pub Made : Config → List Exchange → Next → Type 0
Made c xs n = Moves (cores c.state) (coming c.work) (phase c.work) xs n.said (cores n.config.state) (coming n.config.work) (phase n.config.work) × Valid n.config.work

-- what an item's step is to be
abbrev Shown : Config → Step → Type 0
Shown c (Goes n) = cores n.config.state ≡ cores c.state → Made c [] n
Shown c (Asks ask next) = (answer : Answer) (n : Next) → next answer ≡ Some n → Made c (record { ask = ask; answer = answer } ∷ []) n
Shown c Ended = Unit {0}

from_does : (c : Config) (t : Step) → coming c.work ≡ Nobody → phase c.work ≡ Working → Does c.state t → Shown c t
from_does c (Goes n) e g h = λ k. (rests e (plain_coming n.config.work h.0) k tt h.1 g (plain_phase n.config.work h.0) (refl, λ c. refl), plain_valid n.config.work h.0)
from_does c (Asks ask next) e g h = λ answer n k.
    subst (λ y. Moves (cores c.state) (coming c.work) y (record { ask = ask; answer = answer } ∷ []) n.said (cores n.config.state) (coming n.config.work) (phase n.config.work) × Valid n.config.work) (sym g)
    (subst (λ x. Moves (cores c.state) x Working (record { ask = ask; answer = answer } ∷ []) n.said (cores n.config.state) (coming n.config.work) (phase n.config.work) × Valid n.config.work) (sym e) (h answer n k))
from_does c Ended e g h = tt

-- the kills at the end
finish_shown : (program : Program) (s : State) (p : ℕ) (rest : List Item) → Shown (record { state = s; work = Finish p ∷ rest }) (finish program s p)
finish_shown program s p rest = go (process s p) refl
  where
    told : Next
    told = says program s (KilledLast p) s (Finish (p + 1) ∷ [])

    killed : (x : Process) → process s p ≡ Some x → runs x.status ≡ true → (answer : Answer) (n : Next) → Ends x.child (record { ask = Kill x.child; answer = answer } ∷ []) → Some told ≡ Some n → Made (record { state = s; work = Finish p ∷ rest }) (record { ask = Kill x.child; answer = answer } ∷ []) n
    killed x h live answer n e' e =
        let q : told ≡ n = cc in
        subst (λ (n : Next). Made (record { state = s; work = Finish p ∷ rest }) (record { ask = Kill x.child; answer = answer } ∷ []) n) q
        (kills p (core x) refl refl refl (tt, refl) (tt, tt) (get_cores s.processes p x h) live e' refl refl, refl)

    by_status : (x : Process) → process s p ≡ Some x → (k : Status) → x.status ≡ k → Shown (record { state = s; work = Finish p ∷ rest }) (finish_running program k s p x)
    by_status x h Runs e = asked
      where
        asked : (answer : Answer) (n : Next) → kill_answer told answer ≡ Some n → Made (record { state = s; work = Finish p ∷ rest }) (record { ask = Kill x.child; answer = answer } ∷ []) n
        asked Killed n k = killed x h (ap runs e) Killed n (refl, λ c. or_nil (x.child == c)) k
        asked Answer.Failed n k = killed x h (ap runs e) Answer.Failed n (refl, λ c. or_nil (x.child == c)) k
        asked _ n k = cc
    by_status x h _ e = λ k. (passes p (core x) refl refl k refl tt (get_cores s.processes p x h) (ap runs e) refl refl, refl)

    go : (o : Option Process) → process s p ≡ o → Shown (record { state = s; work = Finish p ∷ rest }) (finish_one program s p o)
    go None e = λ k. (Moves.ends p refl refl k refl tt (get_none s.processes p e) refl refl, refl)
    go (Some x) e = by_status x e x.status refl

shown : (program : Program) (bound : ℕ) (s : State) (work : List Item) → Valid work → Shown (record { state = s; work = work }) (step program bound (record { state = s; work = work }))
shown program bound s [] v = tt
shown program bound s (Top NoForms ∷ rest) v = λ k. (closes refl refl k refl tt refl refl, refl)
shown program bound s (Top (Then form forms) ∷ rest) v = from_does (record { state = s; work = Top (Then form forms) ∷ rest }) (item_step program bound s rest (Top (Then form forms))) refl refl ((tt, v), tt)
shown program bound s (Finish p ∷ rest) v = finish_shown program s p rest
shown program bound s (WriteDump ∷ rest) v = λ k. (dumps refl refl k refl (tt, tt) refl refl, tt)
shown program bound s (Enter (OfFilter p) handler args ∷ rest) v = λ k.
    let w : AllPlain (enter program s (OfFilter p) handler args rest).config.work = plain_entered program s (OfFilter p) handler args rest v in
    (enters _ (s.depth, handler, args, refl, refl) refl (plain_coming _ w) k refl refl (plain_phase _ w), plain_valid _ w)
shown program bound s (Enter (OfSentinel p) handler args ∷ rest) v = λ k.
    let w : AllPlain (enter program s (OfSentinel p) handler args rest).config.work = plain_entered program s (OfSentinel p) handler args rest v in
    (enters _ (s.depth, handler, args, refl) refl (plain_coming _ w) k refl refl (plain_phase _ w), plain_valid _ w)
shown program bound s (Enter (OfBefore b) handler args ∷ rest) v = from_does (record { state = s; work = Enter (OfBefore b) handler args ∷ rest }) (item_step program bound s rest (Enter (OfBefore b) handler args)) refl refl (item_does program bound s rest (Enter (OfBefore b) handler args) tt v)
shown program bound s (Enter (OfAfter b) handler args ∷ rest) v = from_does (record { state = s; work = Enter (OfAfter b) handler args ∷ rest }) (item_step program bound s rest (Enter (OfAfter b) handler args)) refl refl (item_does program bound s rest (Enter (OfAfter b) handler args) tt v)
shown program bound s (item ∷ rest) v = from_does (record { state = s; work = item ∷ rest }) (item_step program bound s rest item) refl refl (item_does program bound s rest item v.0 v.1)

-- each step of the machine is such a move
pub goes_moves : (program : Program) (bound : ℕ) (c : Config) (n : Next) → Valid c.work → step program bound c ≡ Goes n → Made c [] n
goes_moves program bound c n v e =
    let h : Shown c (Goes n) = subst (λ t. Shown c t) e (shown program bound c.state c.work v) in
    h (ap (λ k. k.0) (subst (λ t. Rattle.machine_laws.proofs.Keeping.Keeps c.state t) e (step_keeps program bound c)))

pub asks_moves : (program : Program) (bound : ℕ) (c : Config) (ask : Ask) (answer : Answer) (next : Answer → Option Next) (n : Next) → Valid c.work → step program bound c ≡ Asks ask next → next answer ≡ Some n → Made c (record { ask = ask; answer = answer } ∷ []) n
asks_moves program bound c ask answer next n v e k =
    let h : Shown c (Asks ask next) = subst (λ t. Shown c t) e (shown program bound c.state c.work v) in
    h answer n k

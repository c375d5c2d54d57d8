-- What the machine asks: a program has a name, no word of it has the byte 0, and what is sent isn't empty.
use Rattle.std.proofs.Common.{◌≡◌, ℕ, zero, suc, ◌<◌, ◌≤◌, Bool, true, false, List, [], ◌∷◌, ◌++◌, length, map, refl, sym, subst, arith, append-nil}
use Rattle.std.specs.Prelude.{Option, Some, None, ◌==◌, not, nat_lt, drop, encode_utf8, get_or, IsTrue}
use Rattle.std.specs.List.{AllByRecursion, list_all}
use Rattle.std.proofs.lemmas.Bool.{and_parts, and_from}
use Rattle.std.proofs.lemmas.Str.{inside_one, length-encode, len_utf8_bounds}
use Rattle.std.proofs.lemmas.List.{length-append}
use Rattle.text_model.specs.Characters.{Scalar, Raw}
use Rattle.text_model.specs.Properties.{Cell}
use Rattle.editor_model.specs.Values.{Value, Str, T, WrongType, Reply, Answered, Fault, Prim, StartProcess, ProcessSendString, ProcessSendEof, Form, Forms, NoForms, Then, Do, Setq, In, WhenEq, Block, SaveExcursion, SaveRestriction, SaveCurrentBuffer, InhibitHooks, InhibitReadOnly, equal, Script}
use Rattle.editor_model.specs.Editor.{is_live, killed}
use Rattle.editor_model.specs.Arguments.{arg, string_of, must_be_name}
use Rattle.editor_model.specs.Answers.{Test, refuse, first_fault}
use Rattle.editor_model.specs.Table.{Change, Commit, query, apply, prepare, Prepared, Changes, Quiet, Nothing, Barred, Done, Failed, commit}
use Rattle.editor_model.specs.Prims.{OnlyAsks, SetsState, ChangesText, ConcernsHandlers, manner_of}
use Rattle.plain_machine.specs.Exchanges.{Exchange}
use Rattle.plain_machine.specs.State.{State, Program, Process, Status, Runs, process}
use Rattle.plain_machine.specs.Items.{Item, Top, Body, DoForm, MakeCall, Leave, GiveAnswer, Refuse, MakeChange, Hooks, Calm, CommitChange, Enter, Native, Called, Exit, Wait, Delete, Finish, WriteDump, Target, Nowhere, ToName, Waiting, Config, Step, Goes, Asks, Ended}
use Rattle.plain_machine.specs.Calls.{on, answered, unless, unless_fault, call, call_by, process_call, process_effect, send, send_eof, change_call, with_editor}
use Rattle.plain_machine.specs.Refusals.{process_tests, must_be_word, must_be_replaceable}
use Rattle.plain_machine.specs.Arguments.{process_of, child_of, is_closed, encoded, is_plain, is_word, is_process_buffer}
use Rattle.plain_machine.specs.Forms.{evaluate, do_form, block, commit_change, at_kept, saved_of, after_commit, when_eq, call_with}
use Rattle.plain_machine.specs.Handling.{native, native_next}
use Rattle.plain_machine.specs.Waits.{ask_process, target_is_eligible, from_eligible, eligible, delete, kill_at_end, finish, wait, ask_if, ask_next, delete_one, delete_running, finish_one, finish_running, kill_live, wait_case}
use Rattle.plain_machine.specs.Step.{step, item_step}
use Rattle.plain_machine.proofs.Composed.{over_runs}
use Rattle.machine_laws.proofs.Tests.{refuse_ok, no_fault}
use Rattle.journal_text.specs.Allowed.{has_no_zero}
use Rattle.journal_text.specs.Lined.{IsSpoken}
use Rattle.journal_laws.specs.Spoken.{AreSpoken, AsksAreSpoken}

-- BYTES
no_zero : (b : ℕ) → (b ≡ 0 → ⊥) → not (b == 0) ≡ true
no_zero zero h = absurd (h refl)
no_zero (suc n) h = grind arith

all_nonzero : (bytes : List ℕ) → ((k : ℕ) → k < length bytes → get_or bytes k 0 ≡ 0 → ⊥) → has_no_zero bytes ≡ true
all_nonzero [] h = refl
all_nonzero (b ∷ bytes) h = and_from (not (b == 0)) (has_no_zero bytes) (no_zero b (h 0 (omega arith))) (all_nonzero bytes (λ k l. h (suc k) (omega (arith, l))))

-- a character but the code 0 has no byte 0
scalar_nonzero : (c : ℕ) → not (c == 0) ≡ true → has_no_zero (encode_utf8 c) ≡ true
scalar_nonzero zero h = cc
scalar_nonzero (suc n) h = all_nonzero (encode_utf8 (suc n)) (λ k l e.
    let same = inside_one (suc n) [] (encode_utf8 (suc n)) k (sym (append-nil (encode_utf8 (suc n)))) l (omega (arith, e)) in
    omega (arith, same, e))

both_nonzero : (a b : List ℕ) → has_no_zero a ≡ true → has_no_zero b ≡ true → has_no_zero (a ++ b) ≡ true
both_nonzero [] b h k = k
both_nonzero (x ∷ a) b h k =
    let parts = and_parts (not (x == 0)) (has_no_zero a) h in
    and_from (not (x == 0)) (has_no_zero (a ++ b)) parts.0 (both_nonzero a b parts.1 k)

plain_nonzero : (t : List Cell) → list_all is_plain t ≡ true → has_no_zero (encoded t) ≡ true
plain_nonzero [] h = refl
plain_nonzero ((Scalar n, set) ∷ t) h =
    let parts = and_parts (not (n == 0)) (list_all is_plain t) h in
    both_nonzero (encode_utf8 n) (encoded t) (scalar_nonzero n parts.0) (plain_nonzero t parts.1)
plain_nonzero ((Raw b, set) ∷ t) h = absurd (let k = h in cc)

-- a text that isn't empty has bytes
some_bytes : (t : List Cell) → nat_lt 0 (length t) ≡ true → 1 ≤ length (encoded t)
some_bytes [] h = absurd (let k = h in cc)
some_bytes ((Scalar n, set) ∷ t) h =
    let all : length (encoded ((Scalar n, set) ∷ t)) ≡ length (encode_utf8 n ++ encoded t) = refl in
    omega (arith, all, length-append (encode_utf8 n) (encoded t), length-encode n, (len_utf8_bounds n).0)
some_bytes ((Raw b, set) ∷ t) h =
    let all : length (encoded ((Raw b, set) ∷ t)) ≡ suc (length (encoded t)) = refl in
    omega (arith, all)

word_nonzero : (v : Value) → must_be_word v ≡ None → has_no_zero (encoded (string_of v)) ≡ true
word_nonzero v h = by v (refuse_ok WrongType (is_word v) h)
  where
    by : (v : Value) → is_word v ≡ true → has_no_zero (encoded (string_of v)) ≡ true
    by (Str t) e = plain_nonzero t e
    by _ e = absurd (let k = e in cc)

words_nonzero : (args : List Value) (more : List Test) → first_fault (map must_be_word args ++ more) ≡ None → AllByRecursion (λ w. IsTrue (has_no_zero w)) (map (λ v. encoded (string_of v)) args)
words_nonzero [] more h = tt
words_nonzero (v ∷ args) more h =
    let parts = no_fault (must_be_word v) (map must_be_word args ++ more) h in
    (word_nonzero v parts.0, words_nonzero args more parts.1)

-- STEPS
abbrev Speaks : Step → Type 0
Speaks (Goes n) = Unit {0}
Speaks (Asks ask next) = IsSpoken ask
Speaks Ended = Unit {0}

answered_speaks : (t : State) (target : Target) (r : Reply) (rest : List Item) → Speaks (answered t target r rest)
answered_speaks t target (Answered v) rest = tt
answered_speaks t target (Reply.Refused f) rest = tt

unless_speaks : (tests : List Test) (s : State) (rest : List Item) (t : Step) → (first_fault tests ≡ None → Speaks t) → Speaks (unless tests s rest t)
unless_speaks tests s rest t h = go (first_fault tests) refl
  where
    go : (o : Option Fault) → first_fault tests ≡ o → Speaks (unless_fault o s rest t)
    go None e = h e
    go (Some f) e = tt

change_speaks : (s : State) (target : Target) (rest : List Item) (p : Prepared) → Speaks (change_call s target rest p)
change_speaks s target rest (Changes c) = tt
change_speaks s target rest (Quiet c) = tt
change_speaks s target rest (Nothing v) = tt
change_speaks s target rest (Barred f) = tt

send_speaks : (s : State) (target : Target) (rest : List Item) (child : ℕ) (bytes : List ℕ) → Speaks (send s target rest child bytes)
send_speaks s target rest child [] = tt
send_speaks s target rest child (b ∷ bytes) = omega arith

eof_speaks : (s : State) (target : Target) (rest : List Item) (p : ℕ) (closed : Bool) → Speaks (send_eof s target rest p closed)
eof_speaks s target rest p true = tt
eof_speaks s target rest p false = tt

effect_speaks : (program : Program) (bound : ℕ) (s : State) (target : Target) (rest : List Item) (prim : Prim) (args : List Value) → first_fault (process_tests program bound s prim args) ≡ None → Speaks (process_effect s target rest prim args)
effect_speaks program bound s target rest StartProcess args h =
    let a = no_fault (must_be_name (arg args 0)) _ h in
    let b = no_fault (refuse WrongType (is_process_buffer (arg args 1))) _ a.1 in
    let c = no_fault (must_be_name (arg args 2)) _ b.1 in
    let d = no_fault (must_be_word (arg args 2)) _ c.1 in
    (some_bytes (string_of (arg args 2)) (refuse_ok WrongType (nat_lt 0 (length (string_of (arg args 2)))) c.0), word_nonzero (arg args 2) d.0, words_nonzero (drop 3 args) _ d.1)
effect_speaks program bound s target rest ProcessSendEof args h = eof_speaks s target rest (process_of s (arg args 0)) (is_closed s (process_of s (arg args 0)))
effect_speaks program bound s target rest ProcessSendString args h = send_speaks s target rest (child_of s (process_of s (arg args 0))) (encoded (string_of (arg args 1)))
effect_speaks program bound s target rest _ args h = tt

process_speaks : (program : Program) (bound : ℕ) (s : State) (target : Target) (rest : List Item) (prim : Prim) (args : List Value) → Speaks (process_call program bound s target rest prim args)
process_speaks program bound s target rest prim args = unless_speaks (process_tests program bound s prim args) s rest (process_effect s target rest prim args) (λ h. effect_speaks program bound s target rest prim args h)

call_speaks : (program : Program) (bound : ℕ) (s : State) (target : Target) (rest : List Item) (prim : Prim) (args : List Value) → Speaks (call program bound s target rest prim args)
call_speaks program bound s target rest prim args =
    (elim (manner_of prim) as (λ m. Speaks (call_by m program bound s target rest prim args)) [
      | OnlyAsks ↦ answered_speaks s target (query s.editor prim args) rest
      | SetsState ↦ answered_speaks _ target (apply s.editor prim args).reply rest
      | ChangesText ↦ change_speaks s target rest (prepare s.editor prim args)
      | ConcernsHandlers ↦ process_speaks program bound s target rest prim args
    ])

evaluated_speaks : (s : State) (rest : List Item) (o : Option (List Value)) (prim : Prim) (target : Target) → Speaks (call_with o prim target s rest)
evaluated_speaks s rest None prim target = tt
evaluated_speaks s rest (Some args) prim target = tt

block_speaks : (k : Block) (forms : Forms) (s : State) (rest : List Item) → Speaks (block k forms s rest)
block_speaks SaveExcursion forms s rest = tt
block_speaks SaveRestriction forms s rest = tt
block_speaks SaveCurrentBuffer forms s rest = tt
block_speaks InhibitHooks forms s rest = tt
block_speaks InhibitReadOnly forms s rest = tt

if_speaks : (b : Bool) (x y : Step) → Speaks x → Speaks y → Speaks (elim b [ true ↦ x | false ↦ y ])
if_speaks true x y h k = h
if_speaks false x y h k = k

pair_speaks : (s : State) (rest : List Item) (o : Option (List Value)) (forms : Forms) → Speaks (when_eq o forms s rest)
pair_speaks s rest None forms = tt
pair_speaks s rest (Some []) forms = tt
pair_speaks s rest (Some (x ∷ [])) forms = tt
pair_speaks s rest (Some (x ∷ y ∷ [])) forms = if_speaks (equal x y) _ _ tt tt
pair_speaks s rest (Some (x ∷ y ∷ z ∷ more)) forms = tt

form_speaks : (s : State) (rest : List Item) (f : Form) → Speaks (do_form s rest f)
form_speaks s rest (Do c) = evaluated_speaks s rest (evaluate s c.args) c.prim Nowhere
form_speaks s rest (Setq name c) = evaluated_speaks s rest (evaluate s c.args) c.prim (ToName name)
form_speaks s rest (In k forms) = block_speaks k forms s rest
form_speaks s rest (WhenEq a b forms) = pair_speaks s rest (evaluate s (a ∷ b ∷ [])) forms

commit_speaks : (s : State) (c : Change) (rest : List Item) → Speaks (commit_change s c rest)
commit_speaks s c rest = go (commit s.editor (at_kept c (saved_of s)))
  where
    go : (done : Commit) → Speaks (after_commit done.editor done.committed s c rest)
    go done = (elim done.committed as (λ k. Speaks (after_commit done.editor k s c rest)) [ Failed f ↦ tt | Done from to old ↦ tt ])

native_speaks : (program : Program) (s : State) (i : ℕ) (args : List Value) (past : List Reply) (rest : List Item) → Speaks (native program s i args past rest)
native_speaks program s i args past rest = go (nat_lt (length past) 256) (program.does i args past)
  where
    go : (b : Bool) (o : Option (Prim × List Value)) → Speaks (native_next b o program s i args past rest)
    go false o = tt
    go true None = tt
    go true (Some c) = tt

ask_speaks : (s : State) (w : Waiting) (target : Target) (rest : List Item) (p : ℕ) → Speaks (ask_process s w target rest p)
ask_speaks s w target rest p = go _ (process s p)
  where
    by_drained : (x : Process) (b : Bool) → Speaks (ask_next b s w target rest p x)
    by_drained x true = tt
    by_drained x false = tt

    go : (may : Bool) (o : Option Process) → Speaks (ask_if may o s w target rest p)
    go false o = tt
    go true None = tt
    go true (Some x) = by_drained x x.drained

wait_speaks : (s : State) (w : Waiting) (target : Target) (rest : List Item) → Speaks (wait s w target rest)
wait_speaks s w target rest = go w.counted (target_is_eligible s w) (from_eligible s w w.asking) (eligible s w) w.rounds
  where
    go : (counted fit : Bool) (asking all : List ℕ) (rounds : ℕ) → Speaks (wait_case counted fit asking all rounds s w target rest)
    go true fit asking all rounds = tt
    go false false asking all rounds = tt
    go false true (p ∷ more) all rounds = ask_speaks s (record w { asking = more }) target rest p
    go false true [] [] rounds = tt
    go false true [] (p ∷ more) zero = tt
    go false true [] (p ∷ more) (suc n) = tt

delete_speaks : (s : State) (p : ℕ) (rest : List Item) → Speaks (delete s p rest)
delete_speaks s p rest = go (process s p)
  where
    by_status : (x : Process) (k : Status) → Speaks (delete_running k s p x rest)
    by_status x Runs = tt
    by_status x _ = tt

    go : (o : Option Process) → Speaks (delete_one s p o rest)
    go None = tt
    go (Some x) = by_status x x.status

kill_speaks : (s : State) (b : ℕ) (target : Target) (rest : List Item) → Speaks (kill_at_end s b target rest)
kill_speaks s b target rest = go (is_live s.editor b)
  where
    go : (lives : Bool) → Speaks (kill_live lives s b target rest)
    go false = tt
    go true = unless_speaks (must_be_replaceable s.editor b ∷ []) s rest (on (with_editor (killed b s.editor) s) (GiveAnswer T target ∷ rest)) (λ e. tt)

finish_speaks : (program : Program) (s : State) (p : ℕ) → Speaks (finish program s p)
finish_speaks program s p = go (process s p)
  where
    by_status : (x : Process) (k : Status) → Speaks (finish_running program k s p x)
    by_status x Runs = tt
    by_status x _ = tt

    go : (o : Option Process) → Speaks (finish_one program s p o)
    go None = tt
    go (Some x) = by_status x x.status

item_speaks : (program : Program) (bound : ℕ) (s : State) (rest : List Item) (item : Item) → Speaks (item_step program bound s rest item)
item_speaks program bound s rest (Top NoForms) = tt
item_speaks program bound s rest (Top (Then form forms)) = tt
item_speaks program bound s rest (Body NoForms) = tt
item_speaks program bound s rest (Body (Then form forms)) = tt
item_speaks program bound s rest (DoForm form) = form_speaks s rest form
item_speaks program bound s rest (MakeCall prim args target) = call_speaks program bound s target rest prim args
item_speaks program bound s rest (Leave kept) = tt
item_speaks program bound s rest (GiveAnswer v target) = tt
item_speaks program bound s rest (Refuse f) = tt
item_speaks program bound s rest (MakeChange c) = tt
item_speaks program bound s rest (Hooks kind [] args) = tt
item_speaks program bound s rest (Hooks kind (n ∷ names) args) = tt
item_speaks program bound s rest (Calm old) = tt
item_speaks program bound s rest (CommitChange c) = commit_speaks s c rest
item_speaks program bound s rest (Enter kind handler args) = tt
item_speaks program bound s rest (Native i args past) = native_speaks program s i args past rest
item_speaks program bound s rest (Called i args past) = tt
item_speaks program bound s rest (Exit kind handler c faulted) = tt
item_speaks program bound s rest (Wait w target) = wait_speaks s w target rest
item_speaks program bound s rest (Delete p) = delete_speaks s p rest
item_speaks program bound s rest (Item.KillBuffer b target) = kill_speaks s b target rest
item_speaks program bound s rest (Finish p) = finish_speaks program s p
item_speaks program bound s rest WriteDump = tt

step_speaks : (program : Program) (bound : ℕ) (c : Config) → Speaks (step program bound c)
step_speaks program bound c = go c.work
  where
    go : (work : List Item) → Speaks (elim work [ [] ↦ Ended | item ∷ rest ↦ item_step program bound c.state rest item ])
    go [] = tt
    go (item ∷ rest) = item_speaks program bound c.state rest item

-- RUNS
spoken_more : (list : List Exchange) (x : Exchange) → AreSpoken list → IsSpoken x.ask → AreSpoken (list ++ x ∷ [])
spoken_more [] x h k = (k, tt)
spoken_more (y ∷ list) x h k = (h.0, spoken_more list x h.1 k)

pub asks_are_spoken : (program : Program) (bound : ℕ) (script : Script) → AsksAreSpoken program bound script
asks_are_spoken program bound script exchanges said c r =
    over_runs program bound (λ xs said c. AreSpoken xs)
    (λ xs said c n i e. i)
    (λ xs said c ask answer k n i e h. spoken_more xs (record { ask = ask; answer = answer }) i (subst Speaks e (step_speaks program bound c)))
    r [] [] tt

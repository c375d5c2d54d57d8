-- How deep handlers nest: one level more than the bound, by hook functions.
use Rattle.std.proofs.Common.{◌≡◌, ℕ, zero, suc, ◌+◌, ◌-◌, ◌<◌, ◌≤◌, Bool, true, false, List, [], ◌∷◌, ◌++◌, length, map, refl, sym, ◌∙◌, subst, arith}
use Rattle.std.specs.Prelude.{pos, Option, Some, None, ◌&&◌, ◌||◌, nat_lt, nat_le, drop, codes, slice_set}
use Rattle.std.proofs.lemmas.Bool.{ltb-true}
use Rattle.text_model.specs.Characters.{Ch}
use Rattle.text_model.specs.Codings.{decoded, all_decoded}
use Rattle.text_model.specs.Marks.{Saved, Excursion, Restriction, Pending}
use Rattle.text_model.specs.Properties.{Cell}
use Rattle.editor_model.specs.Values.{Value, Nil, T, Int, ArgsOutOfRange, WrongType, Nesting, at_place, Reply, Answered, Fault, Prim, StartProcess, KillBuffer, SetProcessFilter, SetProcessSentinel, SetProcessBuffer, SetProcessCodingSystem, ProcessSendString, ProcessSendEof, DeleteProcess, AcceptProcessOutput, Form, Forms, NoForms, Then, Do, Setq, In, WhenEq, Block, SaveExcursion, SaveRestriction, SaveCurrentBuffer, InhibitHooks, HandlerDef, equal, Script, InhibitReadOnly}
use Rattle.editor_model.specs.Editor.{register, with_register, is_live, killed}
use Rattle.editor_model.specs.Arguments.{arg, string_of, buffer_of, must_be_buffer_or_nil, buffer_there}
use Rattle.editor_model.specs.Answers.{Test, refuse, first_fault}
use Rattle.editor_model.specs.TextCalls.{prepare_output}
use Rattle.editor_model.specs.Table.{Change, Commit, query, apply, prepare, Prepared, Changes, Quiet, Nothing, Barred, Done, Failed, commit}
use Rattle.editor_model.specs.Prims.{OnlyAsks, SetsState, ChangesText, ConcernsHandlers, manner_of}
use Rattle.plain_machine.specs.Exchanges.{Ask, Answer, Started, Sent, Broken, Closed, Killed, Bytes, End, Code, Signal, Running, Exchange}
use Rattle.plain_machine.specs.State.{State, hooks_of, Program, Process, Status, Runs, Exited, Signalled, Lost, process, change_process, read_so_far}
use Rattle.plain_machine.specs.Lines.{Kind, KilledLast, OfBefore, OfAfter, OfFilter, OfSentinel}
use Rattle.plain_machine.specs.Items.{Item, Top, Body, DoForm, MakeCall, Leave, GiveAnswer, Refuse, MakeChange, Hooks, Calm, CommitChange, Enter, Native, Called, Exit, Wait, Delete, Finish, WriteDump, Target, Nowhere, ToName, ToNative, Kept, KeptExcursion, KeptRestriction, KeptBuffer, KeptInhibition, Waiting, Config, Said, Next, Step, Goes, Asks, Ended, KeptLifting}
use Rattle.plain_machine.specs.Calls.{silent, on, answered, unless, call, process_effect, spawned, started, is_new_child, sent_answer, closed_answer, with_input_closed, with_filter, with_sentinel, of_buffer, process_buffer, send, send_eof, change_call, with_editor, call_by, spawned_child, unless_fault, with_coding}
use Rattle.plain_machine.specs.Refusals.{process_tests, may_ask, must_be_replaceable, must_be_process, must_be_process_or_nil, process_there, must_nest, only_where, is_rounds, rounds_of, most_rounds}
use Rattle.plain_machine.specs.Arguments.{process_of, filter_of, sentinel_of, child_of, is_closed, is_running, encoded, handler_def, running_in, runs, coding_of}
use Rattle.plain_machine.specs.Forms.{dropped, restored, pop, put_back, with_saved, saved_of, if_live, evaluate, do_form, block, assigned, scope_of, give, kept_reply, commit_change, at_kept, popped, bracket, current, says, after_commit, call_with, when_eq}
use Rattle.plain_machine.specs.Handling.{mark_of_process, second, sentinel_words, plain_text, bound_params, unlisted, body_of, default_handler, put_in, output_in, process_buffer_of, native, left_state, ended_handler, without_hooks_item, named_body, native_next}
use Rattle.plain_machine.specs.Waits.{ask_process, asked_more, read_answer, end_answer, drain, is_room, entry_of, counts, more_characters, exit_text, target_is_eligible, from_eligible, eligible, delete, kill_answer, ends, kill_at_end, finish, wait, ask_if, ask_next, delete_one, delete_running, hear, kill_live, wait_case, finish_one, finish_running}
use Rattle.plain_machine.specs.Step.{step, item_step}
use Rattle.plain_machine.specs.Run.{Reaches, start}
use Rattle.machine_laws.specs.Nesting.{Shallow}
use Rattle.plain_machine.proofs.Composed.{over_runs}
use Rattle.machine_laws.proofs.Weights.{behind}
use Rattle.machine_laws.proofs.Falling.{live_same, restored_same, assigned_same, change_same, left_same}
use Rattle.machine_laws.proofs.Tests.{refuse_ok, no_fault}

-- DEPTH, WHERE IT STAYS
live_deep : (s : State) (b : ℕ) (t : State) → t.depth ≡ s.depth → (if_live s b t).depth ≡ s.depth
live_deep s b t h = (elim (is_live s.editor b) as (λ v. let k : State = elim v [ true ↦ t | false ↦ s ] in k.depth ≡ s.depth) [ true ↦ h | false ↦ refl ])

put_back_deep : (k : Saved) (s : State) → (put_back k s).depth ≡ s.depth
put_back_deep (Excursion b p) s = live_deep s b _ refl
put_back_deep (Restriction b None) s = live_deep s b _ refl
put_back_deep (Restriction b (Some ends)) s = live_deep s b _ refl
put_back_deep (Pending b from to) s = refl

pop_deep : (s : State) → (pop s).depth ≡ s.depth
pop_deep s = (elim (saved_of s) as (λ l. let k : State = elim l [ [] ↦ s | kept ∷ rest ↦ put_back kept (with_saved rest s) ] in k.depth ≡ s.depth) [ [] ↦ refl | kept ∷ rest ↦ put_back_deep kept (with_saved rest s) ])

restored_deep : (k : Kept) (s : State) → (restored k s).depth ≡ s.depth
restored_deep KeptExcursion s = pop_deep s
restored_deep KeptRestriction s = pop_deep s
restored_deep (KeptBuffer b) s = live_deep s b _ refl
restored_deep (KeptInhibition old) s = refl
restored_deep (KeptLifting old) s = refl

assigned_deep : (name : ℕ) (v : Value) (s : State) → (assigned name v s).depth ≡ s.depth
assigned_deep name v s = (elim (register (scope_of s) name) as (λ o. let k : State = elim o [ Some old ↦ record s { scopes = with_register name v (scope_of s) ∷ drop 1 s.scopes } | None ↦ record s { editor = record s.editor { registers = with_register name v s.editor.registers } } ] in k.depth ≡ s.depth) [ Some old ↦ refl | None ↦ refl ])

change_deep : (p : ℕ) (f : Process → Process) (s : State) → (change_process p f s).depth ≡ s.depth
change_deep p f s = (elim (process s p) as (λ o. let k : State = elim o [ None ↦ s | Some x ↦ record s { processes = slice_set s.processes p (f x) } ] in k.depth ≡ s.depth) [ None ↦ refl | Some x ↦ refl ])

left_deep : (s : State) (c : ℕ) → (left_state s c).depth ≡ s.depth - 1
left_deep s c = live_deep (record s { depth = s.depth - 1; scopes = drop 1 s.scopes }) c _ refl

-- TESTS
last_passes : (front : List Test) (t : Test) → first_fault (front ++ t ∷ []) ≡ None → t ≡ None
last_passes [] t h = (no_fault t [] h).0
last_passes (x ∷ front) t h = last_passes front t (no_fault x (front ++ t ∷ []) h).1

nests : (bound : ℕ) (s : State) → must_nest bound s ≡ None → s.depth < bound
nests bound s h = ltb-true s.depth bound (refuse_ok Nesting (nat_lt s.depth bound) h)

only_nests : (w : Bool) (bound : ℕ) (s : State) → only_where w (must_nest bound s) ≡ None → w ≡ true → s.depth < bound
only_nests true bound s h e = nests bound s h
only_nests false bound s h e = cc

-- WORK
-- where hooks run, the bound is kept; where they are inhibited, it may be passed by one
abbrev Room : (bound : ℕ) → Bool → ℕ → Type 0
Room bound true d = d ≤ bound + 1
Room bound false d = d ≤ bound

-- an entry below the bound, or of a hook function
data Entry (bound : ℕ) (i : Bool) (d : ℕ) : Type 0 where
  by_wait : d < bound → Entry bound i d
  by_hook : i ≡ true → d ≤ bound → Entry bound i d

abbrev Fit : (bound : ℕ) → Bool → ℕ → Item → Type 0
Fit bound i d (Hooks kind names args) = (i ≡ true) × (d ≤ bound)
Fit bound i d (Enter kind handler args) = Entry bound i d
Fit bound i d (Wait w target) = d < bound
Fit bound i d (Delete p) = d < bound
Fit bound i d (Calm old) = old ≡ false
Fit bound i d _ = Unit {0}

abbrev depth_behind : ℕ → Item → ℕ
depth_behind d (Exit kind handler c faulted) = d - 1
depth_behind d _ = d

abbrev Fits : (bound : ℕ) → Bool → ℕ → List Item → Type 0
Fits bound i d [] = Room bound i d
Fits bound i d (item ∷ work) = Room bound i d × Fit bound i d item × Fits bound (behind i item) (depth_behind d item) work

room_true : (bound : ℕ) (i : Bool) (d : ℕ) → Room bound i d → Room bound true d
room_true bound true d h = h
room_true bound false d h = omega arith

room_in : (bound : ℕ) (i : Bool) (d : ℕ) → d ≤ bound → Room bound i d
room_in bound true d h = omega arith
room_in bound false d h = h

fits_room : (bound : ℕ) (i : Bool) (d : ℕ) (work : List Item) → Fits bound i d work → Room bound i d
fits_room bound i d [] h = h
fits_room bound i d (item ∷ work) h = h.0

entry_room : (bound : ℕ) (i : Bool) (d : ℕ) → Entry bound i d → Room bound i (d + 1)
entry_room bound i d (by_wait h) = room_in bound i (d + 1) (omega arith)
entry_room bound i d (by_hook e h) = subst (λ i. Room bound i (d + 1)) (sym e) (let k : d + 1 ≤ bound + 1 = omega arith in k)

entry_true : (bound : ℕ) (i : Bool) (d : ℕ) → Entry bound i d → Entry bound true d
entry_true bound i d (by_wait h) = by_wait h
entry_true bound i d (by_hook e h) = by_hook refl h

-- inhibition does no harm
fits_true : (bound : ℕ) (i : Bool) (d : ℕ) (work : List Item) → Fits bound i d work → Fits bound true d work
fits_true bound i d [] h = room_true bound i d h
fits_true bound i d (Hooks kind names args ∷ work) h = (room_true bound i d h.0, (refl, h.1.1), fits_true bound i d work h.2)
fits_true bound i d (Enter kind handler args ∷ work) h = (room_true bound i d h.0, entry_true bound i d h.1, fits_true bound i d work h.2)
fits_true bound i d (Calm old ∷ work) h = (room_true bound i d h.0, h.1, h.2)
fits_true bound i d (Leave (KeptInhibition old) ∷ work) h = (room_true bound i d h.0, tt, h.2)
fits_true bound i d (Leave KeptExcursion ∷ work) h = (room_true bound i d h.0, tt, fits_true bound i d work h.2)
fits_true bound i d (Leave KeptRestriction ∷ work) h = (room_true bound i d h.0, tt, fits_true bound i d work h.2)
fits_true bound i d (Leave (KeptBuffer b) ∷ work) h = (room_true bound i d h.0, tt, fits_true bound i d work h.2)
fits_true bound i d (Leave (KeptLifting old) ∷ work) h = (room_true bound i d h.0, tt, fits_true bound i d work h.2)
fits_true bound i d (Exit kind handler c faulted ∷ work) h = (room_true bound i d h.0, tt, fits_true bound i (d - 1) work h.2)
fits_true bound i d (item ∷ work) h = (room_true bound i d h.0, h.1, fits_true bound i d work h.2)

module _ (program : Program) (bound : ℕ) where
  -- a deletion of a process that has ended may stand first at any depth
  data Good (c : Config) : Type 0 where
    whole : Fits bound c.state.inhibited c.state.depth c.work → Good c
    ended : (p : ℕ) (rest : List Item) → c.work ≡ Delete p ∷ rest → is_running c.state p ≡ false → Fits bound c.state.inhibited c.state.depth rest → Good c

  abbrev Does : Step → Type 0
  Does (Goes x) = Good x.config
  Does (Asks ask next) = (answer : Answer) (x : Next) → next answer ≡ Some x → Good x.config
  Does Ended = Unit {0}

  at : (i : Bool) (d : ℕ) (t : State) (work : List Item) → t.inhibited ≡ i → t.depth ≡ d → Fits bound i d work → Good (record { state = t; work = work })
  at i d t work e f h = whole (subst (λ i. Fits bound i t.depth work) (sym e) (subst (λ d. Fits bound i d work) (sym f) h))

  given : (m x : Next) → Good m.config → Some m ≡ Some x → Good x.config
  given m x h e = let q : m ≡ x = cc in subst (λ (x : Next). Good x.config) q h

  kept_fits : (i : Bool) (d : ℕ) (reply : Reply) (work : List Item) → Fits bound i d work → Fits bound i d (kept_reply reply work)
  kept_fits i d reply (Called k args past ∷ rest) h = h
  kept_fits i d reply work h = h

  without_fits : (i : Bool) (d : ℕ) (work : List Item) → Fits bound i d work → Fits bound i d (without_hooks_item work)
  without_fits i d (Hooks kind names args ∷ rest) h = h.2
  without_fits i d work h = h

  dropped_fits : (f : Fault) (work : List Item) (s : State) → Fits bound s.inhibited s.depth work → Fits bound (dropped f work s).state.inhibited (dropped f work s).state.depth (dropped f work s).work
  dropped_fits f [] s h = h
  dropped_fits f (Top forms ∷ rest) s h = h
  dropped_fits f (Called i args past ∷ rest) s h = h
  dropped_fits f (Exit kind handler c faulted ∷ rest) s h = h
  dropped_fits f (Leave kept ∷ rest) s h = dropped_fits f rest (restored kept s) (subst (λ i. Fits bound i (restored kept s).depth rest) (sym (restored_same kept s)) (subst (λ d. Fits bound (behind s.inhibited (Leave kept)) d rest) (sym (restored_deep kept s)) h.2))
  dropped_fits f (Calm old ∷ rest) s h = dropped_fits f rest s (calm s.inhibited h.2)
    where
      calm : (i : Bool) → Fits bound false s.depth rest → Fits bound i s.depth rest
      calm true k = fits_true bound false s.depth rest k
      calm false k = k
  dropped_fits f (CommitChange c ∷ rest) s h = dropped_fits f rest (popped s) h.2
  dropped_fits f (item ∷ rest) s h = dropped_fits f rest s h.2

  -- where inhibition and depth stay
  module _ (s : State) (rest : List Item) (r : Fits bound s.inhibited s.depth rest) where
    q : Room bound s.inhibited s.depth
    q = fits_room bound s.inhibited s.depth rest r

    if_does : (b : Bool) (x y : Step) → Does x → Does y → Does (elim b [ true ↦ x | false ↦ y ])
    if_does true x y h k = h
    if_does false x y h k = k

    answered_does : (t : State) (target : Target) (reply : Reply) → t.inhibited ≡ s.inhibited → t.depth ≡ s.depth → Does (answered t target reply rest)
    answered_does t target (Answered v) e f = at s.inhibited s.depth t (GiveAnswer v target ∷ rest) e f (q, tt, r)
    answered_does t target (Reply.Refused x) e f = at s.inhibited s.depth t (Refuse x ∷ rest) e f (q, tt, r)

    unless_does : (tests : List Test) (t : Step) → (first_fault tests ≡ None → Does t) → Does (unless tests s rest t)
    unless_does tests t h = go (first_fault tests) refl
      where
        go : (o : Option Fault) → first_fault tests ≡ o → Does (unless_fault o s rest t)
        go None e = h e
        go (Some f) e = whole (q, tt, r)

    change_does : (target : Target) (p : Prepared) → Does (change_call s target rest p)
    change_does target (Changes c) = whole (q, tt, (q, tt, r))
    change_does target (Quiet c) = whole (q, tt, r)
    change_does target (Nothing v) = whole (q, tt, r)
    change_does target (Barred f) = whole (q, tt, r)

    send_does : (target : Target) (child : ℕ) (bytes : List ℕ) → Does (send s target rest child bytes)
    send_does target child [] = whole (q, tt, r)
    send_does target child (b ∷ bytes) = go
      where
        go : (answer : Answer) (x : Next) → sent_answer s target rest (length (b ∷ bytes)) answer ≡ Some x → Good x.config
        go Sent x e = given _ x (whole (q, tt, r)) e
        go Broken x e = given _ x (whole (q, tt, r)) e
        go _ x e = cc

    eof_does : (target : Target) (p : ℕ) (closed : Bool) → Does (send_eof s target rest p closed)
    eof_does target p true = whole (q, tt, r)
    eof_does target p false = go
      where
        go : (answer : Answer) (x : Next) → closed_answer s target rest p answer ≡ Some x → Good x.config
        go Closed x e = given _ x (at s.inhibited s.depth _ _ (change_same p with_input_closed (record s { asked = s.asked + 1 })) (change_deep p with_input_closed (record s { asked = s.asked + 1 })) (q, tt, r)) e
        go _ x e = cc

    spawn_does : (target : Target) (name b : Value) (words : List ℕ) (more : List (List ℕ)) → Does (Asks (Ask.Spawn words more) (spawned s target rest name b))
    spawn_does target name b words more = go
      where
        made : (child : ℕ) (new : Bool) (x : Next) → spawned_child new s target rest name b child ≡ Some x → Good x.config
        made child false x e = cc
        made child true x e = given (silent (started s name b child) (GiveAnswer (Value.TheProcess (length s.processes)) target ∷ rest)) x (whole (q, tt, r)) e

        go : (answer : Answer) (x : Next) → spawned s target rest name b answer ≡ Some x → Good x.config
        go (Started child) x e = made child (is_new_child s child) x e
        go Answer.Refused x e = given _ x (whole (q, tt, r)) e
        go _ x e = cc

    deletes : (ps : List ℕ) (b : ℕ) (target : Target) → (nat_lt 0 (length ps) ≡ true → s.depth < bound) → Fits bound s.inhibited s.depth (map Delete ps ++ (Item.KillBuffer b target ∷ rest))
    deletes [] b target h = (q, tt, r)
    deletes (p ∷ ps) b target h = let l : s.depth < bound = h (let k : nat_lt 0 (suc (length ps)) ≡ true = grind arith in k) in (q, l, deletes ps b target (λ e. l))

    body_does : (k : Block) (forms : Forms) → Does (block k forms s rest)
    body_does SaveExcursion forms = whole (q, tt, (q, tt, r))
    body_does SaveRestriction forms = whole (q, tt, (q, tt, r))
    body_does SaveCurrentBuffer forms = whole (q, tt, (q, tt, r))
    body_does InhibitReadOnly forms = whole (q, tt, (q, tt, r))
    body_does InhibitHooks forms = let t : Room bound true s.depth = room_true bound s.inhibited s.depth q in whole (t, tt, (t, tt, r))

    evaluated_does : (o : Option (List Value)) (prim : Prim) (target : Target) → Does (call_with o prim target s rest)
    evaluated_does None prim target = whole (q, tt, r)
    evaluated_does (Some args) prim target = whole (q, tt, r)

    pair_does : (o : Option (List Value)) (forms : Forms) → Does (when_eq o forms s rest)
    pair_does None forms = whole (q, tt, r)
    pair_does (Some []) forms = whole (q, tt, r)
    pair_does (Some (x ∷ [])) forms = whole (q, tt, r)
    pair_does (Some (x ∷ y ∷ [])) forms = if_does (equal x y) (on s (Body forms ∷ rest)) (on s rest) (whole (q, tt, r)) (whole r)
    pair_does (Some (x ∷ y ∷ z ∷ more)) forms = whole (q, tt, r)

    form_does : (f : Form) → Does (do_form s rest f)
    form_does (Do c) = evaluated_does (evaluate s c.args) c.prim Nowhere
    form_does (Setq name c) = evaluated_does (evaluate s c.args) c.prim (ToName name)
    form_does (In k forms) = body_does k forms
    form_does (WhenEq a b forms) = pair_does (evaluate s (a ∷ b ∷ [])) forms

    give_does : (v : Value) (target : Target) → Good (give program s v target rest).config
    give_does v Nowhere = whole r
    give_does v (ToName name) = at s.inhibited s.depth (assigned name v s) rest (assigned_same name v s) (assigned_deep name v s) r
    give_does v ToNative = whole (kept_fits s.inhibited s.depth (Answered v) rest r)

    -- WAITS AND ENDS, below the bound
    entry_does : (t : State) (p : ℕ) (x : Process) (text : List Ch) (work : List Item) → t.inhibited ≡ s.inhibited → t.depth ≡ s.depth → s.depth < bound → Fits bound s.inhibited s.depth work → Good (record { state = t; work = entry_of s p x text work })
    entry_does t p x [] work e f l h = at s.inhibited s.depth t work e f h
    entry_does t p x (c ∷ text) work e f l h = at s.inhibited s.depth t _ e f (q, by_wait l, h)

    read_does : (w : Waiting) (target : Target) (p : ℕ) (x : Process) → s.depth < bound → (answer : Answer) (y : Next) → read_answer s w target rest p x answer ≡ Some y → Good y.config
    read_does w target p x l = go
      where
        last : (y : Next) → drain s w target rest p x ≡ Some y → Good y.config
        last y e = given _ y (entry_does (change_process p (λ y. record y { drained = true }) (asked_more s)) p x (more_characters (decoded x.coding (read_so_far x)) (all_decoded x.coding (read_so_far x))) (Wait w target ∷ rest)
            (change_same p (λ y. record y { drained = true }) (asked_more s)) (change_deep p (λ y. record y { drained = true }) (asked_more s)) l (q, l, r)) e

        heard : (bytes : List ℕ) (b : Bool) (y : Next) → hear b s w target rest p x bytes ≡ Some y → Good y.config
        heard bytes false y e = cc
        heard bytes true y e = given _ y (entry_does (change_process p (λ y. record y { bytes = Some (read_so_far x ++ bytes) }) (asked_more s)) p x (more_characters (decoded x.coding (read_so_far x)) (decoded x.coding (read_so_far x ++ bytes))) (Wait (record w { counted = w.counted || counts w p }) target ∷ rest)
            (change_same p (λ y. record y { bytes = Some (read_so_far x ++ bytes) }) (asked_more s)) (change_deep p (λ y. record y { bytes = Some (read_so_far x ++ bytes) }) (asked_more s)) l (q, l, r)) e

        go : (answer : Answer) (y : Next) → read_answer s w target rest p x answer ≡ Some y → Good y.config
        go (Bytes bytes) y e = heard bytes (is_room bytes) y e
        go Answer.Nothing y e = given _ y (whole (q, l, r)) e
        go End y e = last y e
        go Answer.Failed y e = last y e
        go _ y e = cc

    ends_does : (t : State) (p : ℕ) (x : Process) (status : Status) (text : List ℕ) (work : List Item) → t.inhibited ≡ s.inhibited → t.depth ≡ s.depth → s.depth < bound → Fits bound s.inhibited s.depth work → Good (ends t p x status text work).config
    ends_does t p x status text work e f l h = at s.inhibited s.depth (change_process p (λ y. record y { status = status }) t) _ (change_same p (λ y. record y { status = status }) t ∙ e) (change_deep p (λ y. record y { status = status }) t ∙ f) (q, by_wait l, h)

    end_does : (w : Waiting) (target : Target) (p : ℕ) (x : Process) → s.depth < bound → (answer : Answer) (y : Next) → end_answer s w target rest p x answer ≡ Some y → Good y.config
    end_does w target p x l (Code c) y e = given _ y (ends_does (asked_more s) p x (Exited c) (exit_text c) (Wait w target ∷ rest) refl refl l (q, l, r)) e
    end_does w target p x l Signal y e = given _ y (ends_does (asked_more s) p x Signalled (codes "killed\n") (Wait w target ∷ rest) refl refl l (q, l, r)) e
    end_does w target p x l Answer.Failed y e = given _ y (ends_does (asked_more s) p x Lost (codes "failed\n") (Wait w target ∷ rest) refl refl l (q, l, r)) e
    end_does w target p x l Running y e = given _ y (whole (q, l, r)) e
    end_does w target p x l _ y e = cc

    ask_does : (w : Waiting) (target : Target) (p : ℕ) → s.depth < bound → Does (ask_process s w target rest p)
    ask_does w target p l = go (may_ask s) (process s p)
      where
        which : (x : Process) (b : Bool) → Does (ask_next b s w target rest p x)
        which x true = end_does w target p x l
        which x false = read_does w target p x l

        go : (b : Bool) (o : Option Process) → Does (ask_if b o s w target rest p)
        go false o = whole (q, tt, r)
        go true None = whole r
        go true (Some x) = which x x.drained

    wait_does : (w : Waiting) (target : Target) → s.depth < bound → Does (wait s w target rest)
    wait_does w target l = go w.counted (target_is_eligible s w) (from_eligible s w w.asking) (eligible s w) w.rounds
      where
        go : (counted fit : Bool) (asking all : List ℕ) (rounds : ℕ) → Does (wait_case counted fit asking all rounds s w target rest)
        go true fit asking all rounds = whole (q, tt, r)
        go false false asking all rounds = whole (q, tt, r)
        go false true (p ∷ more) all rounds = ask_does (record w { asking = more }) target p l
        go false true [] [] rounds = whole (q, tt, r)
        go false true [] (p ∷ more) zero = whole (q, tt, r)
        go false true [] (p ∷ more) (suc n) = whole (q, l, r)

    delete_does : (p : ℕ) → s.depth < bound → Does (delete s p rest)
    delete_does p l = go (process s p)
      where
        killed : (x : Process) (answer : Answer) (y : Next) → kill_answer (ends s p x Signalled (codes "killed\n") rest) answer ≡ Some y → Good y.config
        killed x Killed y e = given _ y (ends_does s p x Signalled (codes "killed\n") rest refl refl l r) e
        killed x Answer.Failed y e = given _ y (ends_does s p x Signalled (codes "killed\n") rest refl refl l r) e
        killed x _ y e = cc

        by_status : (x : Process) (k : Status) → Does (delete_running k s p x rest)
        by_status x Runs = killed x
        by_status x _ = whole r

        go : (o : Option Process) → Does (delete_one s p o rest)
        go None = whole r
        go (Some x) = by_status x x.status

    -- of a process that has ended, at any depth
    deleted_does : (p : ℕ) → is_running s p ≡ false → Does (delete s p rest)
    deleted_does p h = go (process s p) h
      where
        by_status : (x : Process) (k : Status) → runs k ≡ false → Does (delete_running k s p x rest)
        by_status x Runs h = cc
        by_status x _ h = whole r

        go : (o : Option Process) → (elim o [ None ↦ false | Some x ↦ runs x.status ]) ≡ false → Does (delete_one s p o rest)
        go None h = whole r
        go (Some x) h = by_status x x.status h

    kill_does : (b : ℕ) (target : Target) → Does (kill_at_end s b target rest)
    kill_does b target = go (is_live s.editor b)
      where
        go : (v : Bool) → Does (kill_live v s b target rest)
        go false = whole (q, tt, r)
        go true = unless_does (must_be_replaceable s.editor b ∷ []) (on (with_editor (killed b s.editor) s) (GiveAnswer T target ∷ rest)) (λ e. whole (q, tt, r))

    -- CALLS
    effect_does : (target : Target) (prim : Prim) (args : List Value) → first_fault (process_tests program bound s prim args) ≡ None → Does (process_effect s target rest prim args)
    effect_does target StartProcess args h = spawn_does target (arg args 0) (arg args 1) (encoded (string_of (arg args 2))) (map (λ v. encoded (string_of v)) (drop 3 args))
    effect_does target KillBuffer args h =
        let b : ℕ = buffer_of s.editor (arg args 0) in
        let w : Bool = nat_lt 0 (length (running_in s b)) in
        let l : only_where w (must_nest bound s) ≡ None = last_passes (must_be_buffer_or_nil (arg args 0) ∷ buffer_there s.editor (arg args 0) ∷ must_be_replaceable s.editor b ∷ []) (only_where w (must_nest bound s)) h in
        whole (deletes (running_in s b) b target (only_nests w bound s l))
    effect_does target DeleteProcess args h =
        let p : ℕ = process_of s (arg args 0) in
        let l : only_where (is_running s p) (must_nest bound s) ≡ None = last_passes (must_be_process (arg args 0) ∷ process_there s (arg args 0) ∷ []) (only_where (is_running s p) (must_nest bound s)) h in
        go (is_running s p) refl (only_nests (is_running s p) bound s l)
      where
        go : (b : Bool) → is_running s (process_of s (arg args 0)) ≡ b → (is_running s (process_of s (arg args 0)) ≡ true → s.depth < bound) → Good (record { state = s; work = Delete (process_of s (arg args 0)) ∷ GiveAnswer Nil target ∷ rest })
        go true e l = whole (q, l e, (q, tt, r))
        go false e l = ended (process_of s (arg args 0)) (GiveAnswer Nil target ∷ rest) refl e (q, tt, r)
    effect_does target AcceptProcessOutput args h =
        let l : must_nest bound s ≡ None = last_passes (must_be_process_or_nil (arg args 0) ∷ refuse WrongType (is_rounds (arg args 1)) ∷ process_there s (arg args 0) ∷ refuse ArgsOutOfRange (nat_le 1 (rounds_of (arg args 1)) && nat_le (rounds_of (arg args 1)) most_rounds) ∷ []) (must_nest bound s) h in
        whole (q, nests bound s l, r)
    effect_does target SetProcessFilter args h = at s.inhibited s.depth _ _ (change_same (process_of s (arg args 0)) (with_filter (filter_of (arg args 1))) s) (change_deep (process_of s (arg args 0)) (with_filter (filter_of (arg args 1))) s) (q, tt, r)
    effect_does target SetProcessSentinel args h = at s.inhibited s.depth _ _ (change_same (process_of s (arg args 0)) (with_sentinel (sentinel_of (arg args 1))) s) (change_deep (process_of s (arg args 0)) (with_sentinel (sentinel_of (arg args 1))) s) (q, tt, r)
    effect_does target SetProcessBuffer args h = at s.inhibited s.depth _ _ (change_same (process_of s (arg args 0)) (of_buffer (process_buffer s.editor (arg args 1))) s) (change_deep (process_of s (arg args 0)) (of_buffer (process_buffer s.editor (arg args 1))) s) (q, tt, r)
    effect_does target SetProcessCodingSystem args h = at s.inhibited s.depth _ _ (change_same (process_of s (arg args 0)) (with_coding (coding_of (arg args 1))) s) (change_deep (process_of s (arg args 0)) (with_coding (coding_of (arg args 1))) s) (q, tt, r)
    effect_does target ProcessSendEof args h = eof_does target (process_of s (arg args 0)) (is_closed s (process_of s (arg args 0)))
    effect_does target ProcessSendString args h = send_does target (child_of s (process_of s (arg args 0))) (encoded (string_of (arg args 1)))
    effect_does target prim args h = whole (q, tt, r)

    call_does : (target : Target) (prim : Prim) (args : List Value) → Does (call program bound s target rest prim args)
    call_does target prim args =
        (elim (manner_of prim) as (λ m. Does (call_by m program bound s target rest prim args)) [
          | OnlyAsks ↦ answered_does s target (query s.editor prim args) refl refl
          | SetsState ↦ answered_does (with_editor (apply s.editor prim args).editor s) target (apply s.editor prim args).reply refl refl
          | ChangesText ↦ change_does target (prepare s.editor prim args)
          | ConcernsHandlers ↦ unless_does (process_tests program bound s prim args) (process_effect s target rest prim args) (λ h. effect_does target prim args h)
        ])

    native_does : (i : ℕ) (args : List Value) (past : List Reply) → Does (native program s i args past rest)
    native_does i args past = go (nat_lt (length past) 256) (program.does i args past)
      where
        made : (b : Bool) (prim : Prim) (more : List Value) (f : Fault) → Good (record { state = s; work = (elim b [ true ↦ MakeCall prim more ToNative | false ↦ Refuse f ]) ∷ Called i args past ∷ rest })
        made true prim more f = whole (q, tt, (q, tt, r))
        made false prim more f = whole (q, tt, (q, tt, r))

        go : (b : Bool) (o : Option (Prim × List Value)) → Does (native_next b o program s i args past rest)
        go false o = whole r
        go true None = whole r
        go true (Some c) = made (Rattle.plain_machine.specs.Natives.is_callable program s c) c.0 (map Rattle.plain_machine.specs.Natives.normal c.1) WrongType

  -- CHANGES
  bracket_fits : (i : Bool) (d : ℕ) (kind : Kind) (names : List ℕ) (args : List Value) (work : List Item) → Fits bound i d work → Fits bound true d (bracket i kind names args work)
  bracket_fits true d kind names args work h = h
  bracket_fits false d kind names args work h =
      let l : d ≤ bound = fits_room bound false d work h in
      let t : Room bound true d = room_true bound false d l in
      (t, (refl, l), (t, refl, h))

  commit_does : (s : State) (c : Change) (rest : List Item) → Fits bound s.inhibited s.depth rest → Does (commit_change s c rest)
  commit_does s c rest r =
      let done : Commit = commit s.editor (at_kept c (saved_of s)) in
      (elim done.committed as (λ k. Does (after_commit done.editor k s c rest)) [
        | Failed f ↦ whole (fits_room bound s.inhibited s.depth rest r, tt, r)
        | Done from to old ↦ whole (bracket_fits s.inhibited s.depth (OfAfter c.buffer) (hooks_of s.hooks c.buffer).after (at_place from ∷ at_place to ∷ Int (pos old) ∷ []) rest r)
      ])

  -- HANDLERS
  module _ (i : Bool) (d : ℕ) (work : List Item) (h : Fits bound i d work) where
    p : Room bound i d
    p = fits_room bound i d work h

    put_does : (t : State) (x : Prepared) → t.inhibited ≡ i → t.depth ≡ d → Good (put_in t x work)
    put_does t (Changes c) e f = at i d t (MakeChange c ∷ work) e f (p, tt, h)
    put_does t (Quiet c) e f = at i d t work e f h
    put_does t (Nothing v) e f = at i d t work e f h
    put_does t (Barred x) e f = at i d t (Refuse x ∷ work) e f (p, tt, h)

    output_does : (t : State) (o : Option ℕ) (mark : ℕ) (text : List Cell) → t.inhibited ≡ i → t.depth ≡ d → Good (output_in t o mark text work)
    output_does t None mark text e f = at i d t work e f h
    output_does t (Some b) mark text e f = put_does (current b t) (prepare_output t.editor b mark text) e f

    default_does : (t : State) (kind : Kind) (args : List Value) → t.inhibited ≡ i → t.depth ≡ d → Good (default_handler t kind args work)
    default_does t (OfFilter n) args e f = output_does t (process_buffer_of t n) (mark_of_process t n) (plain_text (second args)) e f
    default_does t (OfSentinel n) args e f = output_does t (process_buffer_of t n) (mark_of_process t n) (sentinel_words t n (plain_text (second args))) e f
    default_does t (OfBefore b) args e f = at i d t work e f h
    default_does t (OfAfter b) args e f = at i d t work e f h

    handler_does : (t : State) (kind : Kind) (handler : Option ℕ) (args : List Value) → t.inhibited ≡ i → t.depth ≡ d → Good (body_of program t kind handler args work)
    handler_does t kind None args e f = default_does (record t { scopes = [] ∷ t.scopes }) kind args e f
    handler_does t kind (Some name) args e f = go (handler_def program.handlers name)
      where
        go : (o : Option HandlerDef) → Good (named_body program t o name args (work))
        go None = at i d (record t { scopes = [] ∷ t.scopes }) _ e f (p, tt, h)
        go (Some x) = at i d (record t { scopes = bound_params x.params args ∷ t.scopes }) _ e f (p, tt, h)

    exit_does : (kind : Kind) (faulted : Bool) (t : State) → t.inhibited ≡ i → t.depth ≡ d → Good (ended_handler kind faulted t work)
    exit_does (OfFilter n) faulted t e f = at i d t work e f h
    exit_does (OfSentinel n) faulted t e f = at i d (change_process n unlisted t) work (change_same n unlisted t ∙ e) (change_deep n unlisted t ∙ f) h
    exit_does (OfBefore b) true t e f = at i d _ _ (live_same t b _ refl ∙ e) (live_deep t b _ refl ∙ f) (without_fits i d work h)
    exit_does (OfBefore b) false t e f = at i d t work e f h
    exit_does (OfAfter b) true t e f = at i d _ _ (live_same t b _ refl ∙ e) (live_deep t b _ refl ∙ f) (without_fits i d work h)
    exit_does (OfAfter b) false t e f = at i d t work e f h

  enter_does : (s : State) (rest : List Item) (kind : Kind) (handler : Option ℕ) (args : List Value) → Entry bound s.inhibited s.depth → Fits bound s.inhibited s.depth rest → Good (body_of program (record s { depth = s.depth + 1 }) kind handler args (Exit kind handler s.editor.current false ∷ rest))
  enter_does s rest kind handler args e r =
      let back : s.depth + 1 - 1 ≡ s.depth = omega arith in
      handler_does s.inhibited (s.depth + 1) (Exit kind handler s.editor.current false ∷ rest) (entry_room bound s.inhibited s.depth e, tt, subst (λ d. Fits bound s.inhibited d rest) (sym back) r) (record s { depth = s.depth + 1 }) kind handler args refl refl

  finish_does : (s : State) (n : ℕ) → Room bound s.inhibited s.depth → Does (finish program s n)
  finish_does s n room = go (process s n)
    where
      told : Next
      told = says program s (KilledLast n) s (Finish (n + 1) ∷ [])

      killed : (answer : Answer) (y : Next) → kill_answer told answer ≡ Some y → Good y.config
      killed Killed y e = given told y (whole (room, tt, room)) e
      killed Answer.Failed y e = given told y (whole (room, tt, room)) e
      killed _ y e = cc

      by_status : (x : Process) (k : Status) → Does (finish_running program k s n x)
      by_status x Runs = killed
      by_status x _ = whole (room, tt, room)

      go : (o : Option Process) → Does (finish_one program s n o)
      go None = whole (room, tt, room)
      go (Some x) = by_status x x.status

  -- EACH ITEM
  item_does : (s : State) (rest : List Item) (item : Item) → Fits bound s.inhibited s.depth (item ∷ rest) → Does (item_step program bound s rest item)
  item_does s rest (Top NoForms) h = whole (h.0, tt, h.0)
  item_does s rest (Top (Then form forms)) h = whole (h.0, tt, h)
  item_does s rest (Body NoForms) h = whole h.2
  item_does s rest (Body (Then form forms)) h = whole (h.0, tt, h)
  item_does s rest (DoForm form) h = form_does s rest h.2 form
  item_does s rest (MakeCall prim args target) h = call_does s rest h.2 target prim args
  item_does s rest (Leave kept) h = at (behind s.inhibited (Leave kept)) s.depth (restored kept s) rest (restored_same kept s) (restored_deep kept s) h.2
  item_does s rest (GiveAnswer v target) h = give_does s rest h.2 v target
  item_does s rest (Refuse f) h = whole (dropped_fits f rest s h.2)
  item_does s rest (MakeChange c) h = whole (bracket_fits s.inhibited s.depth (OfBefore c.buffer) (hooks_of s.hooks c.buffer).before (at_place c.from ∷ at_place c.to ∷ []) (CommitChange c ∷ rest) (h.0, tt, h.2))
  item_does s rest (Hooks kind [] args) h = whole h.2
  item_does s rest (Hooks kind (name ∷ names) args) h = whole (h.0, by_hook h.1.0 h.1.1, h)
  item_does s rest (Calm old) h = whole (subst (λ i. Fits bound i s.depth rest) (sym h.1) h.2)
  item_does s rest (CommitChange c) h = commit_does s c rest h.2
  item_does s rest (Enter kind handler args) h = enter_does s rest kind handler args h.1 h.2
  item_does s rest (Native i args past) h = native_does s rest h.2 i args past
  item_does s rest (Called i args past) h = whole h.2
  item_does s rest (Exit kind handler c faulted) h = exit_does s.inhibited (s.depth - 1) rest h.2 kind faulted (left_state s c) (left_same s c) (left_deep s c)
  item_does s rest (Wait w target) h = wait_does s rest h.2 w target h.1
  item_does s rest (Delete n) h = delete_does s rest h.2 n h.1
  item_does s rest (Item.KillBuffer b target) h = kill_does s rest h.2 b target
  item_does s rest (Finish n) h = finish_does s n h.0
  item_does s rest WriteDump h = whole h.0

  step_does : (c : Config) → Good c → Does (step program bound c)
  step_does c (whole h) = go c.work h
    where
      go : (work : List Item) → Fits bound c.state.inhibited c.state.depth work → Does (elim work [ [] ↦ Ended | item ∷ rest ↦ item_step program bound c.state rest item ])
      go [] h = tt
      go (item ∷ rest) h = item_does c.state rest item h
  step_does c (ended n rest e dead h) = subst (λ work. Does (elim work [ [] ↦ Ended | item ∷ rest ↦ item_step program bound c.state rest item ])) (sym e) (deleted_does c.state rest h n dead)

  good_depth : (c : Config) → Good c → c.state.depth ≤ bound + 1
  good_depth c (whole h) = deep c.state.inhibited (fits_room bound c.state.inhibited c.state.depth c.work h)
    where
      deep : (i : Bool) → Room bound i c.state.depth → c.state.depth ≤ bound + 1
      deep true k = k
      deep false k = omega arith
  good_depth c (ended n rest e dead h) = deep c.state.inhibited (fits_room bound c.state.inhibited c.state.depth rest h)
    where
      deep : (i : Bool) → Room bound i c.state.depth → c.state.depth ≤ bound + 1
      deep true k = k
      deep false k = omega arith

  good_run : (script : Script) (xs : List Exchange) (said : List Said) (c : Config) → Reaches program bound (start script) xs said c → Good c
  good_run script xs said c r = over_runs program bound (λ xs said c. Good c)
      (λ xs said c x i e. subst (λ t. Does t) e (step_does c i))
      (λ xs said c ask answer k x i e h. let d : Does (Asks ask k) = subst (λ t. Does t) e (step_does c i) in d answer x h)
      r [] [] (whole (let z : 0 ≤ bound = omega arith in (z, tt, z)))

pub shallow : (program : Program) (bound : ℕ) (script : Script) → Shallow program bound (start script)
shallow program bound script xs said c r = good_depth program bound c (good_run program bound script xs said c r)

-- The weight falls at each step that asks nothing.
use Rattle.std.proofs.Common.{◌≡◌, ℕ, zero, suc, ◌+◌, ◌-◌, ◌*◌, ◌<◌, ◌≤◌, Bool, true, false, List, [], ◌∷◌, ◌++◌, length, map, refl, ap, sym, ◌∙◌, subst, arith, append_assoc}
use Rattle.std.proofs.lemmas.List.{append-nil, length-append, length-map}
use Rattle.std.proofs.lemmas.List.Sums.{length-filter, count_by-le-length}
use Rattle.std.proofs.lemmas.List.FromFn.{length-enumerate_from}
use Rattle.std.specs.Prelude.{pos, Option, Some, None, ◌==◌, ◌&&◌, nat_lt, nat_le, drop, filter, unwrap_or, slice_set}
use Rattle.std.specs.List.{enumerate_from}
use Rattle.std.proofs.lemmas.Option.{slice_get_within}
use Rattle.text_model.specs.Marks.{Saved, Excursion, Restriction, Pending}
use Rattle.text_model.specs.Properties.{Cell}
use Rattle.editor_model.specs.Values.{Value, Nil, T, Int, ExchangesSpent, VoidVariable, ArgsOutOfRange, WrongType, at_place, Reply, Answered, Fault, Prim, StartProcess, KillBuffer, SetProcessFilter, SetProcessSentinel, SetProcessBuffer, SetProcessCodingSystem, ProcessSendString, ProcessSendEof, DeleteProcess, AcceptProcessOutput, Form, Forms, NoForms, Then, Do, Setq, In, WhenEq, Block, SaveExcursion, SaveRestriction, SaveCurrentBuffer, InhibitHooks, HandlerDef, equal, InhibitReadOnly}
use Rattle.editor_model.specs.Editor.{register, with_register, is_live, killed}
use Rattle.editor_model.specs.Arguments.{arg, string_of, buffer_of}
use Rattle.editor_model.specs.Answers.{Test, refuse, first_fault}
use Rattle.editor_model.specs.TextCalls.{prepare_output}
use Rattle.editor_model.specs.Table.{Change, Commit, query, apply, prepare, Prepared, Changes, Quiet, Nothing, Barred, Done, Failed, commit}
use Rattle.editor_model.specs.Prims.{OnlyAsks, SetsState, ChangesText, ConcernsHandlers, manner_of}
use Rattle.plain_machine.specs.State.{State, hooks_of, Program, Process, Status, Runs, process, change_process}
use Rattle.plain_machine.specs.Lines.{Kind, OfBefore, OfAfter, OfFilter, OfSentinel}
use Rattle.plain_machine.specs.Items.{Item, Top, Body, DoForm, MakeCall, Leave, GiveAnswer, Refuse, MakeChange, Hooks, Calm, CommitChange, Enter, Native, Called, Exit, Wait, Delete, Finish, WriteDump, Target, Nowhere, ToName, ToNative, Kept, KeptExcursion, KeptRestriction, KeptBuffer, KeptInhibition, Waiting, Config, Step, Goes, Asks, Ended, KeptLifting}
use Rattle.plain_machine.specs.Calls.{on, answered, unless, call, process_effect, waiting, with_filter, with_sentinel, of_buffer, process_buffer, send, send_eof, change_call, with_editor, call_by, unless_fault, with_coding}
use Rattle.plain_machine.specs.Refusals.{process_tests, may_ask, must_be_replaceable, must_be_process_or_nil, process_there, must_nest, is_rounds, rounds_of, most_rounds}
use Rattle.plain_machine.specs.Arguments.{process_of, filter_of, sentinel_of, child_of, is_closed, encoded, handler_def, native_from, running_in, runs, stands_in, coding_of}
use Rattle.plain_machine.specs.Forms.{dropped, restored, pop, put_back, with_saved, saved_of, if_live, evaluate, do_form, block, assigned, scope_of, give, kept_reply, commit_change, at_kept, popped, bracket, current, after_commit, call_with, when_eq, lifting}
use Rattle.plain_machine.specs.Handling.{mark_of_process, second, sentinel_words, plain_text, bound_params, unlisted, body_of, default_handler, put_in, output_in, process_buffer_of, native, left_state, ended_handler, without_hooks_item, named_body, native_next}
use Rattle.plain_machine.specs.Waits.{ask_process, target_is_eligible, from_eligible, eligible, delete, ends, kill_at_end, finish, wait, ask_if, ask_next, delete_one, delete_running, finish_one, finish_running, wait_case, kill_live}
use Rattle.plain_machine.specs.Step.{item_step}
use Rattle.machine_laws.proofs.Weights.{Below, first, AtMost, both, at_most_same, at_most_trans, below_at_most, forms_weight, bodies_weight, call_weight, enter_weight, item_weight, behind, IsSteady, Steady, weight, total, under, calmer, lighter}
use Rattle.machine_laws.proofs.Tests.{refuse_ok, no_fault}
use Rattle.machine_laws.proofs.Basics.{and_right}

-- INHIBITION, WHERE IT STAYS
pub live_same : (s : State) (b : ℕ) (t : State) → t.inhibited ≡ s.inhibited → (if_live s b t).inhibited ≡ s.inhibited
live_same s b t h = (elim (is_live s.editor b) as (λ v. let k : State = elim v [ true ↦ t | false ↦ s ] in k.inhibited ≡ s.inhibited) [ true ↦ h | false ↦ refl ])

pub put_back_same : (k : Saved) (s : State) → (put_back k s).inhibited ≡ s.inhibited
put_back_same (Excursion b p) s = live_same s b _ refl
put_back_same (Restriction b None) s = live_same s b _ refl
put_back_same (Restriction b (Some ends)) s = live_same s b _ refl
put_back_same (Pending b from to) s = refl

pub pop_same : (s : State) → (pop s).inhibited ≡ s.inhibited
pop_same s = (elim (saved_of s) as (λ l. let k : State = elim l [ [] ↦ s | kept ∷ rest ↦ put_back kept (with_saved rest s) ] in k.inhibited ≡ s.inhibited) [ [] ↦ refl | kept ∷ rest ↦ put_back_same kept (with_saved rest s) ])

pub restored_same : (k : Kept) (s : State) → (restored k s).inhibited ≡ behind s.inhibited (Leave k)
restored_same KeptExcursion s = pop_same s
restored_same KeptRestriction s = pop_same s
restored_same (KeptBuffer b) s = live_same s b _ refl
restored_same (KeptInhibition old) s = refl
restored_same (KeptLifting old) s = refl

pub assigned_same : (name : ℕ) (v : Value) (s : State) → (assigned name v s).inhibited ≡ s.inhibited
assigned_same name v s = (elim (register (scope_of s) name) as (λ o. let k : State = elim o [ Some old ↦ record s { scopes = with_register name v (scope_of s) ∷ drop 1 s.scopes } | None ↦ record s { editor = record s.editor { registers = with_register name v s.editor.registers } } ] in k.inhibited ≡ s.inhibited) [ Some old ↦ refl | None ↦ refl ])

pub change_same : (p : ℕ) (f : Process → Process) (s : State) → (change_process p f s).inhibited ≡ s.inhibited
change_same p f s = (elim (process s p) as (λ o. let k : State = elim o [ None ↦ s | Some x ↦ record s { processes = slice_set s.processes p (f x) } ] in k.inhibited ≡ s.inhibited) [ None ↦ refl | Some x ↦ refl ])

pub left_same : (s : State) (c : ℕ) → (left_state s c).inhibited ≡ s.inhibited
left_same s c = live_same (record s { depth = s.depth - 1; scopes = drop 1 s.scopes }) c _ refl

-- NUMBERS
running_few : (s : State) (b : ℕ) → length (running_in s b) ≤ length s.processes
running_few s b =
    let test : ℕ × Process → Bool = λ x. runs x.1.status && stands_in b x.1 in
    let all : List (ℕ × Process) = enumerate_from 0 s.processes in
    let h : length (running_in s b) ≡ length (filter test all) = length-map (filter test all) (λ x. x.0) in
    let k : length (filter test all) ≡ Rattle.std.specs.List.count_by test all = length-filter test all in
    let l : Rattle.std.specs.List.count_by test all ≤ length all = count_by-le-length test all in
    let m : length all ≡ length s.processes = length-enumerate_from 0 s.processes in
    omega arith

times_more : (a b : ℕ) → suc a * b ≡ a * b + b
times_more a b = omega arith

left_more : (l : ℕ) → nat_lt l 256 ≡ true → 256 - l ≡ suc (255 - l)
left_more l h = grind arith

at_most_of : (r : ℕ) → nat_le r 1000 ≡ true → r ≤ 1000
at_most_of r h = grind arith

-- of tests that refuse nothing none refuses
body_light : (m : ℕ) (defs : List HandlerDef) (name : ℕ) (d : HandlerDef) → handler_def defs name ≡ Some d → forms_weight m d.body ≤ bodies_weight m defs
body_light m [] name d e = cc
body_light m (x ∷ defs) name d e = go (x.name == name) (body_light m defs name d) e
  where
    go : (b : Bool) → (handler_def defs name ≡ Some d → forms_weight m d.body ≤ bodies_weight m defs) → elim b [ true ↦ Some x | false ↦ handler_def defs name ] ≡ Some d → forms_weight m d.body ≤ forms_weight m x.body + bodies_weight m defs
    go true ih e = let q : x ≡ d = cc in rw (← q) (omega arith)
    go false ih e = let h : forms_weight m d.body ≤ bodies_weight m defs = ih e in omega arith

waiting_rounds : (s : State) (p n flag : Value) → (waiting s p n flag).rounds ≡ rounds_of n
waiting_rounds s Nil n flag = refl
waiting_rounds s _ n flag = refl

module _ (program : Program) (n : ℕ) where
  -- to a configuration from an item in front of some work
  abbrev pub Down : Bool → Item → List Item → Config → Type 0
  Down i item rest c = Below (weight program n c.state.inhibited c.work) (weight program n i (item ∷ rest))

  abbrev pub Falls : Bool → Item → List Item → Step → Type 0
  Falls i item rest (Goes x) = Down i item rest x.config
  Falls i item rest (Asks ask next) = Unit {0}
  Falls i item rest Ended = Unit {0}

  -- some lighter items for one, where inhibition stays
  down : (i : Bool) (item : Item) (front rest : List Item) (t : State) → t.inhibited ≡ i → IsSteady item → Steady front → total program n front < item_weight program n item → Down i item rest (record { state = t; work = front ++ rest })
  down i item front rest t e h k l = subst (λ j. Below (weight program n j (front ++ rest)) (weight program n i (item ∷ rest))) (sym e) (lighter program n i item front rest h k l)

  -- no more than what stood behind an item
  down_to : (i : Bool) (item : Item) (rest : List Item) (c : Config) → c.state.inhibited ≡ behind i item → AtMost (weight program n (behind i item) c.work) (weight program n (behind i item) rest) → Down i item rest c
  down_to i item rest c e h = under program n i item rest _ (subst (λ j. AtMost (weight program n j c.work) (weight program n (behind i item) rest)) (sym e) h)

  if_falls : (i : Bool) (item : Item) (rest : List Item) (b : Bool) (x y : Step) → Falls i item rest x → Falls i item rest y → Falls i item rest (elim b [ true ↦ x | false ↦ y ])
  if_falls i item rest true x y h k = h
  if_falls i item rest false x y h k = k

  -- FAULTS
  kept_light : (i : Bool) (reply : Reply) (work : List Item) → AtMost (weight program n i (kept_reply reply work)) (weight program n i work)
  kept_light i reply (Called k args past ∷ rest) =
      let l : length (past ++ reply ∷ []) ≡ suc (length past) = length-append past (reply ∷ []) ∙ (let q : length past + 1 ≡ suc (length past) = omega arith in q) in
      let m : 256 - length (past ++ reply ∷ []) ≡ 255 - length past = ap (λ l. 256 - l) l ∙ (let q : 256 - suc (length past) ≡ 255 - length past = omega arith in q) in
      let e : item_weight program n (Native k args (past ++ reply ∷ [])) ≡ item_weight program n (Called k args past) = ap (λ l. l * (call_weight n + 1) + 2) m in
      go i e
    where
      go : (i : Bool) → item_weight program n (Native k args (past ++ reply ∷ [])) ≡ item_weight program n (Called k args past) → AtMost (weight program n i (Native k args (past ++ reply ∷ []) ∷ rest)) (weight program n i (Called k args past ∷ rest))
      go true e = both (omega arith) (rw e (omega arith))
      go false e = both (rw e (omega arith)) (omega arith)
  kept_light i reply work = at_most_same (weight program n i work)

  without_light : (i : Bool) (work : List Item) → AtMost (weight program n i (without_hooks_item work)) (weight program n i work)
  without_light i (Hooks kind names args ∷ rest) = below_at_most _ _ (under program n i (Hooks kind names args) rest _ (at_most_same (weight program n i rest)))
  without_light i work = at_most_same (weight program n i work)

  abbrev Dropped : Fault → List Item → State → Type 0
  Dropped f work s = AtMost (weight program n (dropped f work s).state.inhibited (dropped f work s).work) (weight program n s.inhibited work)

  -- what stands behind an item that is dropped
  drop_one : (i : Bool) (item : Item) (rest : List Item) (p : ℕ × ℕ) → AtMost p (weight program n (behind i item) rest) → AtMost p (weight program n i (item ∷ rest))
  drop_one i item rest p h = below_at_most _ _ (under program n i item rest p h)

  dropped_light : (f : Fault) (work : List Item) (s : State) → Dropped f work s
  dropped_light f [] s = at_most_same (weight program n s.inhibited [])
  dropped_light f (Top forms ∷ rest) s = at_most_same (weight program n s.inhibited (Top forms ∷ rest))
  dropped_light f (Called i args past ∷ rest) s = kept_light s.inhibited (Reply.Refused f) (Called i args past ∷ rest)
  dropped_light f (Exit kind handler c faulted ∷ rest) s = at_most_same (weight program n s.inhibited (Exit kind handler c faulted ∷ rest))
  dropped_light f (Leave kept ∷ rest) s = drop_one s.inhibited (Leave kept) rest _ (rw (restored_same kept s) at (dropped_light f rest (restored kept s)))
  dropped_light f (Calm old ∷ rest) s = drop_one s.inhibited (Calm old) rest _ (at_most_trans _ (weight program n s.inhibited rest) _ (dropped_light f rest s) (calmer program n s.inhibited rest))
  dropped_light f (CommitChange c ∷ rest) s = drop_one s.inhibited (CommitChange c) rest _ (dropped_light f rest (popped s))
  dropped_light f (item ∷ rest) s = drop_one s.inhibited item rest _ (dropped_light f rest s)

  -- CALLS
  module _ (s : State) (rest : List Item) (prim : Prim) (args : List Value) (target : Target) where
    abbrev item : Item
    item = MakeCall prim args target

    one : (t : State) (next : Item) → t.inhibited ≡ s.inhibited → IsSteady next → item_weight program n next ≤ 1000 → Falls s.inhibited item rest (on t (next ∷ rest))
    one t next e h l = down s.inhibited item (next ∷ []) rest t e tt (h, tt) (omega arith)

    answered_falls : (t : State) (r : Reply) → t.inhibited ≡ s.inhibited → Falls s.inhibited item rest (answered t target r rest)
    answered_falls t (Answered v) e = one t (GiveAnswer v target) e tt (omega arith)
    answered_falls t (Reply.Refused f) e = one t (Refuse f) e tt (omega arith)

    unless_falls : (tests : List Test) (t : Step) → (first_fault tests ≡ None → Falls s.inhibited item rest t) → Falls s.inhibited item rest (unless tests s rest t)
    unless_falls tests t h = go (first_fault tests) refl
      where
        go : (o : Option Fault) → first_fault tests ≡ o → Falls s.inhibited item rest (unless_fault o s rest t)
        go None e = h e
        go (Some f) e = one s (Refuse f) refl tt (omega arith)

    change_falls : (p : Prepared) → Falls s.inhibited item rest (change_call s target rest p)
    change_falls (Changes c) = down s.inhibited item (MakeChange c ∷ GiveAnswer c.reply target ∷ []) rest s refl tt (tt, (tt, tt)) (omega arith)
    change_falls (Quiet c) = one s (GiveAnswer c.reply target) refl tt (omega arith)
    change_falls (Nothing v) = one s (GiveAnswer v target) refl tt (omega arith)
    change_falls (Barred f) = one s (Refuse f) refl tt (omega arith)

    send_falls : (child : ℕ) (bytes : List ℕ) → Falls s.inhibited item rest (send s target rest child bytes)
    send_falls child [] = one s (GiveAnswer Nil target) refl tt (omega arith)
    send_falls child (b ∷ bytes) = tt

    eof_falls : (p : ℕ) (closed : Bool) → Falls s.inhibited item rest (send_eof s target rest p closed)
    eof_falls p true = one s (GiveAnswer (Value.TheProcess p) target) refl tt (omega arith)
    eof_falls p false = tt

    deletes : (ps : List ℕ) (last : Item) → IsSteady last → Steady (map Delete ps ++ last ∷ []) × (total program n (map Delete ps ++ last ∷ []) ≡ length ps + item_weight program n last)
    deletes [] last h = ((h, tt), omega arith)
    deletes (p ∷ ps) last h = let k : Steady (map Delete ps ++ last ∷ []) × (total program n (map Delete ps ++ last ∷ []) ≡ length ps + item_weight program n last) = deletes ps last h in ((tt, k.0), (let l : total program n (map Delete ps ++ last ∷ []) ≡ length ps + item_weight program n last = k.1 in omega arith))

    kills_falls : (b : ℕ) → length s.processes ≡ n → Falls s.inhibited item rest (on s (map Delete (running_in s b) ++ (Item.KillBuffer b target ∷ rest)))
    kills_falls b same =
        let k : Steady (map Delete (running_in s b) ++ Item.KillBuffer b target ∷ []) × (total program n (map Delete (running_in s b) ++ Item.KillBuffer b target ∷ []) ≡ length (running_in s b) + 2) = deletes (running_in s b) (Item.KillBuffer b target) tt in
        let l : length (running_in s b) ≤ length s.processes = running_few s b in
        let m : total program n (map Delete (running_in s b) ++ Item.KillBuffer b target ∷ []) ≡ length (running_in s b) + 2 = k.1 in
        rw append_assoc at (down s.inhibited item (map Delete (running_in s b) ++ Item.KillBuffer b target ∷ []) rest s refl tt k.0 (omega arith))

  -- a wait that is not refused has at most 1,000 rounds
  few_rounds : (bound : ℕ) (s : State) (args : List Value) → first_fault (process_tests program bound s AcceptProcessOutput args) ≡ None → rounds_of (arg args 1) ≤ 1000
  few_rounds bound s args h =
      let r : ℕ = rounds_of (arg args 1) in
      let last : List Test = must_nest bound s ∷ [] in
      let range : Test = refuse ArgsOutOfRange (nat_le 1 r && nat_le r most_rounds) in
      let types : Test = refuse WrongType (is_rounds (arg args 1)) in
      let a : first_fault (types ∷ process_there s (arg args 0) ∷ range ∷ last) ≡ None = (no_fault (must_be_process_or_nil (arg args 0)) (types ∷ process_there s (arg args 0) ∷ range ∷ last) h).1 in
      let b : first_fault (process_there s (arg args 0) ∷ range ∷ last) ≡ None = (no_fault types (process_there s (arg args 0) ∷ range ∷ last) a).1 in
      let c : first_fault (range ∷ last) ≡ None = (no_fault (process_there s (arg args 0)) (range ∷ last) b).1 in
      let d : range ≡ None = (no_fault range last c).0 in
      at_most_of r (and_right (nat_le 1 r) (nat_le r most_rounds) (refuse_ok ArgsOutOfRange (nat_le 1 r && nat_le r most_rounds) d))

  effect_falls : (bound : ℕ) (s : State) (target : Target) (rest : List Item) (prim : Prim) (args : List Value) → length s.processes ≡ n → first_fault (process_tests program bound s prim args) ≡ None → Falls s.inhibited (MakeCall prim args target) rest (process_effect s target rest prim args)
  effect_falls bound s target rest StartProcess args same h = tt
  effect_falls bound s target rest KillBuffer args same h = kills_falls s rest KillBuffer args target (buffer_of s.editor (arg args 0)) same
  effect_falls bound s target rest SetProcessFilter args same h = one s rest SetProcessFilter args target (change_process (process_of s (arg args 0)) (with_filter (filter_of (arg args 1))) s) (GiveAnswer (arg args 1) target) (change_same (process_of s (arg args 0)) (with_filter (filter_of (arg args 1))) s) tt (omega arith)
  effect_falls bound s target rest SetProcessSentinel args same h = one s rest SetProcessSentinel args target (change_process (process_of s (arg args 0)) (with_sentinel (sentinel_of (arg args 1))) s) (GiveAnswer (arg args 1) target) (change_same (process_of s (arg args 0)) (with_sentinel (sentinel_of (arg args 1))) s) tt (omega arith)
  effect_falls bound s target rest SetProcessBuffer args same h = one s rest SetProcessBuffer args target (change_process (process_of s (arg args 0)) (of_buffer (process_buffer s.editor (arg args 1))) s) (GiveAnswer (arg args 1) target) (change_same (process_of s (arg args 0)) (of_buffer (process_buffer s.editor (arg args 1))) s) tt (omega arith)
  effect_falls bound s target rest SetProcessCodingSystem args same h = one s rest SetProcessCodingSystem args target (change_process (process_of s (arg args 0)) (with_coding (coding_of (arg args 1))) s) (GiveAnswer (arg args 1) target) (change_same (process_of s (arg args 0)) (with_coding (coding_of (arg args 1))) s) tt (omega arith)
  effect_falls bound s target rest ProcessSendEof args same h = eof_falls s rest ProcessSendEof args target (process_of s (arg args 0)) (is_closed s (process_of s (arg args 0)))
  effect_falls bound s target rest ProcessSendString args same h = send_falls s rest ProcessSendString args target (child_of s (process_of s (arg args 0))) (encoded (string_of (arg args 1)))
  effect_falls bound s target rest DeleteProcess args same h = down s.inhibited (MakeCall DeleteProcess args target) (Delete (process_of s (arg args 0)) ∷ GiveAnswer Nil target ∷ []) rest s refl tt (tt, (tt, tt)) (omega arith)
  effect_falls bound s target rest AcceptProcessOutput args same h =
      let w : Waiting = waiting s (arg args 0) (arg args 1) (arg args 2) in
      let e : w.rounds ≡ rounds_of (arg args 1) = waiting_rounds s (arg args 0) (arg args 1) (arg args 2) in
      let l : rounds_of (arg args 1) ≤ 1000 = few_rounds bound s args h in
      let k : w.rounds ≤ 1000 = rw e l in
      down s.inhibited (MakeCall AcceptProcessOutput args target) (Wait w target ∷ []) rest s refl tt (tt, tt) (omega arith)
  effect_falls bound s target rest prim args same h = one s rest prim args target s (GiveAnswer Nil target) refl tt (omega arith)

  call_falls : (bound : ℕ) (s : State) (target : Target) (rest : List Item) (prim : Prim) (args : List Value) → length s.processes ≡ n → Falls s.inhibited (MakeCall prim args target) rest (call program bound s target rest prim args)
  call_falls bound s target rest prim args same =
      (elim (manner_of prim) as (λ m. Falls s.inhibited (MakeCall prim args target) rest (call_by m program bound s target rest prim args)) [
        | OnlyAsks ↦ answered_falls s rest prim args target s (query s.editor prim args) refl
        | SetsState ↦ answered_falls s rest prim args target _ (apply s.editor prim args).reply refl
        | ChangesText ↦ change_falls s rest prim args target (prepare s.editor prim args)
        | ConcernsHandlers ↦ unless_falls s rest prim args target (process_tests program bound s prim args) (process_effect s target rest prim args) (λ h. effect_falls bound s target rest prim args same h)
      ])

  -- FORMS
  evaluated_falls : (s : State) (rest : List Item) (item : Item) (o : Option (List Value)) (prim : Prim) (target : Target) → IsSteady item → call_weight n < item_weight program n item → Falls s.inhibited item rest (call_with o prim target s rest)
  evaluated_falls s rest item None prim target h l = down s.inhibited item (Refuse VoidVariable ∷ []) rest s refl h (tt, tt) (omega arith)
  evaluated_falls s rest item (Some args) prim target h l = down s.inhibited item (MakeCall prim args target ∷ []) rest s refl h (tt, tt) (omega arith)

  block_falls : (k : Block) (forms : Forms) (s : State) (rest : List Item) → Falls s.inhibited (DoForm (In k forms)) rest (block k forms s rest)
  block_falls SaveExcursion forms s rest = down s.inhibited (DoForm (In SaveExcursion forms)) (Body forms ∷ Leave KeptExcursion ∷ []) rest s refl tt (tt, (tt, tt)) (omega arith)
  block_falls SaveRestriction forms s rest = down s.inhibited (DoForm (In SaveRestriction forms)) (Body forms ∷ Leave KeptRestriction ∷ []) rest s refl tt (tt, (tt, tt)) (omega arith)
  block_falls SaveCurrentBuffer forms s rest = down s.inhibited (DoForm (In SaveCurrentBuffer forms)) (Body forms ∷ Leave (KeptBuffer s.editor.current) ∷ []) rest s refl tt (tt, (tt, tt)) (omega arith)
  block_falls InhibitReadOnly forms s rest = down s.inhibited (DoForm (In InhibitReadOnly forms)) (Body forms ∷ Leave (KeptLifting s.editor.lifted) ∷ []) rest (lifting true s) refl tt (tt, (tt, tt)) (omega arith)
  block_falls InhibitHooks forms s rest = go s.inhibited
    where
      go : (i : Bool) → Below (weight program n true (Body forms ∷ Leave (KeptInhibition i) ∷ rest)) (weight program n i (DoForm (In InhibitHooks forms) ∷ rest))
      go true = Below.second (omega arith) (omega arith)
      go false = first (omega arith)

  pair_falls : (s : State) (rest : List Item) (a b : Rattle.editor_model.specs.Values.Arg) (o : Option (List Value)) (forms : Forms) → Falls s.inhibited (DoForm (WhenEq a b forms)) rest (when_eq o forms s rest)
  pair_falls s rest a b None forms = down s.inhibited (DoForm (WhenEq a b forms)) (Refuse VoidVariable ∷ []) rest s refl tt (tt, tt) (omega arith)
  pair_falls s rest a b (Some []) forms = down s.inhibited (DoForm (WhenEq a b forms)) (Refuse VoidVariable ∷ []) rest s refl tt (tt, tt) (omega arith)
  pair_falls s rest a b (Some (x ∷ [])) forms = down s.inhibited (DoForm (WhenEq a b forms)) (Refuse VoidVariable ∷ []) rest s refl tt (tt, tt) (omega arith)
  pair_falls s rest a b (Some (x ∷ y ∷ [])) forms = if_falls s.inhibited (DoForm (WhenEq a b forms)) rest (equal x y) (on s (Body forms ∷ rest)) (on s rest)
      (down s.inhibited (DoForm (WhenEq a b forms)) (Body forms ∷ []) rest s refl tt (tt, tt) (omega arith))
      (down s.inhibited (DoForm (WhenEq a b forms)) [] rest s refl tt tt (omega arith))
  pair_falls s rest a b (Some (x ∷ y ∷ z ∷ more)) forms = down s.inhibited (DoForm (WhenEq a b forms)) (Refuse VoidVariable ∷ []) rest s refl tt (tt, tt) (omega arith)

  form_falls : (s : State) (rest : List Item) (f : Form) → Falls s.inhibited (DoForm f) rest (do_form s rest f)
  form_falls s rest (Do c) = evaluated_falls s rest (DoForm (Do c)) (evaluate s c.args) c.prim Nowhere tt (omega arith)
  form_falls s rest (Setq name c) = evaluated_falls s rest (DoForm (Setq name c)) (evaluate s c.args) c.prim (ToName name) tt (omega arith)
  form_falls s rest (In k forms) = block_falls k forms s rest
  form_falls s rest (WhenEq a b forms) = pair_falls s rest a b (evaluate s (a ∷ b ∷ [])) forms

  give_falls : (s : State) (v : Value) (target : Target) (rest : List Item) → Falls s.inhibited (GiveAnswer v target) rest (Goes (give program s v target rest))
  give_falls s v Nowhere rest = down s.inhibited (GiveAnswer v Nowhere) [] rest s refl tt tt (omega arith)
  give_falls s v (ToName name) rest = down s.inhibited (GiveAnswer v (ToName name)) [] rest (assigned name v s) (assigned_same name v s) tt tt (omega arith)
  give_falls s v ToNative rest = down_to s.inhibited (GiveAnswer v ToNative) rest (record { state = s; work = kept_reply (Answered v) rest }) refl (kept_light s.inhibited (Answered v) rest)

  -- CHANGES
  make_falls : (i : Bool) (c : Change) (names : List ℕ) (args : List Value) (rest : List Item) → Below (weight program n true (bracket i (OfBefore c.buffer) names args (CommitChange c ∷ rest))) (weight program n i (MakeChange c ∷ rest))
  make_falls true c names args rest = Below.second (omega arith) (omega arith)
  make_falls false c names args rest = first (omega arith)

  done_falls : (i : Bool) (c : Change) (kind : Kind) (names : List ℕ) (args : List Value) (rest : List Item) → Below (weight program n true (bracket i kind names args rest)) (weight program n i (CommitChange c ∷ rest))
  done_falls true c kind names args rest = Below.second (omega arith) (omega arith)
  done_falls false c kind names args rest = first (omega arith)

  commit_falls : (s : State) (c : Change) (rest : List Item) → Falls s.inhibited (CommitChange c) rest (commit_change s c rest)
  commit_falls s c rest =
      let done : Commit = commit s.editor (at_kept c (saved_of s)) in
      (elim done.committed as (λ k. Falls s.inhibited (CommitChange c) rest (after_commit done.editor k s c rest)) [
        | Failed f ↦ down s.inhibited (CommitChange c) (Refuse f ∷ []) rest s refl tt (tt, tt) (omega arith)
        | Done from to old ↦ done_falls s.inhibited c (OfAfter c.buffer) (hooks_of s.hooks c.buffer).after (at_place from ∷ at_place to ∷ Int (pos old) ∷ []) rest
      ])

  -- HANDLERS
  hooks_falls : (s : State) (kind : Kind) (name : ℕ) (names : List ℕ) (args : List Value) (rest : List Item) → Falls s.inhibited (Hooks kind (name ∷ names) args) rest (on s (Enter kind (Some name) args ∷ Hooks kind names args ∷ rest))
  hooks_falls s kind name names args rest =
      let h : ℕ = enter_weight program n in
      let e : suc (length names) * (enter_weight program n + 1) ≡ length names * (enter_weight program n + 1) + (enter_weight program n + 1) = times_more (length names) (enter_weight program n + 1) in
      down s.inhibited (Hooks kind (name ∷ names) args) (Enter kind (Some name) args ∷ Hooks kind names args ∷ []) rest s refl tt (tt, (tt, tt)) (rw e (omega arith))

  -- what an entry comes to
  module _ (i : Bool) (rest : List Item) (kind : Kind) (handler : Option ℕ) (args : List Value) (current_at_entry : ℕ) where
    abbrev entry : Item
    entry = Enter kind handler args

    abbrev leaving : Item
    leaving = Exit kind handler current_at_entry false

    put_falls : (t : State) (p : Prepared) → t.inhibited ≡ i → Down i entry rest (put_in t p (leaving ∷ rest))
    put_falls t (Changes c) e = down i entry (MakeChange c ∷ leaving ∷ []) rest t e tt (tt, (tt, tt)) (omega arith)
    put_falls t (Quiet c) e = down i entry (leaving ∷ []) rest t e tt (tt, tt) (omega arith)
    put_falls t (Nothing v) e = down i entry (leaving ∷ []) rest t e tt (tt, tt) (omega arith)
    put_falls t (Barred f) e = down i entry (Refuse f ∷ leaving ∷ []) rest t e tt (tt, (tt, tt)) (omega arith)

    output_falls : (t : State) (o : Option ℕ) (mark : ℕ) (text : List Cell) → t.inhibited ≡ i → Down i entry rest (output_in t o mark text (leaving ∷ rest))
    output_falls t None mark text e = down i entry (leaving ∷ []) rest t e tt (tt, tt) (omega arith)
    output_falls t (Some b) mark text e = put_falls (current b t) (prepare_output t.editor b mark text) e

    default_falls : (t : State) (k : Kind) → t.inhibited ≡ i → Down i entry rest (default_handler t k args (leaving ∷ rest))
    default_falls t (OfFilter p) e = output_falls t (process_buffer_of t p) (mark_of_process t p) (plain_text (second args)) e
    default_falls t (OfSentinel p) e = output_falls t (process_buffer_of t p) (mark_of_process t p) (sentinel_words t p (plain_text (second args))) e
    default_falls t (OfBefore b) e = down i entry (leaving ∷ []) rest t e tt (tt, tt) (omega arith)
    default_falls t (OfAfter b) e = down i entry (leaving ∷ []) rest t e tt (tt, tt) (omega arith)

    body_falls : (t : State) (o : Option ℕ) → t.inhibited ≡ i → Down i entry rest (body_of program t kind o args (leaving ∷ rest))
    body_falls t None e = default_falls (record t { scopes = [] ∷ t.scopes }) kind e
    body_falls t (Some name) e = go (handler_def program.handlers name) refl
      where
        go : (o : Option HandlerDef) → handler_def program.handlers name ≡ o → Down i entry rest (named_body program t o name args (leaving ∷ rest))
        go None f = down i entry (Native (unwrap_or (native_from 0 program.natives name) 0) args [] ∷ leaving ∷ []) rest (record t { scopes = [] ∷ t.scopes }) e tt (tt, (tt, tt)) (omega arith)
        go (Some d) f =
            let l : forms_weight (call_weight n) d.body ≤ bodies_weight (call_weight n) program.handlers = body_light (call_weight n) program.handlers name d f in
            down i entry (Body d.body ∷ leaving ∷ []) rest (record t { scopes = bound_params d.params args ∷ t.scopes }) e tt (tt, (tt, tt)) (omega arith)

  native_falls : (s : State) (i : ℕ) (args : List Value) (past : List Reply) (rest : List Item) → Falls s.inhibited (Native i args past) rest (native program s i args past rest)
  native_falls s i args past rest = go (nat_lt (length past) 256) refl (program.does i args past)
    where
      made : (c : Prim × List Value) → nat_lt (length past) 256 ≡ true → (b : Bool) (x y : Item) → IsSteady x → IsSteady y → item_weight program n x ≤ call_weight n → item_weight program n y ≤ call_weight n → Falls s.inhibited (Native i args past) rest (on s (elim b [ true ↦ x | false ↦ y ] ∷ Called i args past ∷ rest))
      made c room b x y h k l m =
          let a : 256 - length past ≡ suc (255 - length past) = left_more (length past) room in
          let e : suc (255 - length past) * (call_weight n + 1) ≡ (255 - length past) * (call_weight n + 1) + (call_weight n + 1) = times_more (255 - length past) (call_weight n + 1) in
          let w : (256 - length past) * (call_weight n + 1) ≡ (255 - length past) * (call_weight n + 1) + (call_weight n + 1) = ap (λ d. d * (call_weight n + 1)) a ∙ e in
          which b w
        where
          which : (b : Bool) → (256 - length past) * (call_weight n + 1) ≡ (255 - length past) * (call_weight n + 1) + (call_weight n + 1) → Falls s.inhibited (Native i args past) rest (on s (elim b [ true ↦ x | false ↦ y ] ∷ Called i args past ∷ rest))
          which true w = down s.inhibited (Native i args past) (x ∷ Called i args past ∷ []) rest s refl tt (h, (tt, tt)) (rw w (omega arith))
          which false w = down s.inhibited (Native i args past) (y ∷ Called i args past ∷ []) rest s refl tt (k, (tt, tt)) (rw w (omega arith))

      go : (b : Bool) → nat_lt (length past) 256 ≡ b → (o : Option (Prim × List Value)) → Falls s.inhibited (Native i args past) rest (native_next b o program s i args past rest)
      go false e o = down_to s.inhibited (Native i args past) rest (record { state = s; work = rest }) refl (at_most_same (weight program n s.inhibited rest))
      go true e None = down_to s.inhibited (Native i args past) rest (record { state = s; work = rest }) refl (at_most_same (weight program n s.inhibited rest))
      go true e (Some c) = made c e (Rattle.plain_machine.specs.Natives.is_callable program s c) (MakeCall c.0 (map Rattle.plain_machine.specs.Natives.normal c.1) ToNative) (Refuse WrongType) tt tt (omega arith) (omega arith)

  exit_falls : (i : Bool) (kind k : Kind) (handler : Option ℕ) (c : ℕ) (faulted f : Bool) (t : State) (rest : List Item) → t.inhibited ≡ i → Down i (Exit k handler c f) rest (ended_handler kind faulted t rest)
  exit_falls i (OfFilter p) k handler c faulted f t rest e = down i (Exit k handler c f) [] rest t e tt tt (omega arith)
  exit_falls i (OfSentinel p) k handler c faulted f t rest e = down i (Exit k handler c f) [] rest (change_process p unlisted t) (change_same p unlisted t ∙ e) tt tt (omega arith)
  exit_falls i (OfBefore b) k handler c true f t rest e = down_to i (Exit k handler c f) rest (ended_handler (OfBefore b) true t rest) (live_same t b _ refl ∙ e) (without_light i rest)
  exit_falls i (OfBefore b) k handler c false f t rest e = down i (Exit k handler c f) [] rest t e tt tt (omega arith)
  exit_falls i (OfAfter b) k handler c true f t rest e = down_to i (Exit k handler c f) rest (ended_handler (OfAfter b) true t rest) (live_same t b _ refl ∙ e) (without_light i rest)
  exit_falls i (OfAfter b) k handler c false f t rest e = down i (Exit k handler c f) [] rest t e tt tt (omega arith)

  -- WAITS AND ENDS
  ask_falls : (s : State) (w v : Waiting) (target : Target) (rest : List Item) (p : ℕ) → Falls s.inhibited (Wait v target) rest (ask_process s w target rest p)
  ask_falls s w v target rest p = go (may_ask s) (process s p)
    where
      which : (x : Process) (b : Bool) → Falls s.inhibited (Wait v target) rest (ask_next b s w target rest p x)
      which x true = tt
      which x false = tt

      go : (b : Bool) (o : Option Process) → Falls s.inhibited (Wait v target) rest (ask_if b o s w target rest p)
      go false o = down s.inhibited (Wait v target) (Refuse ExchangesSpent ∷ []) rest s refl tt (tt, tt) (omega arith)
      go true None = down s.inhibited (Wait v target) [] rest s refl tt tt (omega arith)
      go true (Some x) = which x x.drained

  wait_falls : (s : State) (w : Waiting) (target : Target) (rest : List Item) → Falls s.inhibited (Wait w target) rest (wait s w target rest)
  wait_falls s w target rest = go w.counted (target_is_eligible s w) (from_eligible s w w.asking) (eligible s w) w.rounds refl
    where
      go : (counted fit : Bool) (asking all : List ℕ) (rounds : ℕ) → w.rounds ≡ rounds → Falls s.inhibited (Wait w target) rest (wait_case counted fit asking all rounds s w target rest)
      go true fit asking all rounds e = down s.inhibited (Wait w target) (GiveAnswer T target ∷ []) rest s refl tt (tt, tt) (omega arith)
      go false false asking all rounds e = down s.inhibited (Wait w target) (GiveAnswer Nil target ∷ []) rest s refl tt (tt, tt) (omega arith)
      go false true (p ∷ more) all rounds e = ask_falls s (record w { asking = more }) w target rest p
      go false true [] [] rounds e = down s.inhibited (Wait w target) (GiveAnswer Nil target ∷ []) rest s refl tt (tt, tt) (omega arith)
      go false true [] (p ∷ more) zero e = down s.inhibited (Wait w target) (GiveAnswer Nil target ∷ []) rest s refl tt (tt, tt) (omega arith)
      go false true [] (p ∷ more) (suc r) e = down s.inhibited (Wait w target) (Wait (record w { rounds = r; asking = p ∷ more }) target ∷ []) rest s refl tt (tt, tt) (rw e (omega arith))

  delete_falls : (s : State) (p : ℕ) (rest : List Item) → Falls s.inhibited (Delete p) rest (delete s p rest)
  delete_falls s p rest = go (process s p)
    where
      gone : Falls s.inhibited (Delete p) rest (on s rest)
      gone = down s.inhibited (Delete p) [] rest s refl tt tt (omega arith)

      by_status : (x : Process) (k : Status) → Falls s.inhibited (Delete p) rest (delete_running k s p x rest)
      by_status x Runs = tt
      by_status x _ = gone

      go : (o : Option Process) → Falls s.inhibited (Delete p) rest (delete_one s p o rest)
      go None = gone
      go (Some x) = by_status x x.status

  kill_buffer_falls : (s : State) (b : ℕ) (target : Target) (rest : List Item) → Falls s.inhibited (Item.KillBuffer b target) rest (kill_at_end s b target rest)
  kill_buffer_falls s b target rest = go (is_live s.editor b)
    where
      one_left : (next : Item) → IsSteady next → item_weight program n next ≤ 1 → Below (weight program n s.inhibited (next ∷ rest)) (weight program n s.inhibited (Item.KillBuffer b target ∷ rest))
      one_left next h l = lighter program n s.inhibited (Item.KillBuffer b target) (next ∷ []) rest tt (h, tt) (omega arith)

      by_fault : (o : Option Fault) → Falls s.inhibited (Item.KillBuffer b target) rest (unless_fault o s rest (on (with_editor (killed b s.editor) s) (GiveAnswer T target ∷ rest)))
      by_fault None = one_left (GiveAnswer T target) tt (omega arith)
      by_fault (Some f) = one_left (Refuse f) tt (omega arith)

      go : (v : Bool) → Falls s.inhibited (Item.KillBuffer b target) rest (kill_live v s b target rest)
      go false = one_left (GiveAnswer Nil target) tt (omega arith)
      go true = by_fault (first_fault (must_be_replaceable s.editor b ∷ []))

  -- an item behind which nothing is left
  alone : (i : Bool) (item : Item) (front rest : List Item) → IsSteady item → Steady front → total program n front < item_weight program n item → Below (weight program n i front) (weight program n i (item ∷ rest))
  alone i item front rest h k l = joined (rw append-nil at (lighter program n i item front [] h k l)) i
    where
      joined : Below (weight program n i front) (weight program n i (item ∷ [])) → (j : Bool) → Below (weight program n i front) (weight program n i (item ∷ rest))
      joined (first a) j = first (omega arith)
      joined (Below.second a b) j = Below.second (omega arith) (omega arith)

  finish_falls : (s : State) (p : ℕ) (rest : List Item) → length s.processes ≡ n → Falls s.inhibited (Finish p) rest (finish program s p)
  finish_falls s p rest same = go (process s p) refl
    where
      by_status : (x : Process) → process s p ≡ Some x → (k : Status) → Falls s.inhibited (Finish p) rest (finish_running program k s p x)
      by_status x e Runs = tt
      by_status x e _ =
          let l : p < length s.processes = slice_get_within s.processes p x e in
          alone s.inhibited (Finish p) (Finish (p + 1) ∷ []) rest tt (tt, tt) (omega arith)

      go : (o : Option Process) → process s p ≡ o → Falls s.inhibited (Finish p) rest (finish_one program s p o)
      go None e = alone s.inhibited (Finish p) (WriteDump ∷ []) rest tt (tt, tt) (omega arith)
      go (Some x) e = by_status x e x.status

  -- EACH ITEM
  pub item_falls : (bound : ℕ) (s : State) (rest : List Item) (item : Item) → length s.processes ≡ n → Falls s.inhibited item rest (item_step program bound s rest item)
  item_falls bound s rest (Top NoForms) same = alone s.inhibited (Top NoForms) (Finish 0 ∷ []) rest tt (tt, tt) (omega arith)
  item_falls bound s rest (Top (Then form forms)) same = down s.inhibited (Top (Then form forms)) (DoForm form ∷ Top forms ∷ []) rest s refl tt (tt, (tt, tt)) (omega arith)
  item_falls bound s rest (Body NoForms) same = down s.inhibited (Body NoForms) [] rest s refl tt tt (omega arith)
  item_falls bound s rest (Body (Then form forms)) same = down s.inhibited (Body (Then form forms)) (DoForm form ∷ Body forms ∷ []) rest s refl tt (tt, (tt, tt)) (omega arith)
  item_falls bound s rest (DoForm form) same = form_falls s rest form
  item_falls bound s rest (MakeCall prim args target) same = call_falls bound s target rest prim args same
  item_falls bound s rest (Leave kept) same = down_to s.inhibited (Leave kept) rest (record { state = restored kept s; work = rest }) (restored_same kept s) (at_most_same (weight program n (behind s.inhibited (Leave kept)) rest))
  item_falls bound s rest (GiveAnswer v target) same = give_falls s v target rest
  item_falls bound s rest (Refuse f) same = under program n s.inhibited (Refuse f) rest _ (dropped_light f rest s)
  item_falls bound s rest (MakeChange c) same = make_falls s.inhibited c (hooks_of s.hooks c.buffer).before (at_place c.from ∷ at_place c.to ∷ []) rest
  item_falls bound s rest (Hooks kind [] args) same = down s.inhibited (Hooks kind [] args) [] rest s refl tt tt (omega arith)
  item_falls bound s rest (Hooks kind (name ∷ names) args) same = hooks_falls s kind name names args rest
  item_falls bound s rest (Calm old) same = under program n s.inhibited (Calm old) rest _ (calmer program n old rest)
  item_falls bound s rest (CommitChange c) same = commit_falls s c rest
  item_falls bound s rest (Enter kind handler args) same = body_falls s.inhibited rest kind handler args s.editor.current (record s { depth = s.depth + 1 }) handler refl
  item_falls bound s rest (Native i args past) same = native_falls s i args past rest
  item_falls bound s rest (Called i args past) same = down_to s.inhibited (Called i args past) rest (record { state = s; work = rest }) refl (at_most_same (weight program n s.inhibited rest))
  item_falls bound s rest (Exit kind handler c faulted) same = exit_falls s.inhibited kind kind handler c faulted faulted (left_state s c) rest (left_same s c)
  item_falls bound s rest (Wait w target) same = wait_falls s w target rest
  item_falls bound s rest (Delete p) same = delete_falls s p rest
  item_falls bound s rest (Item.KillBuffer b target) same = kill_buffer_falls s b target rest
  item_falls bound s rest (Finish p) same = finish_falls s p rest same
  item_falls bound s rest WriteDump same = alone s.inhibited WriteDump [] rest tt tt (omega arith)

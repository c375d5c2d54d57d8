-- Waits, deletions and the killing of buffers: the steps that ask a child, up to what is entered.
use Rattle.std.proofs.Common.{◌≡◌, ℕ, ◌<◌, Bool, true, false, List, [], ◌∷◌, ◌++◌, length, map, refl, ap, sym, ◌∙◌, arith, inl, inr}
use Rattle.std.specs.Prelude.{Option, Some, None, nat_lt, nat_le, slice_get, ◌&&◌}
use Rattle.std.proofs.lemmas.Bool.{ltb-true}
use Rattle.editor_model.specs.Values.{Value, Nil, T, Reply, Answered, Fault, Nesting, ExchangesSpent, WrongType, ArgsOutOfRange, Prim, AcceptProcessOutput, DeleteProcess, KillBuffer}
use Rattle.editor_model.specs.Prims.{ConcernsHandlers, manner_of}
use Rattle.editor_model.specs.Editor.{is_live, killed}
use Rattle.editor_model.specs.Answers.{Test, Applied, applied, applied_of, refuse, first_fault}
use Rattle.editor_model.specs.Arguments.{arg, buffer_of, must_be_buffer_or_nil, buffer_there}
use Rattle.plain_machine.specs.State.{State, Program, Process, process}
use Rattle.plain_machine.specs.Lines.{Kind, OfFilter, OfSentinel, OfBefore, OfAfter}
use Rattle.plain_machine.specs.Arguments.{process_of, is_running, running_in, runs}
use Rattle.plain_machine.specs.Items.{Item, MakeCall, GiveAnswer, Refuse, Wait, Delete, KillBuffer as KillsBuffer, Target, Waiting}
use Rattle.plain_machine.specs.Calls.{on, call_by, unless_fault, process_effect, with_editor}
use Rattle.plain_machine.specs.Refusals.{only_where, must_nest, must_be_replaceable, may_ask, must_be_process, must_be_process_or_nil, process_there, is_rounds, rounds_of, most_rounds}
use Rattle.plain_machine.specs.Waits.{ask_if, kill_live, is_eligible, is_eligible_one}
use Rattle.plain_machine.specs.Step.{step}
use Rattle.plain_machine.specs.Run.{Reaches, stays, goes}
use Rattle.process_table.specs.Table.{with_table}
use Rattle.wait_loop.specs.Rounds.{Leads}
use Rattle.wait_loop.specs.declared.rounds.Step.TheVariants as turn
use Rattle.kernel_steps.specs.Outside.{deepest}
use Rattle.kernel_steps.specs.Handlers.{ended_work}
use Rattle.kernel_steps.specs.Waits.{IsHeard, Passes, refusal_of, waiting_of, AsksNow, IsAsked, deleting, killed_by, truth_of}
use Rattle.kernel_steps.specs.Worlds.{World, Stands, MayEnter}
use Rattle.kernel_steps.specs.Work.{working, IsBehind, at_item, reply_item}
use Rattle.kernel_steps.proofs.KeptProcesses.{tests_alike, process_alike, running_in_alike, waiting_alike}
use Rattle.kernel_steps.proofs.Works.{Went, went_silently}

-- TESTS
third : (a b c : Test) → first_fault (a ∷ b ∷ c ∷ []) ≡ None → c ≡ None
third None None None h = refl
third None None (Some f) h = h
third None (Some f) c h = absurd (let x : Some f ≡ None = h in cc)
third (Some f) b c h = absurd (let x : Some f ≡ None = h in cc)

fourth : (a b c d : Test) → first_fault (a ∷ b ∷ c ∷ d ∷ []) ≡ None → d ≡ None
fourth None b c d h = third b c d h
fourth (Some f) b c d h = absurd (let x : Some f ≡ None = h in cc)

fifth : (a b c d e : Test) → first_fault (a ∷ b ∷ c ∷ d ∷ e ∷ []) ≡ None → e ≡ None
fifth None b c d e h = fourth b c d e h
fifth (Some f) b c d e h = absurd (let x : Some f ≡ None = h in cc)

allowed : (f : Fault) (b : Bool) → refuse f b ≡ None → b ≡ true
allowed f true h = refl
allowed f false h = absurd (let x : Some f ≡ None = h in cc)

if_so : (b : Bool) (t : Test) → only_where b t ≡ None → b ≡ true → t ≡ None
if_so true t h e = h
if_so false t h e = absurd (let x : false ≡ true = e in cc)

pub wait_nests : (program : Program) (known : State) (args : List Value) → Passes program known AcceptProcessOutput args → known.depth < 16
wait_nests program known args p =
    ltb-true known.depth 16 (allowed Nesting (nat_lt known.depth 16)
    (fifth (must_be_process_or_nil (arg args 0)) (refuse WrongType (is_rounds (arg args 1))) (process_there known (arg args 0)) (refuse ArgsOutOfRange (nat_le 1 (rounds_of (arg args 1)) && nat_le (rounds_of (arg args 1)) most_rounds)) (must_nest deepest known) p))

pub deletion_nests : (program : Program) (known : State) (args : List Value) → Passes program known DeleteProcess args → is_running known (process_of known (arg args 0)) ≡ true → known.depth < 16
deletion_nests program known args p runs_now =
    ltb-true known.depth 16 (allowed Nesting (nat_lt known.depth 16) (if_so (is_running known (process_of known (arg args 0))) (must_nest deepest known)
    (third (must_be_process (arg args 0)) (process_there known (arg args 0)) (only_where (is_running known (process_of known (arg args 0))) (must_nest deepest known)) p) runs_now))

pub killing_nests : (program : Program) (known : State) (args : List Value) → Passes program known KillBuffer args → nat_lt 0 (length (running_in known (buffer_of known.editor (arg args 0)))) ≡ true → known.depth < 16
killing_nests program known args p some =
    let b : ℕ = buffer_of known.editor (arg args 0) in
    ltb-true known.depth 16 (allowed Nesting (nat_lt known.depth 16) (if_so (nat_lt 0 (length (running_in known b))) (must_nest deepest known)
    (fourth (must_be_buffer_or_nil (arg args 0)) (buffer_there known.editor (arg args 0)) (must_be_replaceable known.editor b) (only_where (nat_lt 0 (length (running_in known b))) (must_nest deepest known)) p) some))

pub eligible_running : (s : State) (table : List Process) (w : Waiting) (p : ℕ) → table ≡ s.processes → is_eligible (with_table table) w p ≡ true → is_running s p ≡ true
eligible_running s table w p same e = by (slice_get s.processes p) (ap (λ l. is_eligible_one w p (slice_get l p)) (sym same) ∙ e)
  where
    front : (a b : Bool) → (a && b) ≡ true → a ≡ true
    front true b h = refl
    front false b h = absurd (let x : false ≡ true = h in cc)

    by : (o : Option Process) → is_eligible_one w p o ≡ true → (elim o [ None ↦ false | Some x ↦ runs x.status ]) ≡ true
    by None h = absurd (let x : false ≡ true = h in cc)
    by (Some x) h = front (runs x.status) _ h

pub running_asked : (s : State) (p : ℕ) → is_running s p ≡ true → may_ask s ≡ true → IsAsked s p
running_asked s p runs_now may = by (process s p) refl runs_now
  where
    by : (o : Option Process) → process s p ≡ o → (elim o [ None ↦ false | Some x ↦ runs x.status ]) ≡ true → IsAsked s p
    by None e h = absurd (let x : false ≡ true = h in cc)
    by (Some x) e h = record { one = x; found = e; running = h; may = may }

pub nest_enters : (s : State) → s.depth < 16 → MayEnter s
nest_enters s h = record { depth = omega arith; in_hook = λ e. absurd (omega arith) }

pub heard_work : (kind : Kind) (faulted : Bool) (rest : List Item) → IsHeard kind → ended_work kind faulted rest ≡ rest
heard_work (OfFilter p) faulted rest h = refl
heard_work (OfSentinel p) faulted rest h = refl
heard_work (OfBefore b) faulted rest h = absurd h
heard_work (OfAfter b) faulted rest h = absurd h

-- BEHIND
pub wait_behind : (w : Waiting) (target : Target) (rest : List Item) → IsBehind rest → IsBehind (Wait w target ∷ rest)
wait_behind w target rest h = record {
  next = λ s. record { between = tt; before_end = tt };
  replied = λ r s. record { between = tt; before_end = tt };
  unhooked = λ s. record { between = tt; before_end = tt };
  faulted = λ f s. h.faulted f s;
}

pub kills_behind : (b : ℕ) (target : Target) (rest : List Item) → IsBehind rest → IsBehind (KillsBuffer b target ∷ rest)
kills_behind b target rest h = record {
  next = λ s. record { between = tt; before_end = tt };
  replied = λ r s. record { between = tt; before_end = tt };
  unhooked = λ s. record { between = tt; before_end = tt };
  faulted = λ f s. h.faulted f s;
}

delete_behind : (p : ℕ) (rest : List Item) → IsBehind rest → IsBehind (Delete p ∷ rest)
delete_behind p rest h = record {
  next = λ s. record { between = tt; before_end = tt };
  replied = λ r s. record { between = tt; before_end = tt };
  unhooked = λ s. record { between = tt; before_end = tt };
  faulted = λ f s. h.faulted f s;
}

pub deletes_behind : (ps : List ℕ) (rest : List Item) → IsBehind rest → IsBehind (map Delete ps ++ rest)
deletes_behind [] rest h = h
deletes_behind (p ∷ ps) rest h = delete_behind p (map Delete ps ++ rest) (deletes_behind ps rest h)

-- CALLS
module _ (program : Program) (w : World) where
  refused_alike : (s : State) (prim : Prim) (args : List Value) → Stands w.state s → refusal_of program s prim args ≡ refusal_of program w.state prim args
  refused_alike s prim args h = ap first_fault (sym (tests_alike program w.state s prim args h))

  -- a call that is refused
  pub refused_went : (prim : Prim) (args : List Value) (target : Target) (f : Fault) → manner_of prim ≡ ConcernsHandlers → Some f ≡ refusal_of program w.state prim args →
      Went program w w (at_item (MakeCall prim args target)) (at_item (Refuse f))
  refused_went prim args target f manner refused = went_silently program w w.state (λ s. s) _ (at_item (Refuse f)) (λ s h. h)
      (λ s rest h. goes (ap (λ m. call_by m program deepest s target rest prim args) manner ∙ ap (λ o. unless_fault o s rest (process_effect s target rest prim args)) (refused_alike s prim args h ∙ sym refused)) stays)

  -- a call that passes its tests has its effect
  pub effect_step : (prim : Prim) (args : List Value) (target : Target) → manner_of prim ≡ ConcernsHandlers → Passes program w.state prim args → (s : State) (rest : List Item) → Stands w.state s → step program deepest (working s (MakeCall prim args target ∷ rest)) ≡ process_effect s target rest prim args
  effect_step prim args target manner p s rest h = ap (λ m. call_by m program deepest s target rest prim args) manner ∙ ap (λ o. unless_fault o s rest (process_effect s target rest prim args)) (refused_alike s prim args h ∙ p)

  pub waits_went : (args : List Value) (target : Target) (begun : Waiting) → Passes program w.state AcceptProcessOutput args → begun ≡ waiting_of w.state args →
      Went program w w (at_item (MakeCall AcceptProcessOutput args target)) (at_item (Wait begun target))
  waits_went args target begun p is = went_silently program w w.state (λ s. s) _ (at_item (Wait begun target)) (λ s h. h)
      (λ s rest h. goes (effect_step AcceptProcessOutput args target refl p s rest h ∙ ap (λ b. on s (Wait b target ∷ rest)) (sym (is ∙ waiting_alike w.state s (arg args 0) (arg args 1) (arg args 2) h))) stays)

  pub deletes_went : (args : List Value) (target : Target) (p : ℕ) → Passes program w.state DeleteProcess args → p ≡ process_of w.state (arg args 0) →
      Went program w w (at_item (MakeCall DeleteProcess args target)) (λ s rest. working s (Delete p ∷ GiveAnswer Nil target ∷ rest))
  deletes_went args target p passes is = went_silently program w w.state (λ s. s) _ (λ s rest. working s (Delete p ∷ GiveAnswer Nil target ∷ rest)) (λ s h. h)
      (λ s rest h. goes (effect_step DeleteProcess args target refl passes s rest h ∙ ap (λ b. on s (Delete b ∷ GiveAnswer Nil target ∷ rest)) (sym (is ∙ process_alike w.state s (arg args 0) h))) stays)

  pub kills_went : (args : List Value) (target : Target) (b : ℕ) (ps : List ℕ) → Passes program w.state KillBuffer args → b ≡ buffer_of w.state.editor (arg args 0) → ps ≡ running_in w.state b →
      Went program w w (at_item (MakeCall KillBuffer args target)) (λ s rest. deleting ps s (KillsBuffer b target ∷ rest))
  kills_went args target b ps passes buffer are = went_silently program w w.state (λ s. s) _ (λ s rest. deleting ps s (KillsBuffer b target ∷ rest)) (λ s h. h)
      (λ s rest h.
      let same : buffer_of s.editor (arg args 0) ≡ b = ap (λ (t : State). buffer_of t.editor (arg args 0)) (sym h) ∙ sym buffer in
      goes (effect_step KillBuffer args target refl passes s rest h ∙ ap (λ n. on s (map Delete (running_in s n) ++ (KillsBuffer n target ∷ rest))) same ∙ ap (λ l. on s (map Delete l ++ (KillsBuffer b target ∷ rest))) (sym (are ∙ running_in_alike w.state s b h))) stays)

  -- the buffer is killed, unless it was meanwhile
  abbrev by_life : State → (b : ℕ) → Bool → Applied
  by_life s b lives = elim lives [ true ↦ applied s.editor (must_be_replaceable s.editor b ∷ []) (killed b s.editor) T | false ↦ record { editor = s.editor; reply = Answered Nil } ]

  killed_by_fault : (s : State) (b : ℕ) (target : Target) (rest : List Item) (o : Option Fault) →
      unless_fault o s rest (on (with_editor (killed b s.editor) s) (GiveAnswer T target ∷ rest)) ≡ on (with_editor (applied_of o s.editor (killed b s.editor) T).editor s) (reply_item (applied_of o s.editor (killed b s.editor) T).reply target ∷ rest)
  killed_by_fault s b target rest None = refl
  killed_by_fault s b target rest (Some f) = refl

  killed_step : (s : State) (b : ℕ) (target : Target) (rest : List Item) (lives : Bool) → kill_live lives s b target rest ≡ on (with_editor (by_life s b lives).editor s) (reply_item (by_life s b lives).reply target ∷ rest)
  killed_step s b target rest true = killed_by_fault s b target rest (first_fault (must_be_replaceable s.editor b ∷ []))
  killed_step s b target rest false = refl

  abbrev without : (b : ℕ) → State → State
  without b s = record s { editor = (killed_by s.editor b).editor }

  pub killed_went : (known : State) (b : ℕ) (target : Target) (r : Reply) → known ≡ record w.state { editor = (killed_by w.state.editor b).editor } → r ≡ (killed_by w.state.editor b).reply →
      Went program w (record w { state = known }) (at_item (KillsBuffer b target)) (at_item (reply_item r target))
  killed_went known b target r now is = went_silently program w known (without b) _ (at_item (reply_item r target)) (λ s h. now ∙ ap (without b) h)
      (λ s rest h. goes (killed_step s b target rest (is_live s.editor b) ∙ ap (λ q. on (without b s) (reply_item q target ∷ rest)) (ap (λ (t : State). (killed_by t.editor b).reply) (sym h) ∙ sym is)) stays)

-- A WAIT
module _ (program : Program) (w : World) (v : Waiting) (target : Target) where
  pub answers_went : (heard : Bool) (u : Waiting) → ((s : State) → Stands w.state s → Leads s v (turn.Done heard) u) → Went program w w (at_item (Wait v target)) (at_item (reply_item (Answered (truth_of heard)) target))
  answers_went true u leads = went_silently program w w.state (λ s. s) _ (at_item (GiveAnswer T target)) (λ s h. h) (λ s rest h. goes (leads s h target rest) stays)
  answers_went false u leads = went_silently program w w.state (λ s. s) _ (at_item (GiveAnswer Nil target)) (λ s h. h) (λ s rest h. goes (leads s h target rest) stays)

  spent_by : (p : ℕ) (u : Waiting) (s : State) (rest : List Item) → may_ask s ≡ false → Leads s v (turn.Ask p) u → Reaches program deepest (working s (Wait v target ∷ rest)) [] [] (working s (Refuse ExchangesSpent ∷ rest))
  spent_by p u s rest no_more (inl a) = goes (a target rest ∙ ap (λ b. ask_if b (process s p) s u target rest p) no_more) stays
  spent_by p u s rest no_more (inr (x, (g, a))) = goes (g target rest) (goes (a target rest ∙ ap (λ b. ask_if b (process s p) s u target rest p) no_more) stays)

  pub spent_went : (p : ℕ) (u : Waiting) → may_ask w.state ≡ false → AsksNow w.state v p u → Went program w w (at_item (Wait v target)) (at_item (Refuse ExchangesSpent))
  spent_went p u no_more leads = went_silently program w w.state (λ s. s) _ (at_item (Refuse ExchangesSpent)) (λ s h. h)
      (λ s rest h. spent_by p u s rest (ap (λ (t : State). may_ask t) (sym h) ∙ no_more) (leads s h))

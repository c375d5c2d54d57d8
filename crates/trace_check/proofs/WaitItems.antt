-- Waits: what the machine comes to by what the code finds ahead.
use Rattle.std.proofs.Common.{◌≡◌, ℕ, zero, suc, ◌-◌, ◌<◌, Bool, true, false, List, [], ◌∷◌, length, map, drop, refl, ap, sym, ◌∙◌, arith}
use Rattle.std.specs.Prelude.{Option, Some, None, option_map, slice_get, nat_le, nat_lt, ◌&&◌}
use Rattle.std.specs.List.{list_all}
use Rattle.std.proofs.lemmas.Option.{slice_get-map}
use Rattle.editor_model.specs.Values.{ExchangesSpent, truth}
use Rattle.plain_machine.specs.Exchanges.{Ask, Answer, Bytes, Nothing, End, Code, Signal, Running, Started, Refused, Sent, Broken, Closed, Killed, Failed}
use Rattle.plain_machine.specs.State.{State, Program, Process, process}
use Rattle.plain_machine.specs.Items.{Item, Wait, GiveAnswer, Refuse, Target, Waiting, Next, Step, Asks}
use Rattle.plain_machine.specs.Calls.{on, silent}
use Rattle.plain_machine.specs.Refusals.{may_ask}
use Rattle.plain_machine.specs.Step.{step}
use Rattle.plain_machine.specs.Waits.{ask_if, ask_next, ask_process, eligible, from_eligible, hear, is_eligible, target_is_eligible, wait_case}
use Rattle.process_table.specs.Table.{kept, with_table}
use Rattle.wait_loop.specs.KeptWaits.{noted}
use Rattle.wait_loop.proofs.EligibleLemmas.{first_left_is_eligible}
use Rattle.wait_loop.proofs.StepLemmas.{Alike, eligible_alike, eligible_is_made, from_alike, stands_alike, target_alike}
use Rattle.kernel_steps.specs.Outside.{deepest}
use Rattle.kernel_steps.specs.Waits.{entering, truth_of}
use Rattle.kernel_steps.specs.Work.{working}
use Rattle.kernel_steps.specs.Worlds.{Stands}
use Rattle.kernel_steps.specs.declared.kernel.Heard.{Heard}
use Rattle.trace_check.specs.Answers.{HearsAnswer, Hears, may_hear, next_by}
use Rattle.trace_check.specs.Questions.{asked_about}
use Rattle.trace_check.specs.Steps.{Quietly}
use Rattle.trace_check.specs.Waits.{ahead_case, ahead_of, in_next_round, without_first}
use Rattle.trace_check.specs.declared.waiting.Ahead.TheVariants as ahead
use Rattle.trace_check.proofs.Quiet.{stays_put}

-- what a wait answers
pub truth_alike : (heard : Bool) → truth heard ≡ truth_of heard
truth_alike true = refl
truth_alike false = refl

-- WHAT IS AHEAD
module _ (s : State) (w : Waiting) (target : Target) (rest : List Item) where
  abbrev case : (counted fit : Bool) (asking all : List ℕ) (rounds : ℕ) → Step
  case counted fit asking all rounds = wait_case counted fit asking all rounds s w target rest

  abbrev answers : Bool → Step
  answers heard = on s (GiveAnswer (truth_of heard) target ∷ rest)

  is_heard : (a b : Bool) → ahead.Done a ≡ ahead.Done b → answers a ≡ answers b
  is_heard a b h = let same : a ≡ b = cc in ap answers same

  done_case : (counted fit : Bool) (asking all : List ℕ) (rounds : ℕ) (heard : Bool) → ahead_case counted fit asking all rounds ≡ ahead.Done heard → case counted fit asking all rounds ≡ answers heard
  done_case true fit asking all rounds heard h = is_heard true heard h
  done_case false false asking all rounds heard h = is_heard false heard h
  done_case false true (p ∷ asking) all rounds heard h = absurd (let e : ahead.Ask p ≡ ahead.Done heard = h in cc)
  done_case false true [] [] rounds heard h = is_heard false heard h
  done_case false true [] (p ∷ more) zero heard h = is_heard false heard h
  done_case false true [] (p ∷ more) (suc rounds) heard h = absurd (let e : ahead.Round ≡ ahead.Done heard = h in cc)

  abbrev again : List ℕ → ℕ → Step
  again all rounds = on s (Wait (record w { rounds = rounds; asking = all }) target ∷ rest)

  round_case : (counted fit : Bool) (asking all : List ℕ) (rounds : ℕ) → ahead_case counted fit asking all rounds ≡ ahead.Round → case counted fit asking all rounds ≡ again all (rounds - 1)
  round_case true fit asking all rounds h = absurd (let e : ahead.Done true ≡ ahead.Round = h in cc)
  round_case false false asking all rounds h = absurd (let e : ahead.Done false ≡ ahead.Round = h in cc)
  round_case false true (p ∷ asking) all rounds h = absurd (let e : ahead.Ask p ≡ ahead.Round = h in cc)
  round_case false true [] [] rounds h = absurd (let e : ahead.Done false ≡ ahead.Round = h in cc)
  round_case false true [] (p ∷ more) zero h = absurd (let e : ahead.Done false ≡ ahead.Round = h in cc)
  round_case false true [] (p ∷ more) (suc rounds) h = let less : rounds ≡ suc rounds - 1 = omega arith in ap (again (p ∷ more)) less

  abbrev asks_one : List ℕ → ℕ → Step
  asks_one left p = ask_process s (record w { asking = left }) target rest p

  ask_case : (counted fit : Bool) (asking all : List ℕ) (rounds p : ℕ) → ahead_case counted fit asking all rounds ≡ ahead.Ask p → case counted fit asking all rounds ≡ asks_one (drop 1 asking) p
  ask_case true fit asking all rounds p h = absurd (let e : ahead.Done true ≡ ahead.Ask p = h in cc)
  ask_case false false asking all rounds p h = absurd (let e : ahead.Done false ≡ ahead.Ask p = h in cc)
  ask_case false true (q ∷ asking) all rounds p h = let same : q ≡ p = (let e : ahead.Ask q ≡ ahead.Ask p = h in cc) in ap (asks_one asking) same
  ask_case false true [] [] rounds p h = absurd (let e : ahead.Done false ≡ ahead.Ask p = h in cc)
  ask_case false true [] (q ∷ more) zero p h = absurd (let e : ahead.Done false ≡ ahead.Ask p = h in cc)
  ask_case false true [] (q ∷ more) (suc rounds) p h = absurd (let e : ahead.Round ≡ ahead.Ask p = h in cc)

-- WHAT THE KERNEL KNOWS
module _ (known s : State) (w : Waiting) (h : Stands known s) where
  alike : Alike (with_table known.processes) w s w
  alike = stands_alike s known.processes w (ap (λ (t : State). t.processes) h)

  ahead_alike : ahead_of (with_table known.processes) w ≡ ahead_of s w
  ahead_alike =
      ap (λ x. ahead_case w.counted x (from_eligible (with_table known.processes) w w.asking) (eligible (with_table known.processes) w) w.rounds) (target_alike alike)
      ∙ ap (λ x. ahead_case w.counted (target_is_eligible s w) x (eligible (with_table known.processes) w) w.rounds) (from_alike alike w.asking)
      ∙ ap (λ x. ahead_case w.counted (target_is_eligible s w) (from_eligible s w w.asking) x w.rounds) (eligible_alike alike)

  next_round_alike : in_next_round (with_table known.processes) w ≡ in_next_round s w
  next_round_alike = ap (λ all. record w { rounds = w.rounds - 1; asking = all }) (eligible_alike alike)

  without_first_alike : without_first (with_table known.processes) w ≡ without_first s w
  without_first_alike = ap (λ l. record w { asking = drop 1 l }) (from_alike alike w.asking)

module _ (program : Program) (known : State) (w : Waiting) (target : Target) (rest left : List Item) where
  pub wait_done : (heard : Bool) → ahead.Done heard ≡ ahead_of (with_table known.processes) w → left ≡ GiveAnswer (truth_of heard) target ∷ rest → Quietly program known known (Wait w target ∷ rest) left
  wait_done heard is e = stays_put program known _ left (λ s h.
      done_case s w target rest w.counted (target_is_eligible s w) (from_eligible s w w.asking) (eligible s w) w.rounds heard (sym (is ∙ ahead_alike known s w h)) ∙ ap (on s) (sym e))

  pub wait_round : ahead.Round ≡ ahead_of (with_table known.processes) w → left ≡ Wait (in_next_round (with_table known.processes) w) target ∷ rest → Quietly program known known (Wait w target ∷ rest) left
  wait_round is e = stays_put program known _ left (λ s h.
      round_case s w target rest w.counted (target_is_eligible s w) (from_eligible s w w.asking) (eligible s w) w.rounds (sym (is ∙ ahead_alike known s w h))
      ∙ ap (λ v. on s (Wait v target ∷ rest)) (sym (next_round_alike known s w h)) ∙ ap (on s) (sym e))

-- ASKING
-- who is asked was made
pub asked_is_made : (table : List Process) (w : Waiting) (p : ℕ) → ahead_of (with_table table) w ≡ ahead.Ask p → p < length table
asked_is_made table w p h = eligible_is_made table w p (found w.counted (target_is_eligible (with_table table) w) (from_eligible (with_table table) w w.asking) refl (eligible (with_table table) w) w.rounds h)
  where
    found : (counted fit : Bool) (asking : List ℕ) → from_eligible (with_table table) w w.asking ≡ asking → (all : List ℕ) (rounds : ℕ) → ahead_case counted fit asking all rounds ≡ ahead.Ask p → is_eligible (with_table table) w p ≡ true
    found true fit asking e all rounds h = absurd (let x : ahead.Done true ≡ ahead.Ask p = h in cc)
    found false false asking e all rounds h = absurd (let x : ahead.Done false ≡ ahead.Ask p = h in cc)
    found false true (q ∷ asking) e all rounds h =
        let same : q ≡ p = (let x : ahead.Ask q ≡ ahead.Ask p = h in cc) in
        ap (is_eligible (with_table table) w) (sym same) ∙ first_left_is_eligible (with_table table) w q asking w.asking e
    found false true [] e [] rounds h = absurd (let x : ahead.Done false ≡ ahead.Ask p = h in cc)
    found false true [] e (q ∷ more) zero h = absurd (let x : ahead.Done false ≡ ahead.Ask p = h in cc)
    found false true [] e (q ∷ more) (suc rounds) h = absurd (let x : ahead.Round ≡ ahead.Ask p = h in cc)

-- a process that the kernel knows, in a state that it stands for
pub record Knows (s : State) (p : ℕ) (k : Process) : Type 0 where
  pub one : Process
  pub there : process s p ≡ Some one
  pub is : k ≡ kept one

pub known_process : (known s : State) (p : ℕ) (k : Process) → Stands known s → process known p ≡ Some k → Knows s p k
known_process known s p k h there = by (process s p) refl (sym there ∙ ap (λ (t : State). process t p) h ∙ slice_get-map kept s.processes p)
  where
    by : (o : Option Process) → process s p ≡ o → Some k ≡ option_map kept (process s p) → Knows s p k
    by None e f = absurd (let x : Some k ≡ None = f ∙ ap (option_map kept) e in cc)
    by (Some one) e f = record { one = one; there = e; is = (let x : Some k ≡ Some (kept one) = f ∙ ap (option_map kept) e in cc) }

module _ (program : Program) (known : State) (w : Waiting) (target : Target) (rest : List Item) (p : ℕ) (is : ahead_of (with_table known.processes) w ≡ ahead.Ask p) where
  abbrev pub left_wait : Waiting
  left_wait = without_first (with_table known.processes) w

  -- the machine goes on by the answer so
  abbrev answered_by : (s : State) → Option Process → Answer → Option Next
  answered_by s o answer = elim o [ None ↦ None | Some x ↦ next_by x.drained s left_wait target rest p x answer ]

  abbrev pub goes : State → Answer → Option Next
  goes s answer = answered_by s (process s p) answer

  at_process : (s : State) → Stands known s → step program deepest (working s (Wait w target ∷ rest)) ≡ ask_if (may_ask known) (process s p) s left_wait target rest p
  at_process s h =
      ask_case s w target rest w.counted (target_is_eligible s w) (from_eligible s w w.asking) (eligible s w) w.rounds p (sym (ahead_alike known s w h) ∙ is)
      ∙ ap (λ v. ask_process s v target rest p) (sym (without_first_alike known s w h))
      ∙ ap (λ (t : State). ask_if (may_ask t) (process s p) s left_wait target rest p) (sym h)

  pub asks_spent : (left : List Item) → may_ask known ≡ false → left ≡ Refuse ExchangesSpent ∷ rest → Quietly program known known (Wait w target ∷ rest) left
  asks_spent left spent e = stays_put program known _ left (λ s h. at_process s h ∙ ap (λ b. ask_if b (process s p) s left_wait target rest p) spent ∙ ap (on s) (sym e))

  asks_case : (drained : Bool) (s : State) (x : Process) → ask_next drained s left_wait target rest p x ≡ Asks (asked_about drained x.child) (next_by drained s left_wait target rest p x)
  asks_case false s x = refl
  asks_case true s x = refl

  pub asks_process : (k : Process) → process known p ≡ Some k → may_ask known ≡ true → (s : State) → Stands known s → step program deepest (working s (Wait w target ∷ rest)) ≡ Asks (asked_about k.drained k.child) (goes s)
  asks_process k there may s h =
      let found = known_process known s p k h there in
      at_process s h
      ∙ ap (λ b. ask_if b (process s p) s left_wait target rest p) may
      ∙ ap (λ o. ask_if true o s left_wait target rest p) found.there
      ∙ asks_case found.one.drained s found.one
      ∙ ap (λ (y : Process). Asks (asked_about y.drained y.child) (next_by found.one.drained s left_wait target rest p found.one)) (sym found.is)
      ∙ ap (λ o. Asks (asked_about k.drained k.child) (answered_by s o)) (sym found.there)

  -- ANSWERS
  unheard_bytes : (xs : List ℕ) (low high all : Bool) (s : State) (x : Process) → (low && high) ≡ false → hear (low && (high && all)) s left_wait target rest p x xs ≡ None
  unheard_bytes xs false high all s x h = refl
  unheard_bytes xs true false all s x h = refl
  unheard_bytes xs true true all s x h = absurd (let e : true ≡ false = h in cc)

  no_answer : (drained : Bool) (s : State) (x : Process) (answer : Answer) → may_hear drained answer ≡ false → next_by drained s left_wait target rest p x answer ≡ None
  no_answer false s x (Bytes bytes) h = unheard_bytes bytes (nat_le 1 (length bytes)) (nat_le (length bytes) 4096) (list_all (λ b. nat_lt b 256) bytes) s x h
  no_answer false s x Nothing h = absurd (let e : true ≡ false = h in cc)
  no_answer false s x End h = absurd (let e : true ≡ false = h in cc)
  no_answer false s x Failed h = absurd (let e : true ≡ false = h in cc)
  no_answer false s x (Code n) h = refl
  no_answer false s x Signal h = refl
  no_answer false s x Running h = refl
  no_answer false s x (Started c) h = refl
  no_answer false s x Refused h = refl
  no_answer false s x Sent h = refl
  no_answer false s x Broken h = refl
  no_answer false s x Closed h = refl
  no_answer false s x Killed h = refl
  no_answer true s x (Code n) h = absurd (let e : true ≡ false = h in cc)
  no_answer true s x Signal h = absurd (let e : true ≡ false = h in cc)
  no_answer true s x Running h = absurd (let e : true ≡ false = h in cc)
  no_answer true s x Failed h = absurd (let e : true ≡ false = h in cc)
  no_answer true s x (Bytes bytes) h = refl
  no_answer true s x Nothing h = refl
  no_answer true s x End h = refl
  no_answer true s x (Started c) h = refl
  no_answer true s x Refused h = refl
  no_answer true s x Sent h = refl
  no_answer true s x Broken h = refl
  no_answer true s x Closed h = refl
  no_answer true s x Killed h = refl

  pub goes_nowhere : (k : Process) (answer : Answer) → process known p ≡ Some k → may_hear k.drained answer ≡ false → (s : State) → Stands known s → goes s answer ≡ None
  goes_nowhere k answer there barred s h =
      let found = known_process known s p k h there in
      ap (λ o. answered_by s o answer) found.there
      ∙ no_answer found.one.drained s found.one answer (ap (λ (y : Process). may_hear y.drained answer) (sym found.is) ∙ barred)

  pub goes_heard : (known2 : State) (left : List Item) (k : Process) (answer : Answer) → process known p ≡ Some k → Hears known known2 w target p answer rest left → (s : State) → Stands known s →
      (t : State) × Stands known2 t × (goes s answer ≡ Some (silent t left))
  goes_heard known2 left k answer there hears s h =
      let found = known_process known s p k h there in
      let (t, stands, so) = hears s found.one h found.there in
      (t, stands, ap (λ o. answered_by s o answer) found.there ∙ so)

-- what was heard stands in front of the wait
pub heard_put : (known known2 : State) (w : Waiting) (target : Target) (p : ℕ) (answer : Answer) (heard : Heard) (rest mid left : List Item) → HearsAnswer known known2 p answer heard →
    mid ≡ Wait (noted p heard.bytes (without_first (with_table known.processes) w)) target ∷ rest → left ≡ entering heard.entry mid → Hears known known2 w target p answer rest left
heard_put known known2 w target p answer heard rest mid left hears behind e = λ s x h there.
    let one = hears s x h there in
    (one.now, one.stands, one.goes (without_first (with_table known.processes) w) target rest ∙ ap (λ l. Some (silent one.now l)) (sym (e ∙ ap (entering heard.entry) behind)))

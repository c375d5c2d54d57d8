-- The script of a session once its child was started: it waits and waits, and no state matters to where it goes.
use Rattle.std.proofs.Common.{◌≡◌, ◌⊎◌, inl, inr, ℕ, zero, suc, Bool, true, false, ◌&&◌, ◌||◌, not, List, [], ◌∷◌, refl, sym, ap, ◌∙◌, subst}
use Rattle.std.specs.Prelude.{Option, Some, None}
use Rattle.editor_model.specs.Values.{Value, Nil, T, ExchangesSpent, Fault, Forms, NoForms, Then, AcceptProcessOutput}
use Rattle.editor_model.specs.Answers.{first_fault}
use Rattle.plain_machine.specs.Exchanges.{Ask, Read, AskEnd, Answer}
use Rattle.plain_machine.specs.State.{State, Process, Program, process}
use Rattle.plain_machine.specs.Items.{Item, Top, DoForm, GiveAnswer, Refuse, Wait, Finish, Waiting, Nowhere, Said, Config, Next, Goes, Asks, Ended}
use Rattle.plain_machine.specs.Arguments.{runs}
use Rattle.plain_machine.specs.Refusals.{process_tests, may_ask}
use Rattle.plain_machine.specs.Calls.{silent, waiting, process_effect, unless_fault}
use Rattle.plain_machine.specs.Waits.{is_heard, is_target, is_eligible, is_eligible_one, from_eligible, eligible, target_is_eligible, read_answer, end_answer, ask_next, ask_if, wait_case}
use Rattle.plain_machine.specs.Step.{step}
use Rattle.plain_machine.specs.Run.{Reaches, stays, goes}
use Rattle.machine_laws.proofs.Basics.{and_left, and_right}
use Rattle.line_session.specs.Script.{wait_form}

-- only waits are left
abbrev pub IsWaits : Forms → Type 0
IsWaits NoForms = Unit {0}
IsWaits (Then form forms) = (form ≡ wait_form) × IsWaits forms

pub data AtWait (work : List Item) : Type 0 where
  in_wait : (w : Waiting) (forms : Forms) → IsWaits forms → work ≡ Wait w Nowhere ∷ Top forms ∷ [] → AtWait work
  between : (forms : Forms) → IsWaits forms → work ≡ Top forms ∷ [] → AtWait work

-- by itself it comes to a wait again, or to the end of the script, and its state stays
pub record Settles (program : Program) (bound : ℕ) (s : State) (c : Config) : Type 0 where
  pub said : List Said
  pub work : List Item
  pub way : Reaches program bound c [] said (record { state = s; work = work })
  pub at : AtWait work ⊎ (work ≡ Finish 0 ∷ [])

-- a process is asked, which runs and is heard
pub data Asked (s : State) (ask : Ask) (next : Answer → Option Next) : Type 0 where
  reads : (w : Waiting) (forms : Forms) (p : ℕ) (y : Process) → IsWaits forms → process s p ≡ Some y → runs y.status ≡ true → is_heard y.filter ≡ true →
      y.drained ≡ false → ask ≡ Read y.child → next ≡ read_answer s w Nowhere (Top forms ∷ []) p y → Asked s ask next
  asks_end : (w : Waiting) (forms : Forms) (p : ℕ) (y : Process) → IsWaits forms → process s p ≡ Some y → runs y.status ≡ true → is_heard y.filter ≡ true →
      y.drained ≡ true → ask ≡ AskEnd y.child → next ≡ end_answer s w Nowhere (Top forms ∷ []) p y → Asked s ask next

module _ (program : Program) (bound : ℕ) (s : State) where
  -- ways to a wait
  moved : (m n : Next) → Settles program bound s m.config → Goes m ≡ Goes n → Settles program bound s n.config
  moved m n k h = let one : m ≡ n = cc in subst (λ (x : Next). Settles program bound s x.config) one k

  at_top : (forms : Forms) → IsWaits forms → Settles program bound s (record { state = s; work = Top forms ∷ [] })
  at_top forms only = record { said = []; work = Top forms ∷ []; way = stays; at = inl (between forms only refl) }

  at_answer : (v : Value) (forms : Forms) → IsWaits forms → Settles program bound s (record { state = s; work = GiveAnswer v Nowhere ∷ Top forms ∷ [] })
  at_answer v forms only = record { said = _; work = Top forms ∷ []; way = goes refl stays; at = inl (between forms only refl) }

  at_refusal : (f : Fault) (forms : Forms) → IsWaits forms → Settles program bound s (record { state = s; work = Refuse f ∷ Top forms ∷ [] })
  at_refusal f forms only = record { said = _; work = Top forms ∷ []; way = goes refl stays; at = inl (between forms only refl) }

  at_wait : (w : Waiting) (forms : Forms) → IsWaits forms → Settles program bound s (record { state = s; work = Wait w Nowhere ∷ Top forms ∷ [] })
  at_wait w forms only = record { said = []; work = _; way = stays; at = inl (in_wait w forms only refl) }

  -- A WAIT GOES ON
  asking_goes : (may : Bool) (o : Option Process) (w : Waiting) (p : ℕ) (forms : Forms) (n : Next) → IsWaits forms → ask_if may o s w Nowhere (Top forms ∷ []) p ≡ Goes n → Settles program bound s n.config
  asking_goes false o w p forms n only h = moved (silent s (Refuse ExchangesSpent ∷ Top forms ∷ [])) n (at_refusal ExchangesSpent forms only) h
  asking_goes true None w p forms n only h = moved (silent s (Top forms ∷ [])) n (at_top forms only) h
  asking_goes true (Some x) w p forms n only h = never x.drained h
    where
      never : (drained : Bool) → ask_next drained s w Nowhere (Top forms ∷ []) p x ≡ Goes n → Settles program bound s n.config
      never false h = absurd (let k = h in cc)
      never true h = absurd (let k = h in cc)

  case_goes : (counted fit : Bool) (asking all : List ℕ) (rounds : ℕ) (w : Waiting) (forms : Forms) (n : Next) → IsWaits forms → wait_case counted fit asking all rounds s w Nowhere (Top forms ∷ []) ≡ Goes n → Settles program bound s n.config
  case_goes true fit asking all rounds w forms n only h = moved (silent s (GiveAnswer T Nowhere ∷ Top forms ∷ [])) n (at_answer T forms only) h
  case_goes false false asking all rounds w forms n only h = moved (silent s (GiveAnswer Nil Nowhere ∷ Top forms ∷ [])) n (at_answer Nil forms only) h
  case_goes false true (p ∷ asking) all rounds w forms n only h = asking_goes (may_ask s) (process s p) (record w { asking = asking }) p forms n only h
  case_goes false true [] [] rounds w forms n only h = moved (silent s (GiveAnswer Nil Nowhere ∷ Top forms ∷ [])) n (at_answer Nil forms only) h
  case_goes false true [] (p ∷ more) zero w forms n only h = moved (silent s (GiveAnswer Nil Nowhere ∷ Top forms ∷ [])) n (at_answer Nil forms only) h
  case_goes false true [] (p ∷ more) (suc rounds) w forms n only h =
      moved (silent s (Wait (record w { rounds = rounds; asking = p ∷ more }) Nowhere ∷ Top forms ∷ [])) n (at_wait (record w { rounds = rounds; asking = p ∷ more }) forms only) h

  -- THE NEXT FORM
  abbrev next_wait : Waiting
  next_wait = waiting s Nil Nil Nil

  called : (o : Option Fault) (forms : Forms) → IsWaits forms → first_fault (process_tests program bound s AcceptProcessOutput []) ≡ o → Settles program bound s (record { state = s; work = DoForm wait_form ∷ Top forms ∷ [] })
  called (Some f) forms only e =
      let behind = at_refusal f forms only in
      record { said = _; work = behind.work; way = goes refl (goes (ap (λ o. unless_fault o s (Top forms ∷ []) (process_effect s Nowhere (Top forms ∷ []) AcceptProcessOutput [])) e) behind.way); at = behind.at }
  called None forms only e =
      record { said = _; work = _; way = goes refl (goes (ap (λ o. unless_fault o s (Top forms ∷ []) (process_effect s Nowhere (Top forms ∷ []) AcceptProcessOutput [])) e) stays); at = inl (in_wait next_wait forms only refl) }

  top_goes : (forms : Forms) (n : Next) → IsWaits forms → step program bound (record { state = s; work = Top forms ∷ [] }) ≡ Goes n → Settles program bound s n.config
  top_goes NoForms n only h = moved (silent s (Finish 0 ∷ [])) n (record { said = []; work = Finish 0 ∷ []; way = stays; at = inr refl }) h
  top_goes (Then form forms) n only h =
      moved (silent s (DoForm form ∷ Top forms ∷ [])) n
      (subst (λ f. Settles program bound s (record { state = s; work = DoForm f ∷ Top forms ∷ [] })) (sym only.0) (called (first_fault (process_tests program bound s AcceptProcessOutput [])) forms only.1 refl)) h

  pub waits_go : (work : List Item) (n : Next) → AtWait work → step program bound (record { state = s; work = work }) ≡ Goes n → Settles program bound s n.config
  waits_go work n (in_wait w forms only e) h =
      case_goes w.counted (target_is_eligible s w) (from_eligible s w w.asking) (eligible s w) w.rounds w forms n only (ap (λ k. step program bound (record { state = s; work = k })) (sym e) ∙ h)
  waits_go work n (between forms only e) h = top_goes forms n only (ap (λ k. step program bound (record { state = s; work = k })) (sym e) ∙ h)

  -- A WAIT ASKS
  drained_asks : (w : Waiting) (p : ℕ) (y : Process) (forms : Forms) (ask : Ask) (next : Answer → Option Next) → IsWaits forms → process s p ≡ Some y → runs y.status ≡ true → is_heard y.filter ≡ true →
      (drained : Bool) → y.drained ≡ drained → ask_next drained s w Nowhere (Top forms ∷ []) p y ≡ Asks ask next → Asked s ask next
  drained_asks w p y forms ask next only there live heard false d h = reads w forms p y only there live heard d (let k = h in cc) (let k = h in cc)
  drained_asks w p y forms ask next only there live heard true d h = asks_end w forms p y only there live heard d (let k = h in cc) (let k = h in cc)

  asking_asks : (may : Bool) (o : Option Process) (v w : Waiting) (p : ℕ) (forms : Forms) (ask : Ask) (next : Answer → Option Next) → IsWaits forms → process s p ≡ o → is_eligible_one v p o ≡ true →
      ask_if may o s w Nowhere (Top forms ∷ []) p ≡ Asks ask next → Asked s ask next
  asking_asks false o v w p forms ask next only there fit h = absurd (let k = h in cc)
  asking_asks true None v w p forms ask next only there fit h = absurd (let k = fit in cc)
  asking_asks true (Some y) v w p forms ask next only there fit h =
      let heard : (is_heard y.filter && (not v.just || is_target v.target p)) ≡ true = and_right (runs y.status) _ fit in
      drained_asks w p y forms ask next only there (and_left (runs y.status) _ fit) (and_left (is_heard y.filter) _ heard) y.drained refl h

  abbrev HeadFits : Waiting → List ℕ → Type 0
  HeadFits w asking = (p : ℕ) (more : List ℕ) → asking ≡ p ∷ more → is_eligible s w p ≡ true

  case_asks : (counted fit : Bool) (asking all : List ℕ) (rounds : ℕ) (w : Waiting) (forms : Forms) (ask : Ask) (next : Answer → Option Next) → IsWaits forms → HeadFits w asking →
      wait_case counted fit asking all rounds s w Nowhere (Top forms ∷ []) ≡ Asks ask next → Asked s ask next
  case_asks true fit asking all rounds w forms ask next only head h = absurd (let k = h in cc)
  case_asks false false asking all rounds w forms ask next only head h = absurd (let k = h in cc)
  case_asks false true (p ∷ asking) all rounds w forms ask next only head h = asking_asks (may_ask s) (process s p) w (record w { asking = asking }) p forms ask next only refl (head p asking refl) h
  case_asks false true [] [] rounds w forms ask next only head h = absurd (let k = h in cc)
  case_asks false true [] (p ∷ more) zero w forms ask next only head h = absurd (let k = h in cc)
  case_asks false true [] (p ∷ more) (suc rounds) w forms ask next only head h = absurd (let k = h in cc)

  head_fits : (w : Waiting) (asking : List ℕ) → HeadFits w (from_eligible s w asking)
  head_fits w [] p more e = absurd (let k = e in cc)
  head_fits w (q ∷ asking) p more e = by (is_eligible s w q) refl e (head_fits w asking p more)
    where
      by : (b : Bool) → is_eligible s w q ≡ b → (elim b [ true ↦ q ∷ asking | false ↦ from_eligible s w asking ]) ≡ p ∷ more → (from_eligible s w asking ≡ p ∷ more → is_eligible s w p ≡ true) → is_eligible s w p ≡ true
      by true fit e behind = let same : q ≡ p = cc in subst (λ r. is_eligible s w r ≡ true) same fit
      by false fit e behind = behind e

  pub waits_ask : (work : List Item) (ask : Ask) (next : Answer → Option Next) → AtWait work → step program bound (record { state = s; work = work }) ≡ Asks ask next → Asked s ask next
  waits_ask work ask next (in_wait w forms only e) h =
      case_asks w.counted (target_is_eligible s w) (from_eligible s w w.asking) (eligible s w) w.rounds w forms ask next only (head_fits w w.asking) (ap (λ k. step program bound (record { state = s; work = k })) (sym e) ∙ h)
  waits_ask work ask next (between forms only e) h = top_asks forms (ap (λ k. step program bound (record { state = s; work = k })) (sym e) ∙ h)
    where
      top_asks : (forms : Forms) → step program bound (record { state = s; work = Top forms ∷ [] }) ≡ Asks ask next → Asked s ask next
      top_asks NoForms h = absurd (let k = h in cc)
      top_asks (Then form forms) h = absurd (let k = h in cc)

  -- A WAIT IS NO END
  asking_stays : (may : Bool) (o : Option Process) (w : Waiting) (p : ℕ) (forms : Forms) → ask_if may o s w Nowhere (Top forms ∷ []) p ≡ Ended → ⊥
  asking_stays false o w p forms h = let k = h in cc
  asking_stays true None w p forms h = let k = h in cc
  asking_stays true (Some x) w p forms h = never x.drained h
    where
      never : (drained : Bool) → ask_next drained s w Nowhere (Top forms ∷ []) p x ≡ Ended → ⊥
      never false h = let k = h in cc
      never true h = let k = h in cc

  case_stays : (counted fit : Bool) (asking all : List ℕ) (rounds : ℕ) (w : Waiting) (forms : Forms) → wait_case counted fit asking all rounds s w Nowhere (Top forms ∷ []) ≡ Ended → ⊥
  case_stays true fit asking all rounds w forms h = let k = h in cc
  case_stays false false asking all rounds w forms h = let k = h in cc
  case_stays false true (p ∷ asking) all rounds w forms h = asking_stays (may_ask s) (process s p) (record w { asking = asking }) p forms h
  case_stays false true [] [] rounds w forms h = let k = h in cc
  case_stays false true [] (p ∷ more) zero w forms h = let k = h in cc
  case_stays false true [] (p ∷ more) (suc rounds) w forms h = let k = h in cc

  top_stays : (forms : Forms) → step program bound (record { state = s; work = Top forms ∷ [] }) ≡ Ended → ⊥
  top_stays NoForms h = let k = h in cc
  top_stays (Then form forms) h = let k = h in cc

  pub waits_stay : (work : List Item) → AtWait work → step program bound (record { state = s; work = work }) ≡ Ended → ⊥
  waits_stay work (in_wait w forms only e) h =
      case_stays w.counted (target_is_eligible s w) (from_eligible s w w.asking) (eligible s w) w.rounds w forms (ap (λ k. step program bound (record { state = s; work = k })) (sym e) ∙ h)
  waits_stay work (between forms only e) h = top_stays forms (ap (λ k. step program bound (record { state = s; work = k })) (sym e) ∙ h)

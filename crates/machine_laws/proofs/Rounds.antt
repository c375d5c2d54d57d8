-- A round of a wait that begins asks: the first of its processes may be asked.
use Rattle.std.proofs.Common.{◌≡◌, ℕ, zero, suc, Bool, true, false, List, [], ◌∷◌, map, filter, refl, ap, subst, sym, ◌∙◌, All}
use Rattle.std.specs.Prelude.{Option, Some, None}
use Rattle.std.specs.List.{enumerate_from}
use Rattle.std.proofs.lemmas.List.Elements.{filter_passes, All-head}
use Rattle.std.proofs.lemmas.Bool.{false≢true}
use Rattle.plain_machine.specs.State.{State, Process, Program, process}
use Rattle.plain_machine.specs.Items.{Item, Wait, Target, Waiting, Step, Goes}
use Rattle.plain_machine.specs.Calls.{on}
use Rattle.plain_machine.specs.Refusals.{may_ask}
use Rattle.plain_machine.specs.Waits.{ask_if, ask_next, ask_process, eligible, from_eligible, is_eligible, is_eligible_one, target_first, target_is_eligible, wait, wait_case}
use Rattle.machine_laws.specs.Rounds.{AsksOrIsSpent, RoundsAsk}
use Rattle.machine_laws.proofs.Steps.{first_fit}

-- THE FIRST OF A ROUND
first_passes : (test : ℕ → Bool) (xs : List ℕ) (p : ℕ) (more : List ℕ) → filter test xs ≡ p ∷ more → test p ≡ true
first_passes test xs p more e = All-head (λ x. test x ≡ true) p more (subst (All (λ x. test x ≡ true)) e (filter_passes test xs))

abbrev fit_of : State → Waiting → Option ℕ → Bool
fit_of s w o = elim o [ None ↦ true | Some t ↦ is_eligible s w t ]

first_eligible : (s : State) (w : Waiting) (p : ℕ) (more : List ℕ) → target_is_eligible s w ≡ true → eligible s w ≡ p ∷ more → is_eligible s w p ≡ true
first_eligible s w p more fit e = go w.target refl
  where
    go : (o : Option ℕ) → w.target ≡ o → is_eligible s w p ≡ true
    go None k = first_passes (is_eligible s w) (map (λ x. x.0) (enumerate_from 0 s.processes)) p more (sym (ap (λ o. target_first o (filter (is_eligible s w) (map (λ x. x.0) (enumerate_from 0 s.processes)))) k) ∙ e)
    go (Some t) k =
        let there : is_eligible s w t ≡ true = sym (ap (fit_of s w) k) ∙ fit in
        let front : target_first (Some t) (filter (is_eligible s w) (map (λ x. x.0) (enumerate_from 0 s.processes))) ≡ p ∷ more = sym (ap (λ o. target_first o (filter (is_eligible s w) (map (λ x. x.0) (enumerate_from 0 s.processes)))) k) ∙ e in
        let same : t ≡ p = cc in
        subst (λ q. is_eligible s w q ≡ true) same there

-- IT IS ASKED
pub eligible_is_there : (s : State) (w : Waiting) (p : ℕ) → is_eligible s w p ≡ true → process s p ≡ None → ⊥
eligible_is_there s w p h k =
    let q : is_eligible_one w p None ≡ true = subst (λ o. is_eligible_one w p o ≡ true) k h in
    cc

asks : (s : State) (w v : Waiting) (target : Target) (rest : List Item) (p : ℕ) → is_eligible s w p ≡ true → AsksOrIsSpent s rest (ask_process s v target rest p)
asks s w v target rest p fit = go (may_ask s) (process s p) refl
  where
    by_drained : (x : Process) (d : Bool) → AsksOrIsSpent s rest (ask_next d s v target rest p x)
    by_drained x false = tt
    by_drained x true = tt

    go : (may : Bool) (o : Option Process) → process s p ≡ o → AsksOrIsSpent s rest (ask_if may o s v target rest p)
    go false o k = refl
    go true None k = absurd (eligible_is_there s w p fit k)
    go true (Some x) k = by_drained x x.drained

-- whether a step goes on to a wait, and to which
abbrev waits_first : List Item → Bool
waits_first (Wait w target ∷ rest) = true
waits_first _ = false

abbrev goes_to_wait : Step → Bool
goes_to_wait (Goes next) = waits_first next.config.work
goes_to_wait _ = false

abbrev first_wait : Waiting → List Item → Waiting
first_wait d (Wait w target ∷ rest) = w
first_wait d _ = d

abbrev wait_of : Waiting → Step → Waiting
wait_of d (Goes next) = first_wait d next.config.work
wait_of d _ = d

-- asking is no round that begins
no_round : (s : State) (w v begun : Waiting) (target : Target) (rest : List Item) (p : ℕ) → is_eligible s w p ≡ true → ask_process s v target rest p ≡ on s (Wait begun target ∷ rest) → ⊥
no_round s w v begun target rest p fit = go (may_ask s) (process s p) refl
  where
    by_drained : (x : Process) (d : Bool) → ask_next d s v target rest p x ≡ on s (Wait begun target ∷ rest) → ⊥
    by_drained x false e = false≢true (ap goes_to_wait e)
    by_drained x true e = false≢true (ap goes_to_wait e)

    go : (may : Bool) (o : Option Process) → process s p ≡ o → ask_if may o s v target rest p ≡ on s (Wait begun target ∷ rest) → ⊥
    go false o k e = false≢true (ap goes_to_wait e)
    go true None k e = eligible_is_there s w p fit k
    go true (Some x) k e = by_drained x x.drained e

-- A ROUND
begun_asks : (s : State) (w : Waiting) (p : ℕ) (more : List ℕ) (rounds : ℕ) (target : Target) (rest : List Item) → w.counted ≡ false → target_is_eligible s w ≡ true → is_eligible s w p ≡ true → AsksOrIsSpent s rest (wait s (record w { rounds = rounds; asking = p ∷ more }) target rest)
begun_asks s w p more rounds target rest counted fit first =
    go w.counted counted (target_is_eligible s (record w { rounds = rounds; asking = p ∷ more })) fit (from_eligible s (record w { rounds = rounds; asking = p ∷ more }) (p ∷ more)) front
  where
    front : from_eligible s (record w { rounds = rounds; asking = p ∷ more }) (p ∷ more) ≡ p ∷ more
    front = ap (λ b. let l : List ℕ = elim b [ true ↦ p ∷ more | false ↦ from_eligible s (record w { rounds = rounds; asking = p ∷ more }) more ] in l) first

    go : (c : Bool) → c ≡ false → (f : Bool) → f ≡ true → (asking : List ℕ) → asking ≡ p ∷ more → AsksOrIsSpent s rest (wait_case c f asking (eligible s (record w { rounds = rounds; asking = p ∷ more })) rounds s (record w { rounds = rounds; asking = p ∷ more }) target rest)
    go true kc f kf asking ka = cc
    go false kc false kf asking ka = cc
    go false kc true kf [] ka = cc
    go false kc true kf (q ∷ others) ka =
        let same : p ≡ q = cc in
        asks s w (record w { rounds = rounds; asking = others }) target rest q (subst (λ n. is_eligible s w n ≡ true) same first)

pub rounds_ask : (program : Program) (bound : ℕ) → RoundsAsk program bound
rounds_ask program bound s w begun target rest e = go w.counted refl (target_is_eligible s w) refl (from_eligible s w w.asking) refl (eligible s w) refl w.rounds e
  where
    go : (counted : Bool) → w.counted ≡ counted → (fit : Bool) → target_is_eligible s w ≡ fit → (asking : List ℕ) → from_eligible s w w.asking ≡ asking → (all : List ℕ) → eligible s w ≡ all → (rounds : ℕ) → wait_case counted fit asking all rounds s w target rest ≡ on s (Wait begun target ∷ rest) → AsksOrIsSpent s rest (wait s begun target rest)
    go true kc fit kf asking ka all kl rounds e = absurd (false≢true (ap goes_to_wait e))
    go false kc false kf asking ka all kl rounds e = absurd (false≢true (ap goes_to_wait e))
    go false kc true kf (p ∷ more) ka all kl rounds e = absurd (no_round s w (record w { asking = more }) begun target rest p (first_fit s w w.asking p more ka) e)
    go false kc true kf [] ka [] kl rounds e = absurd (false≢true (ap goes_to_wait e))
    go false kc true kf [] ka (p ∷ more) kl zero e = absurd (false≢true (ap goes_to_wait e))
    go false kc true kf [] ka (p ∷ more) kl (suc rounds) e =
        let begins : Waiting = record w { rounds = rounds; asking = p ∷ more } in
        let same : begins ≡ begun = ap (wait_of w) e in
        subst (λ v. AsksOrIsSpent s rest (wait s v target rest)) same (begun_asks s w p more rounds target rest kc kf (first_eligible s w p more kf kl))

-- Over the same exchanges there is one run.
use Rattle.std.proofs.Common.{◌≡◌, ◌⊎◌, inl, inr, ℕ, List, [], ◌∷◌, ◌++◌, refl, ap, sym, ◌∙◌, subst, append_assoc}
use Rattle.std.specs.Prelude.{Option, Some}
use Rattle.std.proofs.lemmas.List.{append-nil}
use Rattle.plain_machine.specs.Exchanges.{Exchange, Ask, Answer}
use Rattle.plain_machine.specs.State.{Program}
use Rattle.plain_machine.specs.Items.{Said, Config, Next, Goes, Asks, Ended}
use Rattle.plain_machine.specs.Step.{step}
use Rattle.plain_machine.specs.Run.{Reaches, stays, goes, asks}
use Rattle.machine_laws.specs.OneRun.{GoesOn, OneRun, OneEnd}
use Rattle.machine_laws.proofs.Basics.{none_first}

-- LISTS THAT ARE EMPTY
module _ (program : Program) (bound : ℕ) where
  abbrev Beside : List Exchange → (said others : List Said) → Config → Config → Type 0
  Beside more said others c d = GoesOn program bound said others c d more ⊎ ((more ≡ []) × GoesOn program bound others said d c [])

  -- the same said before both
  further : (first second : List Said) → first ≡ second → (more : List Exchange) (said others : List Said) (c d : Config) → Beside more said others c d → Beside more (first ++ said) (second ++ others) c d
  further first second q more said others c d (inl g) = inl (record {
    further = g.further;
    behind = rw append_assoc (λ i. sym q i ++ g.behind i);
    way = g.way;
  })
  further first second q more said others c d (inr (e, g)) = inr (
    e,
    record {
      further = g.further;
      behind = rw append_assoc (λ i. q i ++ g.behind i);
      way = g.way;
    },
  )

  -- what is known of the runs from the next configuration
  abbrev Hypothesis : Config → (exchanges more : List Exchange) → (said : List Said) → Config → Type 0
  Hypothesis from exchanges more said c = (all : List Exchange) (others : List Said) (d : Config) → all ≡ exchanges ++ more → Reaches program bound from all others d → Beside more said others c d

  -- the first run goes by a step
  by_goes : (from c d : Config) (n : Next) (exchanges more all : List Exchange) (said others : List Said) → step program bound from ≡ Goes n → Reaches program bound n.config exchanges said c → Hypothesis n.config exchanges more said c →
      all ≡ exchanges ++ more → Reaches program bound from all others d → Beside more (n.said ++ said) others c d
  by_goes from c d n exchanges more all said others h r ih e stays =
      let both : (exchanges ≡ []) × (more ≡ []) = none_first exchanges more (sym e) in
      inr (both.1, record { further = n.said ++ said; behind = refl; way = subst (λ xs. Reaches program bound from xs (n.said ++ said) c) both.0 (goes h r) })
  by_goes from c d n exchanges more all said others h r ih e (goes {n = m} {said = rest} k t) =
      let q : Goes n ≡ Goes m = sym h ∙ k in
      let p : n ≡ m = cc in
      further n.said m.said (ap (λ (x : Next). x.said) p) more said rest c d (ih all rest d e (subst (λ (x : Next). Reaches program bound x.config all rest d) (sym p) t))
  by_goes from c d n exchanges more all said others h r ih e (asks {ask = ask} {next = next} k j t) = let q : Goes n ≡ Asks ask next = sym h ∙ k in cc

  -- the first run asks
  by_asks : (from c d : Config) (ask : Ask) (answer : Answer) (next : Answer → Option Next) (n : Next) (exchanges more all : List Exchange) (said others : List Said) → step program bound from ≡ Asks ask next → next answer ≡ Some n →
      Hypothesis n.config exchanges more said c → all ≡ record { ask = ask; answer = answer } ∷ (exchanges ++ more) → Reaches program bound from all others d → Beside more (n.said ++ said) others c d
  by_asks from c d ask answer next n exchanges more all said others h k ih e stays = cc
  by_asks from c d ask answer next n exchanges more all said others h k ih e (goes {n = m} j t) = let q : Asks ask next ≡ Goes m = sym h ∙ j in cc
  by_asks from c d ask answer next n exchanges more all said others h k ih e (asks {ask = ask'} {answer = answer'} {next = next'} {n = m} {exchanges = exchanges'} {said = rest} j l t) =
      let q : Asks ask next ≡ Asks ask' next' = sym h ∙ j in
      let same_next : next ≡ next' = cc in
      let head : Exchange = record { ask = ask'; answer = answer' } in
      let same_exchange : head ≡ record { ask = ask; answer = answer } = cc in
      let same_rest : exchanges' ≡ exchanges ++ more = cc in
      let same_answer : answer ≡ answer' = sym (ap (λ (y : Exchange). y.answer) same_exchange) in
      let both : Some n ≡ Some m = sym k ∙ (λ i. same_next i (same_answer i)) ∙ l in
      let p : n ≡ m = cc in
      further n.said m.said (ap (λ (x : Next). x.said) p) more said rest c d (ih exchanges' rest d same_rest (subst (λ (x : Next). Reaches program bound x.config exchanges' rest d) (sym p) t))

  beside : {from c : Config} {exchanges : List Exchange} {said : List Said} → Reaches program bound from exchanges said c → (more : List Exchange) → Hypothesis from exchanges more said c
  beside {from = from} stays more all others d e t = inl (record { further = others; behind = refl; way = subst (λ xs. Reaches program bound from xs others d) e t })
  beside (goes {n = n} {exchanges = exchanges} {said = said} h r) more all others d e t = by_goes _ _ d n exchanges more all said others h r (beside r more) e t
  beside (asks {ask = ask} {answer = answer} {next = next} {n = n} {exchanges = exchanges} {said = said} h k r) more all others d e t = by_asks _ _ d ask answer next n exchanges more all said others h k (beside r more) e t

pub one_run : (program : Program) (bound : ℕ) (from : Config) → OneRun program bound from
one_run program bound from exchanges more said others c d r t = beside program bound r more (exchanges ++ more) others d refl t

-- ENDS
-- from a configuration at which the run has ended nothing goes on
ended_stays : (program : Program) (bound : ℕ) {c d : Config} {exchanges : List Exchange} {said : List Said} → Reaches program bound c exchanges said d → step program bound c ≡ Ended → (said ≡ []) × (d ≡ c)
ended_stays program bound stays e = (refl, refl)
ended_stays program bound (goes {n = n} h r) e = let q : Goes n ≡ Ended = sym h ∙ e in cc
ended_stays program bound (asks {ask = ask} {next = next} h k r) e = let q : Asks ask next ≡ Ended = sym h ∙ e in cc

pub one_end : (program : Program) (bound : ℕ) (from : Config) → OneEnd program bound from
one_end program bound from exchanges said others c d r e t f =
    by_side (one_run program bound from exchanges [] said others c d r (subst (λ xs. Reaches program bound from xs others d) (sym (append-nil exchanges)) t))
  where
    by_side : GoesOn program bound said others c d [] ⊎ (◌≡◌ {A = List Exchange} [] [] × GoesOn program bound others said d c []) → (others ≡ said) × (d ≡ c)
    by_side (inl g) =
        let both : (g.further ≡ []) × (d ≡ c) = ended_stays program bound g.way e in
        (g.behind ∙ ap (λ xs. said ++ xs) both.0 ∙ append-nil said, both.1)
    by_side (inr (q, g)) =
        let both : (g.further ≡ []) × (c ≡ d) = ended_stays program bound g.way f in
        (sym (g.behind ∙ ap (λ xs. others ++ xs) both.0 ∙ append-nil others), sym both.1)

-- Runs of the machine on fronts of a journal.
use Rattle.std.proofs.Common.{◌≡◌, ℕ, List, [], ◌∷◌, ◌++◌, inl, inr, refl, sym, ap, subst, ◌∙◌}
use Rattle.std.specs.Prelude.{◌⊎◌, Option}
use Rattle.std.proofs.lemmas.List.{append-nil}
use Rattle.plain_machine.specs.Exchanges.{Ask, Answer, Exchange}
use Rattle.plain_machine.specs.State.{Program}
use Rattle.plain_machine.specs.Items.{Said, Config, Next, Goes, Asks, Ended}
use Rattle.plain_machine.specs.Step.{step}
use Rattle.plain_machine.specs.Run.{Reaches, stays, goes, asks}
use Rattle.machine_laws.specs.OneRun.{GoesOn}
use Rattle.machine_laws.proofs.OneRun.{one_run}

module _ (program : Program) (bound : ℕ) where
  -- FRONTS
  -- the machine goes through these exchanges
  pub record Through (from : Config) (exchanges : List Exchange) : Type 0 where
    pub said : List Said
    pub last : Config
    pub run : Reaches program bound from exchanges said last

  pub front_through : {from c : Config} {all : List Exchange} {said : List Said} → Reaches program bound from all said c → (front rest : List Exchange) → all ≡ front ++ rest → Through from front
  front_through (goes {n = n} h r) front rest e =
      let more = front_through r front rest e in
      record { said = n.said ++ more.said; last = more.last; run = goes h more.run }
  front_through {from = from} stays [] rest e = record { said = []; last = from; run = stays }
  front_through stays (z ∷ front) rest e = absurd (let never = e in cc)
  front_through {from = from} (asks h k r) [] rest e = record { said = []; last = from; run = stays }
  front_through {from = from} (asks {ask = ask} {answer = answer} {next = next} {n = n} {exchanges = exchanges} h k r) (z ∷ front) rest e =
      let head : Exchange = record { ask = ask; answer = answer } in
      let same : head ≡ z = cc in
      let behind : exchanges ≡ front ++ rest = cc in
      let more = front_through r front rest behind in
      record { said = n.said ++ more.said; last = more.last; run = subst (λ w. Reaches program bound from (w ∷ front) (n.said ++ more.said) more.last) same (asks h k more.run) }

  -- ASKS
  -- behind these exchanges the machine asks this
  pub record AsksNext (from : Config) (front : List Exchange) (ask : Ask) : Type 0 where
    pub said : List Said
    pub there : Config
    pub run : Reaches program bound from front said there
    pub next : Answer → Option Next
    pub step_is : step program bound there ≡ Asks ask next

  pub asks_next : {from c : Config} {all : List Exchange} {said : List Said} → Reaches program bound from all said c → (front : List Exchange) (x : Exchange) (behind : List Exchange) → all ≡ front ++ x ∷ behind → AsksNext from front x.ask
  asks_next stays [] x behind e = absurd (let never = e in cc)
  asks_next stays (z ∷ front) x behind e = absurd (let never = e in cc)
  asks_next (goes {n = n} h r) front x behind e =
      let more = asks_next r front x behind e in
      record { said = n.said ++ more.said; there = more.there; run = goes h more.run; next = more.next; step_is = more.step_is }
  asks_next {from = from} (asks {ask = ask} {answer = answer} {next = next} h k r) [] x behind e =
      let head : Exchange = record { ask = ask; answer = answer } in
      let same : head ≡ x = cc in
      record { said = []; there = from; run = stays; next = next; step_is = h ∙ ap (λ (w : Exchange). Asks w.ask next) same }
  asks_next {from = from} (asks {ask = ask} {answer = answer} {n = n} {exchanges = exchanges} h k r) (z ∷ front) x behind e =
      let head : Exchange = record { ask = ask; answer = answer } in
      let same : head ≡ z = cc in
      let rest : exchanges ≡ front ++ x ∷ behind = cc in
      let more = asks_next r front x behind rest in
      record {
        said = n.said ++ more.said;
        there = more.there;
        run = subst (λ w. Reaches program bound from (w ∷ front) (n.said ++ more.said) more.there) same (asks h k more.run);
        next = more.next;
        step_is = more.step_is;
      }

  first_ask : {from c : Config} {all : List Exchange} {said : List Said} {ask : Ask} {next : Answer → Option Next} → Reaches program bound from all said c → step program bound from ≡ Asks ask next → (y : Exchange) (more : List Exchange) → all ≡ y ∷ more → ask ≡ y.ask
  first_ask stays h y more e = absurd (let never = e in cc)
  first_ask {ask = ask} {next = next} (goes {n = n} k r) h y more e = absurd (let never : Asks ask next ≡ Goes n = sym h ∙ k in cc)
  first_ask {ask = ask} {next = next} (asks {ask = other} {answer = answer} {next = next'} k j r) h y more e =
      let same : Asks ask next ≡ Asks other next' = sym h ∙ k in
      let one : ask ≡ other = cc in
      let head : Exchange = record { ask = other; answer = answer } in
      let is : head ≡ y = cc in
      one ∙ ap (λ (w : Exchange). w.ask) is

  -- two runs that went through the same exchanges ask the same next
  pub same_ask : (from c d : Config) (said others : List Said) (front behind more : List Exchange) (x y : Exchange) →
      Reaches program bound from (front ++ x ∷ behind) said c → Reaches program bound from (front ++ y ∷ more) others d → x.ask ≡ y.ask
  same_ask from c d said others front behind more x y r t =
      let at = asks_next r front x behind refl in
      by at (one_run program bound from front (y ∷ more) at.said others at.there d at.run t)
    where
      by : (at : AsksNext from front x.ask) → GoesOn program bound at.said others at.there d (y ∷ more) ⊎ ((y ∷ more ≡ []) × GoesOn program bound others at.said d at.there []) → x.ask ≡ y.ask
      by at (inl g) = first_ask g.way at.step_is y more refl
      by at (inr (none, g)) = absurd (let never = none in cc)

  -- ENDS
  nothing_follows : {c d : Config} {all : List Exchange} {said : List Said} → Reaches program bound c all said d → step program bound c ≡ Ended → (said ≡ []) × (all ≡ [])
  nothing_follows stays e = (refl, refl)
  nothing_follows (goes {n = n} h r) e = absurd (let never : Goes n ≡ Ended = sym h ∙ e in cc)
  nothing_follows (asks {ask = ask} {next = next} h k r) e = absurd (let never : Asks ask next ≡ Ended = sym h ∙ e in cc)

  -- a run that has ended goes through no exchange more
  pub ended_there : (from c d : Config) (said others : List Said) (front more : List Exchange) (y : Exchange) →
      Reaches program bound from front said c → step program bound c ≡ Ended → Reaches program bound from (front ++ y ∷ more) others d → ⊥
  ended_there from c d said others front more y r e t = by (one_run program bound from front (y ∷ more) said others c d r t)
    where
      by : GoesOn program bound said others c d (y ∷ more) ⊎ ((y ∷ more ≡ []) × GoesOn program bound others said d c []) → ⊥
      by (inl g) = let never = (nothing_follows g.way e).1 in cc
      by (inr (none, g)) = let never = none in cc

  -- what was said on a front of the exchanges is a front of what the whole run says
  pub said_front : (from c d : Config) (said others : List Said) (front rest : List Exchange) →
      Reaches program bound from front said c → Reaches program bound from (front ++ rest) others d → step program bound d ≡ Ended → (further : List Said) × (others ≡ said ++ further)
  said_front from c d said others front rest r t e = by (one_run program bound from front rest said others c d r t)
    where
      by : GoesOn program bound said others c d rest ⊎ ((rest ≡ []) × GoesOn program bound others said d c []) → (further : List Said) × (others ≡ said ++ further)
      by (inl g) = (g.further, g.behind)
      by (inr (none, g)) =
          let quiet = (nothing_follows g.way e).0 in
          ([], sym (g.behind ∙ ap (λ l. others ++ l) quiet ∙ append-nil others) ∙ sym (append-nil said))

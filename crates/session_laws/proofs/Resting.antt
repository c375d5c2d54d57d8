-- A run that comes to rest again and again has ended at rest.
use Rattle.std.proofs.Common.{◌≡◌, ℕ, List, [], ◌∷◌, ◌++◌, refl, sym, ◌∙◌, subst}
use Rattle.std.specs.Prelude.{Option, Some}
use Rattle.plain_machine.specs.Exchanges.{Ask, Answer, Exchange}
use Rattle.plain_machine.specs.State.{Program}
use Rattle.plain_machine.specs.Items.{Said, Config, Next, Goes, Asks, Ended}
use Rattle.plain_machine.specs.Step.{step}
use Rattle.plain_machine.specs.Run.{Reaches, stays, goes, asks}
use Rattle.plain_machine.proofs.Composed.{over_runs}
use Rattle.session_laws.specs.Resting.{Resting, Soon, GoesOn, AsksOn}

module _ (program : Program) (bound : ℕ) (rests : Resting) where
  -- a way without exchanges begins with the step that is made
  by_itself : {c d : Config} {all : List Exchange} {said : List Said} → Reaches program bound c all said d → all ≡ [] → (exchanges : List Exchange) (n : Next) → rests exchanges d → GoesOn program bound rests → step program bound c ≡ Goes n → Soon program bound rests exchanges n.config
  by_itself {c = c} stays none exchanges n at on_by_itself h = on_by_itself exchanges c n at h
  by_itself {d = d} (goes {n = m} {said = said} k r) none exchanges n at on_by_itself h =
      let same : Goes m ≡ Goes n = sym k ∙ h in
      let one : m ≡ n = cc in
      subst (λ (x : Next). Soon program bound rests exchanges x.config) one (record { said = said; there = d; way = subst (λ l. Reaches program bound m.config l said d) none r; rest = at })
  by_itself (asks k j r) none exchanges n at on_by_itself h = absurd (let never = none in cc)

  by_asking : {c d : Config} {all : List Exchange} {said : List Said} → Reaches program bound c all said d → all ≡ [] → (exchanges : List Exchange) (ask : Ask) (answer : Answer) (next : Answer → Option Next) (n : Next) → rests exchanges d → AsksOn program bound rests →
      step program bound c ≡ Asks ask next → next answer ≡ Some n → Soon program bound rests (exchanges ++ record { ask = ask; answer = answer } ∷ []) n.config
  by_asking {c = c} stays none exchanges ask answer next n at on_by_asking h e = on_by_asking exchanges c ask answer next n at h e
  by_asking (goes {n = m} k r) none exchanges ask answer next n at on_by_asking h e = absurd (let never : Goes m ≡ Asks ask next = sym k ∙ h in cc)
  by_asking (asks k j r) none exchanges ask answer next n at on_by_asking h e = absurd (let never = none in cc)

  -- what has ended goes no way
  at_the_end : {c d : Config} {all : List Exchange} {said : List Said} → Reaches program bound c all said d → all ≡ [] → (exchanges : List Exchange) → rests exchanges d → step program bound c ≡ Ended → rests exchanges c
  at_the_end stays none exchanges at h = at
  at_the_end (goes {n = m} k r) none exchanges at h = absurd (let never : Goes m ≡ Ended = sym k ∙ h in cc)
  at_the_end (asks k j r) none exchanges at h = absurd (let never = none in cc)

  pub soon_always : GoesOn program bound rests → AsksOn program bound rests → {c d : Config} {exchanges : List Exchange} {said : List Said} → Soon program bound rests [] c → Reaches program bound c exchanges said d → Soon program bound rests exchanges d
  soon_always on_by_itself on_by_asking soon r =
      over_runs program bound (λ exchanges said c. Soon program bound rests exchanges c)
      (λ exchanges said c n i h. by_itself i.way refl exchanges n i.rest on_by_itself h)
      (λ exchanges said c ask answer k n i h e. by_asking i.way refl exchanges ask answer k n i.rest on_by_asking h e)
      r [] [] soon

  -- a run that has ended is at rest
  pub rests_at_end : GoesOn program bound rests → AsksOn program bound rests → {c d : Config} {exchanges : List Exchange} {said : List Said} → Soon program bound rests [] c → Reaches program bound c exchanges said d → step program bound d ≡ Ended → rests exchanges d
  rests_at_end on_by_itself on_by_asking {exchanges = exchanges} soon r h =
      let i = soon_always on_by_itself on_by_asking soon r in
      at_the_end i.way refl exchanges i.rest h

-- The run stops, over each list of exchanges.
use Rattle.std.proofs.Common.{◌≡◌, ℕ, zero, suc, ◌<◌, ◌≤◌, Bool, true, false, List, [], ◌∷◌, length, refl, ap, sym, ◌∙◌, subst, arith}
use Rattle.std.proofs.lemmas.List.{length-map}
use Rattle.std.specs.Prelude.{Option, Some, None}
use Rattle.plain_machine.specs.Exchanges.{Ask, Answer, Exchange}
use Rattle.plain_machine.specs.State.{Program}
use Rattle.plain_machine.specs.Items.{Item, Config, Next, Step, Goes, Asks, Ended}
use Rattle.plain_machine.specs.Step.{step}
use Rattle.plain_machine.specs.Run.{IsCut, same_ask, met, taken, run}
use Rattle.machine_laws.specs.OneRun.{RunStops}
use Rattle.machine_laws.proofs.Keeping.{core, cores, Keeps, step_keeps}
use Rattle.machine_laws.proofs.Weights.{Below, first, weight}
use Rattle.machine_laws.proofs.Falling.{Falls, item_falls}

module _ (program : Program) (bound : ℕ) where
  abbrev pub heavy : Config → ℕ × ℕ
  heavy c = weight program (length c.state.processes) c.state.inhibited c.work

  pub same_count : (c : Config) (x : Next) → step program bound c ≡ Goes x → length x.config.state.processes ≡ length c.state.processes
  same_count c x e =
      let k : cores x.config.state ≡ cores c.state = ap (λ k. k.0) (subst (λ t. Keeps c.state t) e (step_keeps program bound c)) in
      sym (length-map x.config.state.processes core) ∙ (ap length k ∙ length-map c.state.processes core)

  -- each step that asks nothing makes it lighter
  pub step_below : (c : Config) (x : Next) → step program bound c ≡ Goes x → Below (heavy x.config) (heavy c)
  step_below c x e =
      let n : ℕ = length c.state.processes in
      let h : Below (weight program n x.config.state.inhibited x.config.work) (heavy c) = go c.work e in
      subst (λ n. Below (weight program n x.config.state.inhibited x.config.work) (heavy c)) (sym (same_count c x e)) h
    where
      go : (work : List Item) → (elim work [ [] ↦ Ended | item ∷ rest ↦ Rattle.plain_machine.specs.Step.item_step program bound c.state rest item ]) ≡ Goes x →
          Below (weight program (length c.state.processes) x.config.state.inhibited x.config.work) (weight program (length c.state.processes) c.state.inhibited work)
      go [] e = cc
      go (item ∷ rest) e = subst (λ t. Falls program (length c.state.processes) c.state.inhibited item rest t) e (item_falls program (length c.state.processes) bound c.state rest item refl)

  abbrev Stops : Config → List Exchange → Type 0
  Stops c xs = (steps : ℕ) × ((k : ℕ) → steps ≤ k → (run program bound k c xs).how ≡ IsCut → ⊥)

  -- where a run goes on from a step
  abbrev Goes_on : Step → Config → List Exchange → Type 0
  Goes_on t c xs = (steps : ℕ) × ((k : ℕ) → steps ≤ k → (taken t (λ d left. run program bound k d left) c xs).how ≡ IsCut → ⊥)

  one_more : (c : Config) (xs : List Exchange) → Goes_on (step program bound c) c xs → Stops c xs
  one_more c xs h = (suc h.0, go)
    where
      go : (k : ℕ) → suc h.0 ≤ k → (run program bound k c xs).how ≡ IsCut → ⊥
      go zero l = absurd (omega arith)
      go (suc k) l = h.1 k (omega arith)

  met_on : (same : Bool) (o : Option Next) (c : Config) (x : Exchange) (xs : List Exchange) → ((d : Config) → Stops d xs) → (steps : ℕ) × ((k : ℕ) → steps ≤ k → (met same o (λ d left. run program bound k d left) c x xs).how ≡ IsCut → ⊥)
  met_on true (Some n) c x xs ih = ih n.config
  met_on true None c x xs ih = (0, λ k l h. cc)
  met_on false o c x xs ih = (0, λ k l h. cc)

  -- with exchanges left fewer than these the run stops
  abbrev Later : List Exchange → Type 0
  Later [] = Unit {0}
  Later (x ∷ xs) = (d : Config) → Stops d xs

  asks_on : (ask : Ask) (next : Answer → Option Next) (c : Config) (xs : List Exchange) → Later xs → Goes_on (Asks ask next) c xs
  asks_on ask next c [] ih = (0, λ k l h. cc)
  asks_on ask next c (x ∷ xs) ih = met_on (same_ask ask x.ask) (next x.answer) c x xs ih

  -- by the second number, where fewer of the first is settled
  inwards : (xs : List Exchange) → Later xs → (a : ℕ) → ((c : Config) → (heavy c).0 < a → Stops c xs) → (b : ℕ) (c : Config) → (heavy c).0 ≤ a → (heavy c).1 < b → Stops c xs
  inwards xs ih a outer zero c h k = absurd (omega arith)
  inwards xs ih a outer (suc b) c h k = one_more c xs (go (λ d. inwards xs ih a outer b d) (step program bound c) refl)
    where
      lighter : (x : Next) → Below (heavy x.config) (heavy c) → ((d : Config) → (heavy d).0 ≤ a → (heavy d).1 < b → Stops d xs) → Stops x.config xs
      lighter x (first l) inner = outer x.config (omega arith)
      lighter x (Below.second l m) inner = inner x.config (omega arith) (omega arith)

      go : ((d : Config) → (heavy d).0 ≤ a → (heavy d).1 < b → Stops d xs) → (t : Step) → step program bound c ≡ t → Goes_on t c xs
      go inner Ended e = (0, λ k l h. cc)
      go inner (Goes x) e = lighter x (step_below c x e) inner
      go inner (Asks ask next) e = asks_on ask next c xs ih

  outwards : (xs : List Exchange) → Later xs → (a : ℕ) (c : Config) → (heavy c).0 < a → Stops c xs
  outwards xs ih zero c h = absurd (omega arith)
  outwards xs ih (suc a) c h = inwards xs ih a (outwards xs ih a) (suc (heavy c).1) c (omega arith) (omega arith)

  stops : (xs : List Exchange) (c : Config) → Stops c xs
  stops [] c = outwards [] tt (suc (heavy c).0) c (omega arith)
  stops (x ∷ xs) c = outwards (x ∷ xs) (stops xs) (suc (heavy c).0) c (omega arith)

-- from any configuration
pub run_stops : (program : Program) (bound : ℕ) (from : Config) → RunStops program bound from
run_stops program bound from xs = stops program bound xs from

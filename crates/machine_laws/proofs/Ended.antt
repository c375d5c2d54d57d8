-- A sentinel is entered once its child was killed, or the end of its output was read.
use Rattle.std.proofs.Common.{◌≡◌, ◌⊎◌, inl, inr, ℕ, Bool, true, false, List, [], ◌∷◌, ◌++◌, refl, ap, sym, ◌∙◌}
use Rattle.std.proofs.lemmas.List.Folds.{list_any-append}
use Rattle.std.specs.Prelude.{Some, slice_get, not, ◌||◌, nat_lt}
use Rattle.editor_model.specs.Values.{Script}
use Rattle.plain_machine.specs.Exchanges.{Exchange, Ask, AskEnd, Kill, Answer, Code, Signal, gone, goes_by}
use Rattle.plain_machine.specs.State.{Program}
use Rattle.plain_machine.specs.Arguments.{runs}
use Rattle.plain_machine.specs.Run.{start}
use Rattle.plain_machine.proofs.Composed.{over_runs}
use Rattle.machine_laws.specs.Entries.{output_ended, is_end, asks_kill, killed, SentinelsAfterOutput}
use Rattle.machine_laws.proofs.Keeping.{core, cores}
use Rattle.machine_laws.proofs.Moves.{coming, phase}
use Rattle.machine_laws.proofs.Steps.{get_cores}
use Rattle.machine_laws.proofs.Traced.{HoldsAt, to_end}
use Rattle.machine_laws.proofs.Alive.{Lives, lives_more, lives_asking, lives_start, upto}
use Rattle.machine_laws.proofs.Heard.{ends_after_output}
use Rattle.machine_laws.proofs.Basics.{or_right, same_is}

-- an exchange by which a child goes: its end, or its kill
by_exchange : (child : ℕ) (ask : Ask) (answer : Answer) → goes_by child ask answer ≡ true → (asks_kill child ask ≡ true) ⊎ (ask ≡ AskEnd child)
by_exchange child (AskEnd c) (Code n) h = inr (ap AskEnd (same_is c child h))
by_exchange child (AskEnd c) Signal h = inr (ap AskEnd (same_is c child h))
by_exchange child (AskEnd c) Answer.Failed h = inr (ap AskEnd (same_is c child h))
by_exchange child (Kill c) answer h = inl h
by_exchange child _ _ h = cc

-- a list of exchanges in which its end was asked
pub record AskedIn (child : ℕ) (xs : List Exchange) : Type 0 where
  pub before : List Exchange
  pub after : List Exchange
  pub exchange : Exchange
  pub all : xs ≡ before ++ exchange ∷ after
  pub asks : exchange.ask ≡ AskEnd child

-- a child that is gone was killed, or its end was asked
pub gone_by : (child : ℕ) (xs : List Exchange) → gone child xs ≡ true → (killed child xs ≡ true) ⊎ AskedIn child xs
gone_by child [] h = cc
gone_by child (x ∷ xs) h = go (goes_by child x.ask x.answer) refl h (gone_by child xs)
  where
    here : (asks_kill child x.ask ≡ true) ⊎ (x.ask ≡ AskEnd child) → (killed child (x ∷ xs) ≡ true) ⊎ AskedIn child (x ∷ xs)
    here (inl k) = inl (rw k refl)
    here (inr k) = inr (record { before = []; after = xs; exchange = x; all = refl; asks = k })

    later : (killed child xs ≡ true) ⊎ AskedIn child xs → (killed child (x ∷ xs) ≡ true) ⊎ AskedIn child (x ∷ xs)
    later (inl k) = inl (or_right (asks_kill child x.ask) (killed child xs) k)
    later (inr k) = inr (record { before = x ∷ k.before; after = k.after; exchange = k.exchange; all = ap (λ l. x ∷ l) k.all; asks = k.asks })

    go : (v : Bool) → goes_by child x.ask x.answer ≡ v → (v || gone child xs) ≡ true → (gone child xs ≡ true → (killed child xs ≡ true) ⊎ AskedIn child xs) → (killed child (x ∷ xs) ≡ true) ⊎ AskedIn child (x ∷ xs)
    go true e k ih = here (by_exchange child x.ask x.answer e)
    go false e k ih = later (ih k)

ended-append : (child : ℕ) (xs ys : List Exchange) → output_ended child xs ≡ true → output_ended child (xs ++ ys) ≡ true
ended-append child xs ys h = list_any-append (λ x. is_end child x.ask x.answer) xs ys ∙ ap (λ b. b || output_ended child ys) h

pub sentinels_after_output : (program : Program) (bound : ℕ) (script : Script) → SentinelsAfterOutput program bound (start script)
sentinels_after_output program bound script xs said c r p x g h =
    let i : Lives xs said c = over_runs program bound Lives (lives_more program bound) (lives_asking program bound) r [] [] (lives_start program bound script) in
    let k : slice_get (cores c.state) p ≡ Some (core x) = get_cores c.state.processes p x g in
    let at : HoldsAt xs said (coming c.work) p (core x) = i.0.0.each p (core x) k in
    let dead : true ≡ not (runs x.status) = ap (λ b. b || to_end p (coming c.work)) (sym h) ∙ at.ended in
    let is_gone : gone x.child xs ≡ true = i.1.dead p (core x) k ∙ ap (λ b. b || nat_lt p (upto (phase c.work) (cores c.state))) (sym dead) in
    (not_true (runs x.status) dead, by_way (gone_by x.child xs is_gone))
  where
    not_true : (b : Bool) → true ≡ not b → b ≡ false
    not_true true e = cc
    not_true false e = refl

    by_way : (killed x.child xs ≡ true) ⊎ AskedIn x.child xs → (killed x.child xs ≡ true) ⊎ (output_ended x.child xs ≡ true)
    by_way (inl k) = inl k
    by_way (inr k) =
        let before : output_ended x.child k.before ≡ true = ends_after_output program bound script xs said c r k.before k.after k.exchange x.child k.all k.asks in
        inr (ap (output_ended x.child) k.all ∙ ended-append x.child k.before (k.exchange ∷ k.after) before)

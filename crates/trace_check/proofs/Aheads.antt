-- What a wait comes to next, as the code finds it.
use Rattle.std.proofs.Common.{◌≡◌, ℕ, suc, Bool, true, false, List, [], ◌∷◌, drop, slice_get, Some, None, refl, ap, sym, ◌∙◌}
use Rattle.std.proofs.lemmas.Option.{same_Some}
use Rattle.plain_machine.specs.State.{State}
use Rattle.plain_machine.specs.Items.{Waiting}
use Rattle.plain_machine.specs.Waits.{eligible, from_eligible, target_is_eligible}
use Rattle.wait_loop.specs.KeptWaits.{new_waiting}
use Rattle.wait_loop.specs.Rounds.{Takes}
use Rattle.wait_loop.proofs.StepLemmas.{Alike, eligible_alike, target_alike, later_alike}
use Rattle.trace_check.specs.declared.waiting.Ahead.TheVariants as ahead
use Rattle.trace_check.specs.Waits.{ahead_case, ahead_of, without_first}

none_first : (all : List ℕ) → None ≡ slice_get all 0 → all ≡ []
none_first [] h = refl
none_first (q ∷ all) h = absurd (let e : None ≡ Some q = h in cc)

some_first : (all : List ℕ) (p : ℕ) → Some p ≡ slice_get all 0 → all ≡ p ∷ drop 1 all
some_first [] p h = absurd (let e : Some p ≡ None = h in cc)
some_first (q ∷ all) p h = ap (λ x. x ∷ all) (sym (same_Some p q h))

-- a round is the first one and the others
pub round_none : (all : List ℕ) → None ≡ slice_get all 0 → [] ≡ all
round_none all h = sym (none_first all h)

pub round_some : (all : List ℕ) (p : ℕ) (rest : List ℕ) → Some p ≡ slice_get all 0 → rest ≡ drop 1 all → p ∷ rest ≡ all
round_some all p rest h e = ap (λ l. p ∷ l) e ∙ sym (some_first all p h)

module _ (s : State) (w : Waiting) where
  abbrev aim : Waiting
  aim = new_waiting w.target 0 w.just

  aimed : Alike s aim s w
  aimed = later_alike s aim w refl refl

  case_is : (counted fit : Bool) (asking all : List ℕ) (rounds : ℕ) → w.counted ≡ counted → target_is_eligible s w ≡ fit → from_eligible s w w.asking ≡ asking → eligible s w ≡ all → w.rounds ≡ rounds → ahead_case counted fit asking all rounds ≡ ahead_of s w
  case_is counted fit asking all rounds a b c d e = sym (
      ap (λ x. ahead_case x (target_is_eligible s w) (from_eligible s w w.asking) (eligible s w) w.rounds) a
      ∙ ap (λ x. ahead_case counted x (from_eligible s w w.asking) (eligible s w) w.rounds) b
      ∙ ap (λ x. ahead_case counted fit x (eligible s w) w.rounds) c
      ∙ ap (λ x. ahead_case counted fit asking x w.rounds) d
      ∙ ap (λ x. ahead_case counted fit asking all x) e
      )

  pub heard_ahead : w.counted ≡ true → ahead.Done true ≡ ahead_of s w
  heard_ahead heard = case_is true (target_is_eligible s w) (from_eligible s w w.asking) (eligible s w) w.rounds heard refl refl refl refl

  pub target_fits : true ≡ target_is_eligible s aim → target_is_eligible s w ≡ true
  target_fits fit = sym (target_alike aimed) ∙ sym fit

  module _ (quiet : w.counted ≡ false) where
    pub unfit_ahead : false ≡ target_is_eligible s aim → ahead.Done false ≡ ahead_of s w
    unfit_ahead unfit = case_is false false (from_eligible s w w.asking) (eligible s w) w.rounds quiet (sym (target_alike aimed) ∙ sym unfit) refl refl refl

    module _ (fits : target_is_eligible s w ≡ true) where
      pub asks_ahead : (p : ℕ) (v : Waiting) → Takes s w p v → ahead.Ask p ≡ ahead_of s w
      asks_ahead p v takes = case_is false true (p ∷ v.asking) (eligible s w) w.rounds quiet fits takes.first refl refl

      module _ (over : from_eligible s w w.asking ≡ []) where
        pub spent_ahead : w.rounds ≡ 0 → ahead.Done false ≡ ahead_of s w
        spent_ahead last = go (eligible s w) refl
          where
            go : (all : List ℕ) → eligible s w ≡ all → ahead.Done false ≡ ahead_of s w
            go [] e = case_is false true [] [] 0 quiet fits over e last
            go (p ∷ more) e = case_is false true [] (p ∷ more) 0 quiet fits over e last

        pub nobody_ahead : None ≡ slice_get (eligible s aim) 0 → ahead.Done false ≡ ahead_of s w
        nobody_ahead none = case_is false true [] [] w.rounds quiet fits over (sym (eligible_alike aimed) ∙ none_first (eligible s aim) none) refl

        pub round_ahead : (p n : ℕ) → w.rounds ≡ suc n → Some p ≡ slice_get (eligible s aim) 0 → ahead.Round ≡ ahead_of s w
        round_ahead p n more some = case_is false true [] (p ∷ drop 1 (eligible s aim)) (suc n) quiet fits over (sym (eligible_alike aimed) ∙ some_first (eligible s aim) p some) more

  -- the round that begins
  pub next_round : (all : List ℕ) → all ≡ eligible s aim → all ≡ eligible s w
  next_round all e = e ∙ eligible_alike aimed

  -- THE FIRST ONE TAKEN
  pub first_taken : (p : ℕ) (v : Waiting) → Takes s w p v → v ≡ without_first s w
  first_taken p v takes = takes.same ∙ ap (λ l. record w { asking = drop 1 l }) (sym takes.first)

  pub nobody_taken : from_eligible s w w.asking ≡ [] → record w { asking = [] } ≡ without_first s w
  nobody_taken over = ap (λ l. record w { asking = drop 1 l }) (sym over)

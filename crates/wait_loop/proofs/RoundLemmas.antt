-- What is left of a round, and the round that begins, in the words of the contract.
use Rattle.std.proofs.Common.{◌≡◌, ℕ, suc, ◌+◌, ◌-◌, ◌<◌, List, [], ◌∷◌, length, take, drop, get_or, slice_get, Some, None, true, false, ◌⊎◌, inl, inr, refl, ap, sym, ◌∙◌, arith}
use Rattle.std.specs.List.{position}
use Rattle.std.proofs.lemmas.List.{drop-drop, get_or-drop, take_all, length-drop, get_or_read_under}
use Rattle.std.proofs.lemmas.Option.{same_Some}
use Rattle.editor_model.specs.Values.{Nil}
use Rattle.plain_machine.specs.State.{State, Process}
use Rattle.plain_machine.specs.Items.{Waiting}
use Rattle.plain_machine.specs.Waits.{is_eligible, eligible, from_eligible, target_is_eligible}
use Rattle.process_table.specs.Table.{StandsFor, with_table}
use Rattle.wait_loop.specs.declared.rounds.Step.TheVariants.{Ask}
use Rattle.wait_loop.specs.KeptWaits.{new_waiting}
use Rattle.wait_loop.specs.Rounds.{Takes, BeginsRound, AsksNext, Answers, Leads}
use Rattle.wait_loop.proofs.EligibleLemmas.{none_found, one_found}
use Rattle.wait_loop.proofs.StepLemmas.{Alike, from_alike, eligible_alike, target_alike, later_alike, stands_alike, next_alike, nil_alike, leads_nil, leads_asks}

-- a wait is eligible for the same as its aim
aimed : (s : State) (w : Waiting) → Alike s (new_waiting w.target 0 w.just) s w
aimed s w = later_alike s (new_waiting w.target 0 w.just) w refl refl

-- the part of a list that the code hands on
part_is : (items : List ℕ) (at : ℕ) → take (length items - at) (drop at items) ≡ drop at items
part_is items at = take_all (length items - at) (drop at items) (omega (arith, length-drop at items))

pub none_left : (s : State) (w : Waiting) (items : List ℕ) (at : ℕ) → w.asking ≡ drop at items → None ≡ position (is_eligible s (new_waiting w.target 0 w.just)) (take (length items - at) (drop at items)) → from_eligible s w w.asking ≡ []
none_left s w items at left found =
    ap (from_eligible s w) left
    ∙ sym (from_alike (aimed s w) (drop at items))
    ∙ none_found s (new_waiting w.target 0 w.just) (drop at items) (ap (position (is_eligible s (new_waiting w.target 0 w.just))) (sym (part_is items at)) ∙ sym found)

pub one_left : (s : State) (w : Waiting) (items : List ℕ) (at i p : ℕ) → w.asking ≡ drop at items → Some i ≡ position (is_eligible s (new_waiting w.target 0 w.just)) (take (length items - at) (drop at items)) → p ≡ get_or items (at + i) p → Takes s w p (record w { asking = drop (at + (i + 1)) items })
one_left s w items at i p left found read =
    let f = one_found s (new_waiting w.target 0 w.just) (drop at items) i (ap (position (is_eligible s (new_waiting w.target 0 w.just))) (sym (part_is items at)) ∙ sym found) in
    let within : at + i < length items = omega (arith, f.0, length-drop at items) in
    record {
      first =
          ap (from_eligible s w) left
          ∙ sym (from_alike (aimed s w) (drop at items))
          ∙ f.1
          ∙ ap (λ q. q ∷ drop (i + 1) (drop at items)) (get_or-drop at items i 0 ∙ sym (get_or_read_under items (at + i) (length items) p 0 read within refl))
          ∙ ap (λ rest. p ∷ rest) (drop-drop (i + 1) at items);
      same = refl;
    }

head_and_rest : (all : List ℕ) (p : ℕ) → slice_get all 0 ≡ Some p → all ≡ p ∷ drop 1 all
head_and_rest [] p h = cc
head_and_rest (q ∷ all) p h = ap (λ x. x ∷ all) (same_Some q p h)

pub round_begun : (s : State) (w : Waiting) (p n : ℕ) (rest : List ℕ) → from_eligible s w w.asking ≡ [] → Some p ≡ slice_get (eligible s (new_waiting w.target 0 w.just)) 0 → rest ≡ drop 1 (eligible s (new_waiting w.target 0 w.just)) → w.rounds ≡ suc n → BeginsRound s w p (record w { rounds = n; asking = rest })
round_begun s w p n rest over first others rounds = record {
  over = over;
  first = sym (eligible_alike (aimed s w)) ∙ head_and_rest (eligible s (new_waiting w.target 0 w.just)) p (sym first) ∙ ap (λ r. p ∷ r) (sym others);
  one_less = rounds;
  same = refl;
}

-- a process that was taken is one to be asked
pub asks : (s : State) (w : Waiting) (p : ℕ) (v : Waiting) → w.counted ≡ false → true ≡ target_is_eligible s (new_waiting w.target 0 w.just) → Takes s w p v ⊎ BeginsRound s w p v → AsksNext s w p v
asks s w p v quiet fit taken = record { quiet = quiet; fit = sym (target_alike (aimed s w)) ∙ sym fit; taken = taken }

-- the machine's steps at every state that the table stands for
pub asks_lead : (s : State) (table : List Process) (w : Waiting) (p : ℕ) (v : Waiting) → StandsFor table s.processes → AsksNext (with_table table) w p v → Leads s w (Ask p) v
asks_lead s table w p v stands next = leads_asks s w p v (next_alike p v (stands_alike s table w stands) next)

pub unfit_leads : (s : State) (table : List Process) (w : Waiting) → StandsFor table s.processes → w.counted ≡ false → false ≡ target_is_eligible (with_table table) (new_waiting w.target 0 w.just) → Answers s w Nil
unfit_leads s table w stands quiet unfit = leads_nil s w (nil_alike (stands_alike s table w stands) (quiet, inl (sym (target_alike (aimed (with_table table) w)) ∙ sym unfit)))

pub over_leads : (s : State) (table : List Process) (w : Waiting) → StandsFor table s.processes → w.counted ≡ false → from_eligible (with_table table) w w.asking ≡ [] → (eligible (with_table table) w ≡ []) ⊎ (w.rounds ≡ 0) → Answers s w Nil
over_leads s table w stands quiet over last = leads_nil s w (nil_alike (stands_alike s table w stands) (quiet, inr (over, last)))

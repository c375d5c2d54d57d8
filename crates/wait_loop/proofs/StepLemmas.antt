-- What the rules of a wait come to in the machine.
use Rattle.std.proofs.Common.{◌≡◌, ℕ, suc, ◌<◌, Bool, true, false, not, ◌&&◌, ◌||◌, List, [], ◌∷◌, map, filter, length, slice_get, Option, Some, None, option_map, refl, ap, sym, ◌∙◌, ◌⊎◌, inl, inr}
use Rattle.std.specs.List.{enumerate_from, range_with_len}
use Rattle.std.proofs.lemmas.List.{length-map}
use Rattle.std.proofs.lemmas.List.Elements.{filter_agree}
use Rattle.std.proofs.lemmas.Option.{slice_get-map, slice_get_within}
use Rattle.plain_machine.specs.State.{State, Process, process}
use Rattle.plain_machine.specs.Arguments.{runs}
use Rattle.editor_model.specs.Values.{T, Nil}
use Rattle.plain_machine.specs.Items.{Item, GiveAnswer, Target, Waiting}
use Rattle.plain_machine.specs.Calls.{on}
use Rattle.plain_machine.specs.Waits.{is_heard, is_target, is_eligible, is_eligible_one, eligible, from_eligible, target_first, target_is_eligible, ask_process, wait, wait_case}
use Rattle.process_table.specs.Table.{StandsFor, kept, with_table}
use Rattle.wait_loop.specs.declared.rounds.Step.TheVariants.{Ask}
use Rattle.wait_loop.specs.Rounds.{GivesNil, Takes, BeginsRound, AsksNext, Answers, Leads}
use Rattle.wait_loop.proofs.EligibleLemmas.{numbers, fits, target_fits, first_is_eligible, first_left_is_eligible, at_front}

-- two states and waits in which the same processes are eligible
pub record Alike (s : State) (w : Waiting) (t : State) (v : Waiting) : Type 0 where
  pub each : (p : ℕ) → is_eligible s w p ≡ is_eligible t v p
  pub many : length s.processes ≡ length t.processes
  pub target : w.target ≡ v.target

pub from_alike : {s : State} {w : Waiting} {t : State} {v : Waiting} → Alike s w t v → (asking : List ℕ) → from_eligible s w asking ≡ from_eligible t v asking
from_alike a [] = refl
from_alike {s} {w} {t} {v} a (p ∷ asking) =
    ap (λ b. elim b [ true ↦ p ∷ asking | false ↦ from_eligible s w asking ]) (a.each p)
    ∙ ap (λ rest. elim (is_eligible t v p) [ true ↦ p ∷ asking | false ↦ rest ]) (from_alike a asking)

pub eligible_alike : {s : State} {w : Waiting} {t : State} {v : Waiting} → Alike s w t v → eligible s w ≡ eligible t v
eligible_alike {s} {w} {t} {v} a =
    ap (λ o. target_first o (filter (is_eligible s w) (map (λ x. x.0) (enumerate_from 0 s.processes)))) a.target
    ∙ ap (target_first v.target)
    (filter_agree (is_eligible s w) (is_eligible t v) a.each (map (λ x. x.0) (enumerate_from 0 s.processes))
    ∙ ap (filter (is_eligible t v)) (numbers 0 s.processes ∙ ap (range_with_len 0) a.many ∙ sym (numbers 0 t.processes)))

pub target_alike : {s : State} {w : Waiting} {t : State} {v : Waiting} → Alike s w t v → target_is_eligible s w ≡ target_is_eligible t v
target_alike {s} {w} {t} {v} a = target_fits s w ∙ ap (fits (is_eligible s w)) a.target ∙ go v.target ∙ sym (target_fits t v)
  where
    go : (target : Option ℕ) → fits (is_eligible s w) target ≡ fits (is_eligible t v) target
    go None = refl
    go (Some p) = a.each p

-- a table and what it stands for
pub stands_alike : (s : State) (table : List Process) (w : Waiting) → StandsFor table s.processes → Alike (with_table table) w s w
stands_alike s table w stands = record {
  each = λ p. ap (λ xs. is_eligible_one w p (slice_get xs p)) stands ∙ ap (is_eligible_one w p) (slice_get-map kept s.processes p) ∙ go p (slice_get s.processes p);
  many = ap length stands ∙ length-map s.processes kept;
  target = refl;
}
  where
    go : (p : ℕ) (x : Option Process) → is_eligible_one w p (option_map kept x) ≡ is_eligible_one w p x
    go p None = refl
    go p (Some x) = refl

-- the list and the rounds don't matter
pub later_alike : (s : State) (w v : Waiting) → w.target ≡ v.target → w.just ≡ v.just → Alike s w s v
later_alike s w v target just = record { each = λ p. go p (process s p); many = refl; target = target }
  where
    go : (p : ℕ) (x : Option Process) → is_eligible_one w p x ≡ is_eligible_one v p x
    go p None = refl
    go p (Some x) =
        ap (λ j. runs x.status && (is_heard x.filter && (not j || is_target w.target p))) just
        ∙ ap (λ t. runs x.status && (is_heard x.filter && (not v.just || is_target t p))) target

-- the rules at two states and waits that are alike
pub nil_alike : {s t : State} {w : Waiting} → Alike s w t w → GivesNil s w → GivesNil t w
nil_alike a (quiet, inl unfit) = (quiet, inl (sym (target_alike a) ∙ unfit))
nil_alike {s} {t} {w} a (quiet, inr (over, inl none)) = (quiet, inr (sym (from_alike a w.asking) ∙ over, inl (sym (eligible_alike a) ∙ none)))
nil_alike {s} {t} {w} a (quiet, inr (over, inr last)) = (quiet, inr (sym (from_alike a w.asking) ∙ over, inr last))

pub next_alike : {s t : State} {w : Waiting} (p : ℕ) (v : Waiting) → Alike s w t w → AsksNext s w p v → AsksNext t w p v
next_alike {s} {t} {w} p v a asks = record { quiet = asks.quiet; fit = sym (target_alike a) ∙ asks.fit; taken = go asks.taken }
  where
    go : Takes s w p v ⊎ BeginsRound s w p v → Takes t w p v ⊎ BeginsRound t w p v
    go (inl takes) = inl (record { first = sym (from_alike a w.asking) ∙ takes.first; same = takes.same })
    go (inr begins) = inr (record { over = sym (from_alike a w.asking) ∙ begins.over; first = sym (eligible_alike a) ∙ begins.first; one_less = begins.one_less; same = begins.same })

-- THE MACHINE'S STEPS
case_is : (s : State) (w : Waiting) (target : Target) (rest : List Item) (counted fit : Bool) (asking all : List ℕ) (rounds : ℕ) →
    w.counted ≡ counted → target_is_eligible s w ≡ fit → from_eligible s w w.asking ≡ asking → eligible s w ≡ all → w.rounds ≡ rounds → wait s w target rest ≡ wait_case counted fit asking all rounds s w target rest
case_is s w target rest counted fit asking all rounds a b c d e =
    ap (λ x. wait_case x (target_is_eligible s w) (from_eligible s w w.asking) (eligible s w) w.rounds s w target rest) a
    ∙ ap (λ x. wait_case counted x (from_eligible s w w.asking) (eligible s w) w.rounds s w target rest) b
    ∙ ap (λ x. wait_case counted fit x (eligible s w) w.rounds s w target rest) c
    ∙ ap (λ x. wait_case counted fit asking x w.rounds s w target rest) d
    ∙ ap (λ x. wait_case counted fit asking all x s w target rest) e

pub leads_true : (s : State) (w : Waiting) → w.counted ≡ true → Answers s w T
leads_true s w heard target rest = case_is s w target rest true (target_is_eligible s w) (from_eligible s w w.asking) (eligible s w) w.rounds heard refl refl refl refl

pub leads_nil : (s : State) (w : Waiting) → GivesNil s w → Answers s w Nil
leads_nil s w (quiet, inl unfit) target rest = case_is s w target rest false false (from_eligible s w w.asking) (eligible s w) w.rounds quiet unfit refl refl refl
leads_nil s w (quiet, inr (over, inl none)) target rest = case_is s w target rest false (target_is_eligible s w) [] [] w.rounds quiet refl over none refl ∙ go (target_is_eligible s w)
  where
    go : (fit : Bool) → wait_case false fit [] [] w.rounds s w target rest ≡ on s (GiveAnswer Nil target ∷ rest)
    go false = refl
    go true = refl
leads_nil s w (quiet, inr (over, inr last)) target rest = case_is s w target rest false (target_is_eligible s w) [] (eligible s w) 0 quiet refl over refl last ∙ go (target_is_eligible s w) (eligible s w)
  where
    go : (fit : Bool) (all : List ℕ) → wait_case false fit [] all 0 s w target rest ≡ on s (GiveAnswer Nil target ∷ rest)
    go false all = refl
    go true [] = refl
    go true (p ∷ more) = refl

pub leads_asks : (s : State) (w : Waiting) (p : ℕ) (v : Waiting) → AsksNext s w p v → Leads s w (Ask p) v
leads_asks s w p v asks = go asks.taken
  where
    go : Takes s w p v ⊎ BeginsRound s w p v → Leads s w (Ask p) v
    go (inl takes) = inl (λ target rest. case_is s w target rest false true (p ∷ v.asking) (eligible s w) w.rounds asks.quiet asks.fit takes.first refl refl ∙ ap (λ u. ask_process s u target rest p) (sym takes.same))
    go (inr begins) =
        let u : Waiting = record w { rounds = v.rounds; asking = p ∷ v.asking } in
        let alike : Alike s w s u = later_alike s w u refl refl in
        let passes : is_eligible s u p ≡ true = sym (alike.each p) ∙ first_is_eligible s w p v.asking asks.fit begins.first in
        inr (
          u,
          (
            λ target rest. case_is s w target rest false true [] (p ∷ v.asking) (suc v.rounds) asks.quiet asks.fit begins.over begins.first begins.one_less,
            λ target rest. case_is s u target rest false true (p ∷ v.asking) (eligible s u) u.rounds asks.quiet (sym (target_alike alike) ∙ asks.fit) (at_front s u p v.asking passes) refl refl ∙ ap (λ x. ask_process s x target rest p) (sym begins.same),
          ),
        )

-- who is asked is eligible, and was made
pub asked_is_eligible : (s : State) (w : Waiting) (p : ℕ) (v : Waiting) → AsksNext s w p v → is_eligible s w p ≡ true
asked_is_eligible s w p v asks = go asks.taken
  where
    go : Takes s w p v ⊎ BeginsRound s w p v → is_eligible s w p ≡ true
    go (inl takes) = first_left_is_eligible s w p v.asking w.asking takes.first
    go (inr begins) = first_is_eligible s w p v.asking asks.fit begins.first

pub eligible_is_made : (table : List Process) (w : Waiting) (p : ℕ) → is_eligible (with_table table) w p ≡ true → p < length table
eligible_is_made table w p h = go (slice_get table p) refl h
  where
    go : (x : Option Process) → slice_get table p ≡ x → is_eligible_one w p x ≡ true → p < length table
    go None e h = cc
    go (Some x) e h = slice_get_within table p x e

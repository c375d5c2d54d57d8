-- A run is passed in steps.
use Rattle.std.proofs.Common.{◌≡◌, ℕ, zero, suc, ◌+◌, ◌-◌, ◌<◌, ◌≤◌, Bool, true, false, List, [], ◌∷◌, ◌++◌, length, take, drop, map, ap, ◌∙◌, subst, arith}
use Rattle.std.specs.Prelude.{not, slice_get, Option, Some, option_map, unwrap_or, replicate}
use Rattle.std.proofs.lemmas.List.{drop_all}
use Rattle.std.proofs.lemmas.Option.{slice_get-map}
use Rattle.text_model.specs.Properties.{PropSet, Cell, same_set}
use Rattle.text_model.specs.PropertyQuestions.{first_where}
use Rattle.text_model.proofs.Lists.{drop_at}
use Rattle.prop_intervals.specs.Sets.{run_end, other_from}
use Rattle.prop_intervals.proofs.SetLemmas.{run_more}

-- the first place whose set differs, by the first set
abbrev first_by : Bool → (place : ℕ) → Option ℕ → Option ℕ
first_by same place rest = elim (not same) [ true ↦ Some place | false ↦ rest ]

other_by : (set s : PropSet) (at : ℕ) (more : List PropSet) (n : ℕ) (b : Bool) → same_set set s ≡ b → other_from set at (s ∷ more) n ≡ unwrap_or (first_by b at (first_where (λ t. not (same_set set t)) (at + 1) more)) n
other_by set s at more n b k = ap (λ b. unwrap_or (first_by b at (first_where (λ t. not (same_set set t)) (at + 1) more)) n) k

pub still_same : (sets : List PropSet) (set s : PropSet) (j n : ℕ) → slice_get sets j ≡ Some s → same_set set s ≡ true → other_from set j (drop j sets) n ≡ other_from set (j + 1) (drop (j + 1) sets) n
still_same sets set s j n h k = ap (λ l. other_from set j l n) (drop_at sets j s h) ∙ other_by set s j (drop (j + 1) sets) n true k

pub other_here : (sets : List PropSet) (set s : PropSet) (j n : ℕ) → slice_get sets j ≡ Some s → same_set set s ≡ false → other_from set j (drop j sets) n ≡ j
other_here sets set s j n h k = ap (λ l. other_from set j l n) (drop_at sets j s h) ∙ other_by set s j (drop (j + 1) sets) n false k

pub end_of_run : (sets : List PropSet) (set : PropSet) (i : ℕ) → slice_get sets i ≡ Some set → run_end i sets ≡ other_from set (i + 1) (drop (i + 1) sets) (length sets)
end_of_run sets set i h = ap (λ l. elim l [ [] ↦ i | s ∷ more ↦ other_from s (i + 1) more (length sets) ]) (drop_at sets i set h)

pub none_other : (sets : List PropSet) (set : PropSet) (j : ℕ) → length sets ≤ j → other_from set j (drop j sets) (length sets) ≡ length sets
none_other sets set j h = ap (λ l. other_from set j l (length sets)) (drop_all j sets h)

-- the sets from one place up to another are the same as one
stepped : (sets : List PropSet) (set : PropSet) (n steps from : ℕ) → ((j : ℕ) → from ≤ j → j < from + steps → (s : PropSet) × (slice_get sets j ≡ Some s) × (same_set set s ≡ true))
    → other_from set from (drop from sets) n ≡ other_from set (from + steps) (drop (from + steps) sets) n
stepped sets set n zero from h = let e : from ≡ from + 0 = omega arith in ap (λ k. other_from set k (drop k sets) n) e
stepped sets set n (suc steps) from h =
    let (s, found, same) = h from (omega arith) (omega arith) in
    let e : from + 1 + steps ≡ from + suc steps = omega arith in
    still_same sets set s from n found same ∙ stepped sets set n steps (from + 1) (λ j a b. h j (omega arith) (omega arith)) ∙ ap (λ k. other_from set k (drop k sets) n) e

abbrev pub set_of : Cell → PropSet
set_of c = c.1

pub passed_to : (cells : List Cell) (set here : PropSet) (n place from to : ℕ) → same_set set here ≡ true → option_map set_of (slice_get cells place) ≡ Some here → place ≤ from → from ≤ to
    → ((j : ℕ) → place ≤ j → j < to → option_map set_of (slice_get cells j) ≡ option_map set_of (slice_get cells place))
    → other_from set from (drop from (map set_of cells)) n ≡ other_from set to (drop to (map set_of cells)) n
passed_to cells set here n place from to same found behind order equal =
    let e : from + (to - from) ≡ to = omega arith in
    stepped (map set_of cells) set n (to - from) from (λ j a b. (here, slice_get-map set_of cells j ∙ equal j (omega arith) (omega arith) ∙ found, same)) ∙ ap (λ k. other_from set k (drop k (map set_of cells)) n) e

-- the characters up to a place have one set from another place on
abbrev pub OneSet : (sets : List PropSet) (i j : ℕ) (set : PropSet) → Type 0
OneSet sets i j set = take j sets ≡ take i sets ++ replicate (j - i) set

-- and so up to a later place, as the sets between are the same
pub one_set_on : (cells : List Cell) (set here : PropSet) (i steps from : ℕ) → i ≤ from → same_set set here ≡ true
    → ((j : ℕ) → from ≤ j → j < from + steps → option_map set_of (slice_get cells j) ≡ Some here)
    → OneSet (map set_of cells) i from set → OneSet (map set_of cells) i (from + steps) set
one_set_on cells set here i zero from order same all h = let e : from ≡ from + 0 = omega arith in subst (λ k. OneSet (map set_of cells) i k set) e h
one_set_on cells set here i (suc steps) from order same all h =
    let found = slice_get-map set_of cells from ∙ all from (omega arith) (omega arith) in
    let e : from + 1 + steps ≡ from + suc steps = omega arith in
    subst (λ k. OneSet (map set_of cells) i k set) e
    (one_set_on cells set here i steps (from + 1) (omega arith) same (λ j a b. all j (omega arith) (omega arith)) (run_more set here (map set_of cells) i from order found same h))

pub one_set_to : (cells : List Cell) (set here : PropSet) (i place from to : ℕ) → i ≤ from → same_set set here ≡ true → option_map set_of (slice_get cells place) ≡ Some here → place ≤ from → from ≤ to
    → ((j : ℕ) → place ≤ j → j < to → option_map set_of (slice_get cells j) ≡ option_map set_of (slice_get cells place))
    → OneSet (map set_of cells) i from set → OneSet (map set_of cells) i to set
one_set_to cells set here i place from to order same found behind ahead equal h =
    let e : from + (to - from) ≡ to = omega arith in
    subst (λ k. OneSet (map set_of cells) i k set) e
    (one_set_on cells set here i (to - from) from order same (λ j a b. equal j (omega arith) (omega arith) ∙ found) h)

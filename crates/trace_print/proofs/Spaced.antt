-- Words with blanks between.
use Rattle.std.proofs.Common.{◌≡◌, ℕ, zero, suc, ◌+◌, List, [], ◌∷◌, ◌++◌, map, take, length, ◌≤◌, ◌≢◌, arith, refl, sym, ap, ◌∙◌, append_assoc}
use Rattle.std.specs.Prelude.{slice_get, Some}
use Rattle.std.specs.Option.{option_map}
use Rattle.std.proofs.lemmas.List.{take_all, length-map}
use Rattle.std.proofs.lemmas.Option.{slice_get-map}
use Rattle.text_model.proofs.Lists.{take_one_more}
use Rattle.text_model.specs.Properties.{PropSet}
use Rattle.plain_machine.specs.Lines.{spaced, bracketed, symbol_name, shown_prop, shown_set, prop_words}
use Rattle.trace_print.specs.Gaps.{gap}
use Rattle.trace_print.specs.Pairs.{pair_word}

spaced_on : (first : List ℕ) (words : List (List ℕ)) (word : List ℕ) → spaced (first ∷ (words ++ word ∷ [])) ≡ spaced (first ∷ words) ++ (32 ∷ word)
spaced_on first [] word = refl
spaced_on first (next ∷ words) word = ap (λ l. first ++ (32 ∷ l)) (spaced_on next words word) ∙ sym (append_assoc first (32 ∷ spaced (next ∷ words)) (32 ∷ word))

-- one more word
pub spaced_more : (words : List (List ℕ)) (i : ℕ) (word : List ℕ) → slice_get words i ≡ Some word → spaced (take i words) ++ (gap i ++ word) ≡ spaced (take (i + 1) words)
spaced_more words i word h = by words i h ∙ ap spaced (sym (take_one_more words i word h))
  where
    by : (words : List (List ℕ)) (i : ℕ) → slice_get words i ≡ Some word → spaced (take i words) ++ (gap i ++ word) ≡ spaced (take i words ++ word ∷ [])
    by words zero h = refl
    by [] (suc i) h = cc
    by (first ∷ words) (suc i) h = sym (spaced_on first (take i words) word)

-- one more word that is printed of an item
pub spaced_item : {X : Type 0} (f : X → List ℕ) (items : List X) (i : ℕ) (x : X) → slice_get items i ≡ Some x → spaced (take i (map f items)) ++ (gap i ++ f x) ≡ spaced (take (i + 1) (map f items))
spaced_item f items i x h = spaced_more (map f items) i (f x) (slice_get-map f items i ∙ ap (option_map f) h)

pub spaced_all : {X : Type 0} (f : X → List ℕ) (items : List X) (i : ℕ) → length items ≤ i → spaced (take i (map f items)) ≡ spaced (map f items)
spaced_all f items i h = ap spaced (take_all i (map f items) (omega (arith, length-map items f)))

-- the words of a set of properties, pair by pair
pub pairs_spaced : (symbols : List (List ℕ)) (set : PropSet) → spaced (map (pair_word symbols) set) ≡ spaced (prop_words symbols set)
pairs_spaced symbols [] = refl
pairs_spaced symbols (p ∷ []) = refl
pairs_spaced symbols (p ∷ q ∷ set) =
    ap (λ l. pair_word symbols p ++ (32 ∷ l)) (pairs_spaced symbols (q ∷ set)) ∙ append_assoc (symbol_name symbols p.0) (32 ∷ shown_prop symbols p.1) (32 ∷ spaced (prop_words symbols (q ∷ set)))

pub set_bracketed : (symbols : List (List ℕ)) (set : PropSet) → length set ≢ 0 → bracketed (spaced (prop_words symbols set)) ≡ shown_set symbols set
set_bracketed symbols [] h = absurd (h refl)
set_bracketed symbols (p ∷ set) h = refl

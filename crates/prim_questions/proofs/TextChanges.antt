-- Places where properties change, and characters that have a value.
use Rattle.std.proofs.Common.{◌≡◌, ℕ, zero, suc, ◌+◌, ◌-◌, ◌<◌, ◌≤◌, Bool, true, false, List, [], ◌∷◌, length, map, take, drop, refl, sym, ap, subst, ◌∙◌, inl, inr, arith}
use Rattle.std.specs.Prelude.{ℤ, pos, negsuc, int_lt, not, nat_lt, if◌then◌else◌, Option, Some, None, slice_get, option_map, unwrap_or}
use Rattle.std.proofs.lemmas.Bool.{ltb-true, ltb-false, le-ltb, false≢true}
use Rattle.std.proofs.lemmas.List.{drop_all, length-take, length-drop}
use Rattle.std.proofs.lemmas.Option.{slice_get-map, slice_get_within}
use Rattle.text_model.proofs.Sameness.{same_set-sound}
use Rattle.text_model.proofs.Lists.{drop_at}
use Rattle.text_model.proofs.Cases.{if_false}
use Rattle.text_model.specs.Properties.{Cell, PropSet, get, same_set, same_option, same_value}
use Rattle.text_model.specs.PropertyQuestions.{changes, first_where}
use Rattle.prop_intervals.specs.Sets.{changes_of, other_from, run_end, sets_in, before, behind}
use Rattle.editor_model.specs.PropertyCalls.{up_to, down_to}
use Rattle.prim_questions.specs.Searches.{Ends, EndsBehind, changes_in}

-- UP TO A LIMIT
limit_behind : (to p : ℕ) (l : ℤ) → to ≤ p → int_lt (pos (to + 1)) l ≡ false → int_lt (pos (p + 1)) l ≡ false
limit_behind to p (pos n) h k = le-ltb (p + 1) n (let m : n ≤ to + 1 = ltb-false (to + 1) n k in omega (arith, m, h))
limit_behind to p (negsuc n) h k = refl

pub up_to_ends : (end : ℕ) (limit : Option ℤ) (to : ℕ) (r o : Option ℕ) → Ends end limit to → (to ≡ end → r ≡ o) → (to ≤ end → r ≡ before to o) → up_to r limit ≡ up_to o limit
up_to_ends end limit to r o (inl e) whole part = ap (λ x. up_to x limit) (whole e)
up_to_ends end None to r o (inr h) whole part = absurd h.1
up_to_ends end (Some l) to r o (inr h) whole part = ap (λ x. up_to x (Some l)) (part h.0) ∙ go o
  where
    cut : (p : ℕ) (b : Bool) → nat_lt p to ≡ b → up_to (if b then Some p else None) (Some l) ≡ up_to (Some p) (Some l)
    cut p true e = refl
    cut p false e = sym (if_false _ (limit_behind to p l (ltb-false p to e) h.1))

    go : (o : Option ℕ) → up_to (before to o) (Some l) ≡ up_to o (Some l)
    go None = refl
    go (Some p) = cut p (nat_lt p to) refl

limit_before : (from q : ℕ) (l : ℤ) → q ≤ from → int_lt (pos from) l ≡ true → int_lt l (pos (q + 1)) ≡ false
limit_before from q (pos n) h k = le-ltb n (q + 1) (let m : from < n = ltb-true from n k in omega (arith, m, h))
limit_before from q (negsuc n) h k = absurd (false≢true k)

pub down_to_ends : (begin : ℕ) (limit : Option ℤ) (from : ℕ) (r o : Option ℕ) → EndsBehind begin limit from → (from ≡ begin → r ≡ o) → (begin ≤ from → r ≡ behind from o) → down_to r limit ≡ down_to o limit
down_to_ends begin limit from r o (inl e) whole part = ap (λ x. down_to x limit) (whole e)
down_to_ends begin None from r o (inr h) whole part = absurd h.1
down_to_ends begin (Some l) from r o (inr h) whole part = ap (λ x. down_to x (Some l)) (part h.0) ∙ go o
  where
    cut : (q : ℕ) (b : Bool) → nat_lt from q ≡ b → down_to (if b then Some q else None) (Some l) ≡ down_to (Some q) (Some l)
    cut q true e = refl
    cut q false e = sym (if_false _ (limit_before from q l (ltb-false from q e) h.1))

    go : (o : Option ℕ) → down_to (behind from o) (Some l) ≡ down_to o (Some l)
    go None = refl
    go (Some q) = cut q (nat_lt from q) refl

-- CHARACTERS THAT HAVE A VALUE
get_taken : {A : Type 0} (xs : List A) (to i : ℕ) → i < to → slice_get (take to xs) i ≡ slice_get xs i
get_taken [] zero i l = refl
get_taken [] (suc to) i l = refl
get_taken (x ∷ xs) zero i l = absurd (omega arith)
get_taken (x ∷ xs) (suc to) zero l = refl
get_taken (x ∷ xs) (suc to) (suc i) l = get_taken xs to i (omega arith)

at_place : (text : List Cell) (to i : ℕ) (set : PropSet) (P : Type 0) → i < to → option_map (λ c. c.1) (slice_get text i) ≡ Some set → ((c : Cell) → c.1 ≡ set → drop i (take to text) ≡ c ∷ drop (i + 1) (take to text) → P) → P
at_place text to i set P l h f = go (slice_get text i) refl h
  where
    go : (o : Option Cell) → slice_get text i ≡ o → option_map (λ c. c.1) o ≡ Some set → P
    go None e k = cc
    go (Some c) e k = f c (let same : c.1 ≡ set = cc in same) (drop_at (take to text) i c (get_taken text to i l ∙ e))

pub where_found : (test : PropSet → Bool) (text : List Cell) (to i : ℕ) (set : PropSet) (whole : Option ℕ) → i < to → option_map (λ c. c.1) (slice_get text i) ≡ Some set → test set ≡ true
    → first_where (λ c. test c.1) i (drop i (take to text)) ≡ whole → Some i ≡ whole
where_found test text to i set whole l h t e = at_place text to i set (Some i ≡ whole) l h (λ c same split.
    let found : test c.1 ≡ true = ap test same ∙ t in
    sym (ap (λ b. let o : Option ℕ = elim b [ true ↦ Some i | false ↦ first_where (λ c. test c.1) (i + 1) (drop (i + 1) (take to text)) ] in o) found)
    ∙ ap (first_where (λ c. test c.1) i) (sym split) ∙ e)

pub where_passed : (test : PropSet → Bool) (text : List Cell) (to i : ℕ) (set : PropSet) (whole : Option ℕ) → i < to → option_map (λ c. c.1) (slice_get text i) ≡ Some set → test set ≡ false
    → first_where (λ c. test c.1) i (drop i (take to text)) ≡ whole → first_where (λ c. test c.1) (i + 1) (drop (i + 1) (take to text)) ≡ whole
where_passed test text to i set whole l h t e = at_place text to i set (first_where (λ c. test c.1) (i + 1) (drop (i + 1) (take to text)) ≡ whole) l h (λ c same split.
    let passed : test c.1 ≡ false = ap test same ∙ t in
    sym (ap (λ b. let o : Option ℕ = elim b [ true ↦ Some i | false ↦ first_where (λ c. test c.1) (i + 1) (drop (i + 1) (take to text)) ] in o) passed)
    ∙ ap (first_where (λ c. test c.1) i) (sym split) ∙ e)

pub where_ended : (test : PropSet → Bool) (text : List Cell) (to i : ℕ) (whole : Option ℕ) → to ≤ i → first_where (λ c. test c.1) i (drop i (take to text)) ≡ whole → None ≡ whole
where_ended test text to i whole l e = ap (first_where (λ c. test c.1) i) (sym (drop_all i (take to text) (omega (arith, length-take to text)))) ∙ e

get_dropped : {A : Type 0} (xs : List A) (n k : ℕ) → slice_get (drop n xs) k ≡ slice_get xs (n + k)
get_dropped xs zero k = ap (slice_get xs) (let same : k ≡ 0 + k = omega arith in same)
get_dropped [] (suc n) k = refl
get_dropped (x ∷ xs) (suc n) k = get_dropped xs n k ∙ ap (slice_get (x ∷ xs)) (let same : suc (n + k) ≡ suc n + k = omega arith in same)

-- the sets of a run, from its first place on
same_before : (set : PropSet) (place k : ℕ) (sets : List PropSet) → place + k < other_from set place sets (place + length sets) → slice_get sets k ≡ Some set
same_before set place k [] h = absurd (omega (arith, h))
same_before set place k (s ∷ more) h = go (same_set set s) k refl h (same_before set (place + 1) (k - 1) more)
  where
    go : (b : Bool) (k : ℕ) → same_set set s ≡ b → place + k < unwrap_or (elim (not b) [ true ↦ Some place | false ↦ first_where (λ r. not (same_set set r)) (place + 1) more ]) (place + length (s ∷ more))
        → (place + 1 + (k - 1) < other_from set (place + 1) more (place + 1 + length more) → slice_get more (k - 1) ≡ Some set) → slice_get (s ∷ more) k ≡ Some set
    go false k e l rest = absurd (omega (arith, l))
    go true zero e l rest = ap (λ r. Some r) (sym (same_set-sound set s e))
    go true (suc k) e l rest =
        let size : place + length (s ∷ more) ≡ place + 1 + length more = omega arith in
        let behind : place + suc k < other_from set (place + 1) more (place + 1 + length more) = subst (λ n. place + suc k < unwrap_or (first_where (λ r. not (same_set set r)) (place + 1) more) n) size l in
        ap (slice_get more) (let same : k ≡ suc k - 1 = omega arith in same) ∙ rest (omega (arith, behind))

in_run : (sets : List PropSet) (i j : ℕ) (set : PropSet) → slice_get sets i ≡ Some set → i ≤ j → j < run_end i sets → slice_get sets j ≡ Some set
in_run sets i j set h b l = go (j - i) refl
  where
    ends : run_end i sets ≡ other_from set (i + 1) (drop (i + 1) sets) (length sets)
    ends = ap (λ l. elim l [ [] ↦ i | s ∷ more ↦ other_from s (i + 1) more (length sets) ]) (drop_at sets i set h)

    size : i + 1 + length (drop (i + 1) sets) ≡ length sets
    size = omega (arith, length-drop (i + 1) sets, slice_get_within sets i set h)

    go : (k : ℕ) → j - i ≡ k → slice_get sets j ≡ Some set
    go zero e = ap (slice_get sets) (let same : j ≡ i = omega arith in same) ∙ h
    go (suc k) e =
        let there : j ≡ (i + 1) + k = omega arith in
        let inside : i + 1 + k < other_from set (i + 1) (drop (i + 1) sets) (i + 1 + length (drop (i + 1) sets)) =
        subst (λ n. i + 1 + k < other_from set (i + 1) (drop (i + 1) sets) n) (sym size) (omega (arith, l, ends)) in
        ap (slice_get sets) there ∙ sym (get_dropped sets (i + 1) k) ∙ same_before set (i + 1) k (drop (i + 1) sets) inside

-- a run whose set fails the test is passed as a whole
pub where_run_passed : (test : PropSet → Bool) (text : List Cell) (to i end : ℕ) (set : PropSet) (whole : Option ℕ) → slice_get (sets_in text) i ≡ Some set → test set ≡ false → end ≡ run_end i (sets_in text) → i ≤ end
    → first_where (λ c. test c.1) i (drop i (take to text)) ≡ whole → first_where (λ c. test c.1) end (drop end (take to text)) ≡ whole
where_run_passed test text to i end set whole h t is_end b e =
    let there : end ≡ i + (end - i) = omega arith in
    subst (λ n. first_where (λ c. test c.1) n (drop n (take to text)) ≡ whole) (sym there) (steps (end - i) (omega arith))
  where
    step : (j : ℕ) → i ≤ j → j < end → first_where (λ c. test c.1) j (drop j (take to text)) ≡ whole → first_where (λ c. test c.1) (j + 1) (drop (j + 1) (take to text)) ≡ whole
    step j l u e = if_before (nat_lt j to) refl
      where
        if_before : (b : Bool) → nat_lt j to ≡ b → first_where (λ c. test c.1) (j + 1) (drop (j + 1) (take to text)) ≡ whole
        if_before true k = where_passed test text to j set whole (ltb-true j to k) (sym (slice_get-map (λ (c : Cell). c.1) text j) ∙ in_run (sets_in text) i j set h l (omega (arith, u, is_end))) t e
        if_before false k =
            let past : to ≤ j = ltb-false j to k in
            ap (first_where (λ c. test c.1) (j + 1)) (drop_all (j + 1) (take to text) (omega (arith, past, length-take to text))) ∙ where_ended test text to j whole past e

    steps : (n : ℕ) → i + n ≤ end → first_where (λ c. test c.1) (i + n) (drop (i + n) (take to text)) ≡ whole
    steps zero l = let same : i + 0 ≡ i = omega arith in subst (λ k. first_where (λ c. test c.1) k (drop k (take to text)) ≡ whole) (sym same) e
    steps (suc n) l =
        let next : i + suc n ≡ (i + n) + 1 = omega arith in
        subst (λ k. first_where (λ c. test c.1) k (drop k (take to text)) ≡ whole) (sym next) (step (i + n) (omega arith) (omega arith) (steps n (omega arith)))

-- the values of a property, by way of the sets
by_sets : {A : Type 0} (f : PropSet → A) (text : List Cell) → map f (map (λ c. c.1) text) ≡ map (λ c. f c.1) text
by_sets f [] = refl
by_sets f (c ∷ text) = ap (λ xs. f c.1 ∷ xs) (by_sets f text)

pub same_changes : (name : Option ℕ) (text : List Cell) → changes_of name (sets_in text) ≡ changes_in name text
same_changes None text = refl
same_changes (Some name) text = ap (changes (same_option same_value)) (by_sets (λ s. get s name) text)

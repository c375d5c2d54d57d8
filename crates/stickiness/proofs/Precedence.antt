-- What is inherited, property by property.
use Rattle.std.proofs.Common.{◌≡◌, ℕ, ◌+◌, Bool, true, false, ◌&&◌, ◌||◌, ◌==◌, not, [], ◌∷◌, Option, Some, None, refl, ap, sym, ◌∙◌, arith}
use Rattle.std.specs.Prelude.{filter, if◌then◌else◌, IfSome}
use Rattle.std.specs.Option.{option_or}
use Rattle.std.proofs.lemmas.Bool.{eqb-true}
use Rattle.text_model.specs.Properties.{PropVal, PropSet, get, put_all, with_value}
use Rattle.text_model.specs.Ordered.{Rising, IsOrdered}
use Rattle.text_model.specs.Sticky.{names, is_stickiness, front_sticky, rear_nonsticky, offered_by_before, offered_by_after, inherited}
use Rattle.text_model.proofs.Sets.{get-with_value, get_below}
use Rattle.stickiness.proofs.Steps.{rising-filter}

-- the last set that is put in comes first
put_over : (low : ℕ) (set more : PropSet) (name : ℕ) → Rising low more → get (put_all set more) name ≡ option_or (get more name) (get set name)
put_over low set [] name r = refl
put_over low set (p ∷ more) name r =
    put_over (p.0 + 1) (with_value set p.0 p.1) more name r.1 ∙ ap (option_or (get more name)) (get-with_value set p.0 p.1 name) ∙ by_name (p.0 == name) refl
  where
    by_name : (t : Bool) → (p.0 == name) ≡ t → option_or (get more name) (if t then Some p.1 else get set name) ≡ option_or (if t then Some p.1 else get more name) (get set name)
    by_name true e =
        let same : p.0 ≡ name = eqb-true p.0 name e in
        let none : get more name ≡ None = get_below (p.0 + 1) more name r.1 (omega arith) in
        rw none refl
    by_name false e = refl

none_either_way : (t : Bool) → ◌≡◌ {A = Option PropVal} None (if t then None else None)
none_either_way true = refl
none_either_way false = refl

pub get_kept : (test : ℕ → Bool) (set : PropSet) (name : ℕ) → get (filter (λ p. test p.0) set) name ≡ (if test name then get set name else None)
get_kept test [] name = none_either_way (test name)
get_kept test (p ∷ set) name = by_name (p.0 == name) refl (get_kept test set name)
  where
    by_name : (t : Bool) → (p.0 == name) ≡ t → get (filter (λ p. test p.0) set) name ≡ (if test name then get set name else None) → get (filter (λ p. test p.0) (p ∷ set)) name ≡ (if test name then (if t then Some p.1 else get set name) else None)
    by_name true e ih = by_test (test p.0) refl
      where
        same : p.0 ≡ name
        same = eqb-true p.0 name e

        by_test : (u : Bool) → test p.0 ≡ u → get (filter (λ p. test p.0) (p ∷ set)) name ≡ (if test name then Some p.1 else None)
        by_test true k = let other : test name ≡ true = ap test (sym same) ∙ k in rw (k, other, e) refl
        by_test false k = let other : test name ≡ false = ap test (sym same) ∙ k in rw (k, other) (ih ∙ ap (λ t. if t then get set name else None) other)
    by_name false e ih = by_test (test p.0) refl
      where
        by_test : (u : Bool) → test p.0 ≡ u → get (filter (λ p. test p.0) (p ∷ set)) name ≡ (if test name then get set name else None)
        by_test true k = rw (k, e) ih
        by_test false k = rw k ih

withheld : (s n : Bool) (v : Option PropVal) → (if not s && not n then v else None) ≡ (if s || n then None else v)
withheld true n v = refl
withheld false true v = refl
withheld false false v = refl

pub offered_before : (set : PropSet) (name : ℕ) → get (offered_by_before (Some set)) name ≡ (if is_stickiness name || names (get set rear_nonsticky) name then None else get set name)
offered_before set name = get_kept (λ n. not (is_stickiness n) && not (names (get set rear_nonsticky) n)) set name ∙ withheld (is_stickiness name) (names (get set rear_nonsticky) name) (get set name)

pub offered_after : (set : PropSet) (name : ℕ) → get (offered_by_after (Some set)) name ≡ (if not (is_stickiness name) && names (get set front_sticky) name then get set name else None)
offered_after set name = get_kept (λ n. not (is_stickiness n) && names (get set front_sticky) n) set name

pub the_first_offered : (before after : Option PropSet) (name : ℕ) → IfSome before IsOrdered → get (inherited before after) name ≡ option_or (get (offered_by_before before) name) (get (offered_by_after after) name)
the_first_offered None after name h = refl
the_first_offered (Some set) after name h =
    put_over 0 (offered_by_after after) (offered_by_before (Some set)) name (rising-filter (λ p. not (is_stickiness p.0) && not (names (get set rear_nonsticky) p.0)) 0 set h)

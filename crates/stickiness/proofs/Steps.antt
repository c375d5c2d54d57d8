-- Properties put into a set one after the other.
use Rattle.std.proofs.Common.{◌≡◌, ℕ, ◌+◌, ◌≤◌, ◌<◌, Bool, true, false, [], ◌∷◌, drop, refl, ap, sym, ◌∙◌, ◌++◌, append-nil, append_assoc, arith}
use Rattle.std.specs.Prelude.{filter, slice_get, Some}
use Rattle.std.proofs.lemmas.Bool.{lt-ltb}
use Rattle.text_model.specs.Properties.{PropVal, PropSet, put, put_all, with_value, given}
use Rattle.text_model.specs.Ordered.{Rising, IsOrdered, IsProper}
use Rattle.text_model.proofs.Sets.{rising_less, given_value, value_at}
use Rattle.text_model.proofs.Lists.{drop_at}
use Rattle.text_model.proofs.Cases.{by_test, if_true}

-- one more is put in
pub one_put : (test : ℕ × PropVal → Bool) (set onto s : PropSet) (i name : ℕ) (v : PropVal) → IsProper set → slice_get set i ≡ Some (name, v) → test (name, v) ≡ true → s ≡ put onto name (given v) →
    put_all s (filter test (drop (i + 1) set)) ≡ put_all onto (filter test (drop i set))
one_put test set onto s i name v h at passes e =
    let found : put onto name (given v) ≡ with_value onto name v = ap (put onto name) (given_value v (value_at set i (name, v) h.values at)) in
    rw (drop_at set i (name, v) at, passes) (ap (λ t. put_all t (filter test (drop (i + 1) set))) (e ∙ found))

-- one more is left out
pub one_left_out : (test : ℕ × PropVal → Bool) (set onto : PropSet) (i name : ℕ) (v : PropVal) → slice_get set i ≡ Some (name, v) → test (name, v) ≡ false →
    put_all onto (filter test (drop (i + 1) set)) ≡ put_all onto (filter test (drop i set))
one_left_out test set onto i name v at fails = rw (drop_at set i (name, v) at, fails) refl

-- IN THEIR ORDER
abbrev AreBelow : (name : ℕ) → PropSet → Type 0
AreBelow name [] = Unit {0}
AreBelow name (p ∷ set) = (p.0 < name) × AreBelow name set

below_more : (low high : ℕ) (set : PropSet) → low ≤ high → AreBelow low set → AreBelow high set
below_more low high [] h k = tt
below_more low high (p ∷ set) h k = (omega arith, below_more low high set h k.1)

below_push : (name : ℕ) (set : PropSet) (p : ℕ × PropVal) → AreBelow name set → p.0 < name → AreBelow name (set ++ p ∷ [])
below_push name [] p h k = (k, tt)
below_push name (q ∷ set) p h k = (h.0, below_push name set p h.1 k)

last_put : (set : PropSet) (name : ℕ) (v : PropVal) → AreBelow name set → with_value set name v ≡ set ++ (name, v) ∷ []
last_put [] name v h = refl
last_put (p ∷ set) name v h = if_true _ (lt-ltb p.0 name h.0) ∙ ap (λ s. p ∷ s) (last_put set name v h.1)

put_behind : (low : ℕ) (set more : PropSet) → AreBelow low set → Rising low more → put_all set more ≡ set ++ more
put_behind low set [] h r = sym (append-nil set)
put_behind low set (p ∷ more) h r =
    let below : AreBelow p.0 set = below_more low p.0 set r.0 h in
    ap (λ s. put_all s more) (last_put set p.0 p.1 below)
    ∙ put_behind (p.0 + 1) (set ++ p ∷ []) more (below_push (p.0 + 1) set p (below_more p.0 (p.0 + 1) set (omega arith) below) (omega arith)) r.1
    ∙ append_assoc set (p ∷ []) more

pub rising-filter : (test : ℕ × PropVal → Bool) (low : ℕ) (set : PropSet) → Rising low set → Rising low (filter test set)
rising-filter test low [] r = tt
rising-filter test low (p ∷ set) r = by_test (λ s. Rising low s) (test p) (p ∷ filter test set) (filter test set)
    (λ h. (r.0, rising-filter test (p.0 + 1) set r.1))
    (λ h. rising_less low (p.0 + 1) (filter test set) (omega arith) (rising-filter test (p.0 + 1) set r.1))

-- what a set in order offers, put into the empty set, is that list
pub put_into_empty : (test : ℕ × PropVal → Bool) (set : PropSet) → IsOrdered set → put_all [] (filter test set) ≡ filter test set
put_into_empty test set r = put_behind 0 [] (filter test set) tt (rising-filter test 0 set r)

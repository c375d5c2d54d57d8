-- Where the pending records begin.
use Rattle.std.proofs.Common.{◌≡◌, ℕ, zero, suc, ◌≤◌, ◌<◌, Bool, true, false, List, [], ◌∷◌, length, map, drop, filter, get_or, refl, ap, sym, ◌∙◌, arith}
use Rattle.std.specs.Prelude.{nat_lt, nat_le}
use Rattle.std.specs.List.{AllWithin}
use Rattle.std.specs.List.Sorted.{IsPartitionedBy}
use Rattle.std.proofs.lemmas.Bool.{leb-true, leb-false, le-leb, lt-ltb, le-ltb}
use Rattle.text_model.proofs.Cases.{if_true, if_false}
use Rattle.undo_list.specs.Records.{AreFalling, entry_of}
use Rattle.undo_list.specs.declared.records.Entry.{Entry}

under : (bound : ℕ) (xs : List Entry) (k : ℕ) (d : Entry) → AreFalling bound (map entry_of xs) → k < length xs → (get_or xs k d).serial < bound
under bound [] k d f h = absurd (omega arith)
under bound (x ∷ xs) zero d f h = f.0
under bound (x ∷ xs) (suc k) d f h = let l : (get_or xs k d).serial < x.serial = under x.serial xs k d f.1 (omega arith) in let m : x.serial < bound = f.0 in omega arith

falls : (bound : ℕ) (xs : List Entry) (i j : ℕ) (d : Entry) → AreFalling bound (map entry_of xs) → i ≤ j → j < length xs → (get_or xs j d).serial ≤ (get_or xs i d).serial
falls bound [] i j d f h k = absurd (omega arith)
falls bound (x ∷ xs) zero zero d f h k = omega arith
falls bound (x ∷ xs) zero (suc j) d f h k = let l : (get_or xs j d).serial < x.serial = under x.serial xs j d f.1 (omega arith) in omega arith
falls bound (x ∷ xs) (suc i) zero d f h k = absurd (omega arith)
falls bound (x ∷ xs) (suc i) (suc j) d f h k = falls x.serial xs i j d f.1 (omega arith) (omega arith)

-- whether an entry isn't pending
abbrev pub is_newer : ℕ → Entry → Bool
is_newer below e = nat_le below e.serial

pub newer_first : (below bound : ℕ) (xs : List Entry) → AreFalling bound (map entry_of xs) → IsPartitionedBy (is_newer below) xs
newer_first below bound xs f = λ i j d h k t. let l : below ≤ (get_or xs j d).serial = leb-true _ _ t in let m : (get_or xs j d).serial ≤ (get_or xs i d).serial = falls bound xs i j d f h k in le-leb _ _ (omega arith)

-- the entries from that point on
pub from_point : (below : ℕ) (xs : List Entry) (i : ℕ) → AllWithin (λ y. is_newer below y ≡ true) xs 0 i → AllWithin (λ y. is_newer below y ≡ false) xs i (length xs) → i ≤ length xs →
    drop i (map entry_of xs) ≡ filter (λ e. nat_lt e.serial below) (map entry_of xs)
from_point below [] zero a b h = refl
from_point below [] (suc i) a b h = refl
from_point below (x ∷ xs) zero a b h =
    let l : x.serial < below = leb-false _ _ (b 0 x (omega arith) (omega arith)) in
    ap (λ es. entry_of x ∷ es) (from_point below xs zero (λ k d p q. absurd (omega arith)) (λ k d p q. b (suc k) d (omega arith) (omega arith)) (omega arith)) ∙ sym (if_true _ (lt-ltb x.serial below l))
from_point below (x ∷ xs) (suc i) a b h =
    let l : below ≤ x.serial = leb-true _ _ (a 0 x (omega arith) (omega arith)) in
    from_point below xs i (λ k d p q. a (suc k) d (omega arith) (omega arith)) (λ k d p q. b (suc k) d (omega arith) (omega arith)) (omega arith) ∙ sym (if_false _ (le-ltb x.serial below l))

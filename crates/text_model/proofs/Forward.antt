-- Of two places in order the first doesn't pass the second, whatever change of the text they move with.
use Rattle.std.proofs.Common.{◌≡◌, ℕ, ◌+◌, ◌-◌, ◌<◌, ◌≤◌, Bool, true, false, nat_lt, nat_le, refl, arith, if◌then◌else◌}
use Rattle.std.proofs.lemmas.Bool.{ltb-true, ltb-false, leb-true, leb-false}
use Rattle.text_model.specs.Places.{after_insert, after_delete}

grows : (at n : ℕ) (y : Bool) (p : ℕ) → p ≤ after_insert at n y p
grows at n y p = by_tests (nat_lt p at) (nat_lt at p) y refl refl
  where
    by_tests : (s t y : Bool) → nat_lt p at ≡ s → nat_lt at p ≡ t → p ≤ (if s then p else (if t then p + n else (if y then at + n else p)))
    by_tests true t y h k = omega arith
    by_tests false true y h k = omega arith
    by_tests false false true h k = let upto : p ≤ at = ltb-false at p k in omega arith
    by_tests false false false h k = omega arith

-- the first advances alone only where they differ
pub forward_insert : (at n a b : ℕ) (x y : Bool) → a ≤ b → (a ≡ b → x ≡ true → y ≡ true) → after_insert at n x a ≤ after_insert at n y b
forward_insert at n a b x y low apart = by_tests (nat_lt a at) (nat_lt at a) x refl refl refl
  where
    behind : at < b → b + n ≤ after_insert at n y b
    behind h = by_test (nat_lt b at) (nat_lt at b) refl refl
      where
        by_test : (s t : Bool) → nat_lt b at ≡ s → nat_lt at b ≡ t → b + n ≤ (if s then b else (if t then b + n else (if y then at + n else b)))
        by_test true t p q = let other : b < at = ltb-true b at p in omega arith
        by_test false true p q = omega arith
        by_test false false p q = let other : b ≤ at = ltb-false at b q in omega arith

    just_there : at ≡ b → y ≡ true → at + n ≤ after_insert at n y b
    just_there h k = by_test (nat_lt b at) (nat_lt at b) y refl refl k
      where
        by_test : (s t y : Bool) → nat_lt b at ≡ s → nat_lt at b ≡ t → y ≡ true → at + n ≤ (if s then b else (if t then b + n else (if y then at + n else b)))
        by_test true t y p q k = let other : b < at = ltb-true b at p in omega arith
        by_test false true y p q k = let other : at < b = ltb-true at b q in omega arith
        by_test false false true p q k = omega arith
        by_test false false false p q k = cc

    by_place : (t : Bool) → nat_lt at b ≡ t → a ≡ at → x ≡ true → at + n ≤ after_insert at n y b
    by_place true p e k = let over : at < b = ltb-true at b p in let more : b + n ≤ after_insert at n y b = behind over in omega arith
    by_place false p e k =
        let upto : b ≤ at = ltb-false at b p in
        let same : a ≡ b = omega arith in
        just_there (omega arith) (apart same k)

    by_tests : (s t v : Bool) → nat_lt a at ≡ s → nat_lt at a ≡ t → x ≡ v → (if s then a else (if t then a + n else (if v then at + n else a))) ≤ after_insert at n y b
    by_tests true t v h k e = let more : b ≤ after_insert at n y b = grows at n y b in omega arith
    by_tests false true v h k e =
        let over : at < a = ltb-true at a k in
        let more : b + n ≤ after_insert at n y b = behind (omega arith) in
        omega arith
    by_tests false false false h k e = let more : b ≤ after_insert at n y b = grows at n y b in omega arith
    by_tests false false true h k e =
        let from : at ≤ a = ltb-false a at h in
        let upto : a ≤ at = ltb-false at a k in
        by_place (nat_lt at b) refl (omega arith) e

pub forward_delete : (from to a b : ℕ) → from ≤ to → a ≤ b → after_delete from to a ≤ after_delete from to b
forward_delete from to a b h low = by_tests (nat_le a from) (nat_lt a to) (nat_le b from) (nat_lt b to) refl refl refl refl
  where
    by_tests : (s t u v : Bool) → nat_le a from ≡ s → nat_lt a to ≡ t → nat_le b from ≡ u → nat_lt b to ≡ v → (if s then a else (if t then from else a - (to - from))) ≤ (if u then b else (if v then from else b - (to - from)))
    by_tests true t true v p q r w = omega arith
    by_tests true t false true p q r w = let first : a ≤ from = leb-true a from p in omega arith
    by_tests true t false false p q r w = let first : a ≤ from = leb-true a from p in let last : to ≤ b = ltb-false b to w in omega arith
    by_tests false t true v p q r w = let first : from < a = leb-false a from p in let last : b ≤ from = leb-true b from r in omega arith
    by_tests false true false true p q r w = omega arith
    by_tests false true false false p q r w = let last : to ≤ b = ltb-false b to w in omega arith
    by_tests false false false true p q r w = let first : to ≤ a = ltb-false a to q in let last : b < to = ltb-true b to w in omega arith
    by_tests false false false false p q r w = omega arith

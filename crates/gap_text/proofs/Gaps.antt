-- A gap that moves among cells.
use Rattle.std.proofs.Common.{take-add, ◌≡◌, ℕ, ◌+◌, ◌-◌, ◌≤◌, List, ◌++◌, length, take, drop, refl, sym, ap, ◌∙◌, arith, append_assoc}
use lib.Seq.{paste, take-append-add}
use Rattle.std.proofs.lemmas.List.{take_at, drop_at, take-take, take-append-le, take-append-drop, drop-append-le, drop-take, drop-drop, length-take-le, length-drop}
use Rattle.std.proofs.lemmas.List.Edits.{take-paste, drop-paste}
use Rattle.gap_text.specs.Text.{without_gap}

-- the cells before the gap go behind it
pub gap_moves_left : (found : List ℕ) (p s n : ℕ) → p + n + s ≤ length found
    → without_gap p s (paste found (p + s) (drop p found) n) ≡ without_gap (p + n) s found
gap_moves_left found p s n h =
    let on : p + s + n ≡ p + n + s = omega arith in
    let enough : length (drop p found) ≡ length found - p = length-drop p found in
    let head : length (take (p + s) found) ≡ p + s = length-take-le (p + s) found (omega arith) in
    let front : take p (take (p + s) found ++ take n (drop p found) ++ drop (p + s + n) found) ≡ take p found
    = ap (take p) (append_assoc (take (p + s) found) (take n (drop p found)) (drop (p + s + n) found))
    ∙ take-append-le p (take (p + s) found) (take n (drop p found) ++ drop (p + s + n) found) (omega arith)
    ∙ take-take p (p + s) found (omega arith) in
    let back : drop (p + s) (take (p + s) found ++ take n (drop p found) ++ drop (p + s + n) found) ≡ take n (drop p found) ++ drop (p + s + n) found
    = ap (drop (p + s)) (append_assoc (take (p + s) found) (take n (drop p found)) (drop (p + s + n) found))
    ∙ drop_at (take (p + s) found) (take n (drop p found) ++ drop (p + s + n) found) (p + s) head in
    rw (front, back, take-add p n found, on) (sym (append_assoc (take p found) (take n (drop p found)) (drop (p + n + s) found)))

-- the cells behind the gap go before it
pub gap_moves_right : (found : List ℕ) (p s n : ℕ) → p + s + n ≤ length found
    → without_gap (p + n) s (paste found p (drop (p + s) found) n) ≡ without_gap p s found
gap_moves_right found p s n h =
    let on : p + n + s ≡ p + s + n = omega arith in
    let enough : length (drop (p + s) found) ≡ length found - (p + s) = length-drop (p + s) found in
    let front : take (p + n) (paste found p (drop (p + s) found) n) ≡ take p found ++ take n (drop (p + s) found)
    = take-paste found p (drop (p + s) found) n (omega arith) (omega arith) in
    let back : drop (p + n + s) (paste found p (drop (p + s) found) n) ≡ drop n (drop (p + s) found)
    = sym (drop-drop s (p + n) (paste found p (drop (p + s) found) n))
    ∙ ap (drop s) (drop-paste found p (drop (p + s) found) n (omega arith) (omega arith))
    ∙ drop-drop s (p + n) found ∙ ap (λ k. drop k found) on ∙ sym (drop-drop n (p + s) found) in
    rw (front, back) (append_assoc (take p found) (take n (drop (p + s) found)) (drop n (drop (p + s) found))
    ∙ ap (λ xs. take p found ++ xs) (take-append-drop n (drop (p + s) found)))

pub drop_over : (xs ys : List ℕ) (p k : ℕ) → length xs ≡ p → drop (p + k) (xs ++ ys) ≡ drop k ys
drop_over xs ys p k n = sym (drop-drop k p (xs ++ ys)) ∙ ap (λ l. drop k l) (drop_at xs ys p n)

pub drop_past : (xs ys : List ℕ) (p to : ℕ) → length xs ≡ p → p ≤ to → drop to (xs ++ ys) ≡ drop (to - p) ys
drop_past xs ys p to n k =
    let e : to ≡ p + (to - p) = omega arith in
    ap (λ n. drop n (xs ++ ys)) e ∙ drop_over xs ys p (to - p) n

pub take_past : (xs ys : List ℕ) (p to : ℕ) → length xs ≡ p → p ≤ to → take to (xs ++ ys) ≡ xs ++ take (to - p) ys
take_past xs ys p to n k =
    let e : to ≡ length xs + (to - p) = omega arith in
    ap (λ m. take m (xs ++ ys)) e ∙ take-append-add xs ys (to - p)

same_end : (p s to : ℕ) → p ≤ to → p + s + (to - p) ≡ to + s
same_end p s to k = omega arith

-- a gap that takes the characters on both its sides into itself
pub gap_widens : (found : List ℕ) (p s from to : ℕ) → from ≤ p → p ≤ to → to + s ≤ length found
    → without_gap from (s + (to - from)) found ≡ take from (without_gap p s found) ++ drop to (without_gap p s found)
gap_widens found p s from to h k l =
    let n : length (take p found) ≡ p = length-take-le p found (omega arith) in
    let a : take from (take p found ++ drop (p + s) found) ≡ take from (take p found) = take-append-le from (take p found) (drop (p + s) found) (omega arith) in
    let b : take from (take p found) ≡ take from found = take-take from p found h in
    let d : drop to (take p found ++ drop (p + s) found) ≡ drop (to + s) found = drop_past (take p found) (drop (p + s) found) p to n k ∙ drop-drop (to - p) (p + s) found ∙ ap (λ k. drop k found) (same_end p s to k) in
    let m : from + (s + (to - from)) ≡ to + s = omega arith in
    rw (a, b, d, m) refl

-- cells that are put at the start of the gap are more of the gap
pub gap_grows : (front added back : List ℕ) (p s m : ℕ) → length front ≡ p → length added ≡ m
    → without_gap p (s + m) (front ++ (added ++ back)) ≡ without_gap p s (front ++ back)
gap_grows front added back p s m n k =
    let turn : s + m ≡ m + s = omega arith in
    let new_front : take p (front ++ (added ++ back)) ≡ front = take_at front (added ++ back) p n in
    let old_front : take p (front ++ back) ≡ front = take_at front back p n in
    let new_back : drop (p + (m + s)) (front ++ (added ++ back)) ≡ drop s back = drop_over front (added ++ back) p (m + s) n ∙ drop_over added back m s k in
    let old_back : drop (p + s) (front ++ back) ≡ drop s back = drop_over front back p s n in
    rw (turn, new_front, old_front, new_back, old_back) refl

-- a part in front of the gap
pub part_before_gap : (found : List ℕ) (p s at n : ℕ) → p + s ≤ length found → at + n ≤ p → take n (drop at (without_gap p s found)) ≡ take n (drop at found)
part_before_gap found p s at n h k =
    let size : length (take p found) ≡ p = length-take-le p found (omega arith) in
    let left : length (drop at (take p found)) ≡ length (take p found) - at = length-drop at (take p found) in
    let on : p ≡ at + (p - at) = omega arith in
    ap (take n) (drop-append-le at (take p found) (drop (p + s) found) (omega arith))
    ∙ take-append-le n (drop at (take p found)) (drop (p + s) found) (omega arith)
    ∙ ap (λ m. take n (drop at (take m found))) on
    ∙ ap (take n) (drop-take at (p - at) found)
    ∙ take-take n (p - at) (drop at found) (omega arith)

-- and what stands behind it
pub rest_behind_gap : (found : List ℕ) (p s at : ℕ) → p + s ≤ length found → p ≤ at → drop at (without_gap p s found) ≡ drop (at + s) found
rest_behind_gap found p s at h k =
    let size : length (take p found) ≡ p = length-take-le p found (omega arith) in
    drop_past (take p found) (drop (p + s) found) p at size k ∙ drop-drop (at - p) (p + s) found ∙ ap (λ n. drop n found) (same_end p s at k)

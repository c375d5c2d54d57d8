-- The output of the drill's child, line by line, and its pieces.
use Rattle.std.proofs.Common.{◌≡◌, ℕ, zero, suc, ◌+◌, ◌-◌, ◌%◌, ◌<◌, ◌≤◌, min, List, [], ◌∷◌, ◌++◌, length, take, drop, map, refl, sym, ap, ◌∙◌, append_assoc, arith}
use Rattle.std.specs.Ordering.{ord_min, nat_cmp}
use Rattle.std.proofs.lemmas.Bool.Decides.{nat_tests}
use Rattle.std.specs.Prelude.{decimal, Bool, true, false, ◌==◌}
use Rattle.std.proofs.lemmas.List.{length-append, length-drop, drop-drop, take_min, drop_min, map-append}
use Rattle.plain_machine.specs.Exchanges.{Answer, Bytes}
use Rattle.plain_machine.specs.Drill.{output_from, pieces}
use Rattle.ek_types.specs.Listing.{items_of}
use Rattle.ek_types.specs.declared.list.ListOf.{ListOf}
use Rattle.host_link.specs.Meaning.{answer_of}
use Rattle.host_link.specs.declared.asking.Answer as declared

-- LINES
abbrev pub letter : List ℕ
letter = 0xC3 ∷ 0xA9 ∷ 32 ∷ []

first_line : (k lines : ℕ) → k < lines → output_from k (lines - k) ≡ letter ++ (decimal k ++ 10 ∷ output_from (k + 1) (lines - (k + 1)))
first_line k lines less = let e : lines - k ≡ suc (lines - (k + 1)) = omega arith in rw e refl

-- one line more is put behind others
pub line_more : (k lines : ℕ) (all output : List ℕ) → k < lines → all ++ output_from k (lines - k) ≡ output → (((all ++ letter) ++ decimal k) ++ 10 ∷ []) ++ output_from (k + 1) (lines - (k + 1)) ≡ output
line_more k lines all output less so_far =
    let rest : List ℕ = output_from (k + 1) (lines - (k + 1)) in
    append_assoc ((all ++ letter) ++ decimal k) (10 ∷ []) rest ∙ append_assoc (all ++ letter) (decimal k) (10 ∷ rest) ∙ append_assoc all letter (decimal k ++ 10 ∷ rest) ∙
    ap (λ l. all ++ l) (sym (first_line k lines less)) ∙ so_far

-- one line more takes its number and four bytes
pub line_longer : (k lines : ℕ) → k < lines → length (output_from k (lines - k)) ≡ length (decimal k) + 4 + length (output_from (k + 1) (lines - (k + 1)))
line_longer k lines less =
    let rest : List ℕ = output_from (k + 1) (lines - (k + 1)) in
    ap length (first_line k lines less) ∙ rw (length-append (decimal k) (10 ∷ rest)) (omega arith)

-- PIECES
-- the lesser of two numbers, as the code has it
pub lesser_is : (a b : ℕ) → ord_min nat_cmp a b ≡ min a b
lesser_is a b = grind (arith, nat_tests)

-- the number of turns doesn't matter, where there are enough
enough : (a b size : ℕ) (bytes : List ℕ) → length bytes ≤ a → length bytes ≤ b → 1 ≤ size → pieces a size bytes ≡ pieces b size bytes
enough zero zero size bytes h k p = refl
enough zero (suc b) size [] h k p = refl
enough zero (suc b) size (x ∷ bytes) h k p = absurd (omega (arith, h))
enough (suc a) zero size [] h k p = refl
enough (suc a) zero size (x ∷ bytes) h k p = absurd (omega (arith, k))
enough (suc a) (suc b) size [] h k p = refl
enough (suc a) (suc b) size (x ∷ bytes) h k p =
    ap (λ l. take size (x ∷ bytes) ∷ l) (enough a b (size % 7 + 1) (drop size (x ∷ bytes)) (omega (arith, h, p, length-drop size (x ∷ bytes))) (omega (arith, k, p, length-drop size (x ∷ bytes))) (omega arith))

first_piece : (size : ℕ) (bytes : List ℕ) → 1 ≤ size → 1 ≤ length bytes → pieces (length bytes) size bytes ≡ take size bytes ∷ pieces (length (drop size bytes)) (size % 7 + 1) (drop size bytes)
first_piece size [] p some = absurd (omega (arith, some))
first_piece size (x ∷ bytes) p some =
    let rest : List ℕ = drop size (x ∷ bytes) in
    ap (λ l. take size (x ∷ bytes) ∷ l) (enough (length bytes) (length rest) (size % 7 + 1) rest (omega (arith, p, length-drop size (x ∷ bytes))) (omega arith) (omega arith))

-- one piece more is put behind others
piece_more : (size : ℕ) (left : List ℕ) (given all : List Answer) → 1 ≤ size → 1 ≤ length left → given ++ map Bytes (pieces (length left) size left) ≡ all →
    let n : ℕ = min size (length left) in (given ++ Bytes (take n left) ∷ []) ++ map Bytes (pieces (length (drop n left)) (size % 7 + 1) (drop n left)) ≡ all
piece_more size left given all p some so_far =
    rw (take_min size left, drop_min size left)
    (append_assoc given (Bytes (take size left) ∷ []) (map Bytes (pieces (length (drop size left)) (size % 7 + 1) (drop size left))) ∙ ap (λ l. given ++ map Bytes l) (sym (first_piece size left p some)) ∙ so_far)

-- one piece fewer is counted, where what it takes is gone from what is left
pub piece_fewer : (size n left bytes : ℕ) (output : List ℕ) → 1 ≤ size → 1 ≤ left → left ≤ bytes → bytes ≡ length output → n ≡ min size left →
    length (pieces left size (drop (bytes - left) output)) ≡ suc (length (pieces (left - n) (size % 7 + 1) (drop (bytes - (left - n)) output)))
piece_fewer size n left bytes output p some within long few =
    let rest : List ℕ = drop (bytes - left) output in
    let remains : length rest ≡ left = omega (arith, length-drop (bytes - left) output) in
    let first : length (pieces (length rest) size rest) ≡ suc (length (pieces (length (drop size rest)) (size % 7 + 1) (drop size rest))) = ap length (first_piece size rest p (omega arith)) in
    let behind : drop (bytes - (left - n)) output ≡ drop size rest =
    ap (λ i. drop i output) (omega arith) ∙ sym (drop-drop n (bytes - left) output) ∙ ap (λ i. drop i rest) (few ∙ ap (min size) (sym remains)) ∙ drop_min size rest in
    let less : left - n ≡ length (drop size rest) = omega (arith, length-drop size rest) in
    ap (λ i. length (pieces i size rest)) (sym remains) ∙ first ∙ rw (behind, less) refl

pub read_more : (size n : ℕ) (left front back : List ℕ) (old new : ListOf declared.Answer) (x : declared.Answer) (all : List Answer) →
    n ≡ min size (length left) → front ≡ take n left → back ≡ drop n left → answer_of x ≡ Bytes front → items_of new ≡ items_of old ++ x ∷ [] → 1 ≤ size → 1 ≤ length left →
    map answer_of (items_of old) ++ map Bytes (pieces (length left) size left) ≡ all → map answer_of (items_of new) ++ map Bytes (pieces (length back) (size % 7 + 1) back) ≡ all
read_more size n left front back old new x all few at_front at_back is more p some so_far =
    let given : map answer_of (items_of new) ≡ map answer_of (items_of old) ++ Bytes (take n left) ∷ [] = ap (map answer_of) more ∙ map-append answer_of (items_of old) (x ∷ []) ∙ ap (λ a. map answer_of (items_of old) ++ a ∷ []) (is ∙ ap Bytes at_front) in
    rw (given, at_back, few) (piece_more size left (map answer_of (items_of old)) all p some so_far)

pub is_some : (n : ℕ) (b : Bool) → b ≡ (n == 0) → b ≡ false → 1 ≤ n
is_some zero b e h = absurd (let no : true ≡ false = sym e ∙ h in cc)
is_some (suc n) b e h = omega arith

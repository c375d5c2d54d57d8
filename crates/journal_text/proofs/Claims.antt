-- Claimed lines, written and read.
use Rattle.std.proofs.Common.{◌≡◌, ℕ, ◌^◌, ◌<◌, ◌≤◌, List, [], ◌∷◌, ◌++◌, length, take, drop, Some, None, refl, ap, sym, subst, ◌∙◌, arith, append_assoc, codes, decimal, take-append-drop}
use Rattle.std.specs.Prelude.{nat_le, if◌then◌else◌}
use Rattle.std.proofs.lemmas.Bool.{leb-true, le-leb}
use Rattle.std.proofs.lemmas.List.{length-append, length-take-le, take_at, drop_at}
use Rattle.text_model.specs.Options.{◌>>=◌}
use Rattle.journal_text.specs.Lines.{claim}
use Rattle.journal_text.specs.Reading.{behind, number_at, then_end, counted_off, claim_at}
use Rattle.journal_text.proofs.Finding.{behind_is, bound, same_some, tested}
use Rattle.journal_text.proofs.Numbers.{number_there, number_found}
use Rattle.journal_text.proofs.Journals.{IsNoLine}

shape : (claimed rest : List ℕ) → claim claimed ++ rest ≡ codes "lines " ++ (decimal (length claimed) ++ 10 ∷ (claimed ++ rest))
shape claimed rest = ap (λ l. codes "lines " ++ l) (append_assoc (decimal (length claimed)) (10 ∷ claimed) rest)

-- the line in front of claimed lines
abbrev pub head : List ℕ → List ℕ
head claimed = codes "lines " ++ (decimal (length claimed) ++ 10 ∷ [])

pub headed : (claimed rest : List ℕ) → claim claimed ++ rest ≡ head claimed ++ (claimed ++ rest)
headed claimed rest = shape claimed rest ∙ ap (λ l. codes "lines " ++ l) (sym (append_assoc (decimal (length claimed)) (10 ∷ []) (claimed ++ rest)))

-- no line of an exchange begins so
pub claim_is_no_line : (claimed rest : List ℕ) → IsNoLine (claim claimed ++ rest)
claim_is_no_line claimed rest next = refl

-- WHAT IS WRITTEN IS READ
counted_there : (claimed rest : List ℕ) → counted_off (length claimed, claimed ++ rest) ≡ Some (claimed, rest)
counted_there claimed rest =
    let n = length claimed in
    let tail = claimed ++ rest in
    ap (λ t. if t then Some (take n tail, drop n tail) else None) (le-leb n (length tail) (omega (arith, length-append claimed rest)))
    ∙ ap (λ l. Some (l, drop n tail)) (take_at claimed rest n refl)
    ∙ ap (λ l. Some (claimed, l)) (drop_at claimed rest n refl)

pub claim_there : (claimed rest : List ℕ) → length claimed < 2 ^ 32 → claim_at (claim claimed ++ rest) ≡ Some (claimed, rest)
claim_there claimed rest small =
    ap claim_at (shape claimed rest)
    ∙ ap (λ o. o >>= (λ n. then_end n >>= counted_off)) (number_there (length claimed) 10 (claimed ++ rest) small refl)
    ∙ counted_there claimed rest

-- WHAT IS READ WAS WRITTEN
parted : (n : ℕ) (tail : List ℕ) → n ≤ length tail → codes "lines " ++ (decimal n ++ 10 ∷ tail) ≡ claim (take n tail) ++ drop n tail
parted n tail few =
    let long = length-take-le n tail few in
    ap (λ l. codes "lines " ++ (decimal n ++ 10 ∷ l)) (sym (take-append-drop n tail))
    ∙ ap (λ m. codes "lines " ++ (decimal m ++ 10 ∷ (take n tail ++ drop n tail))) (sym long)
    ∙ sym (shape (take n tail) (drop n tail))

pub claim_found : (bytes : List ℕ) (r : List ℕ × List ℕ) → claim_at bytes ≡ Some r → bytes ≡ claim r.0 ++ r.1
claim_found bytes r h =
    let one = bound (behind (codes "lines ") bytes) (λ rest. number_at rest >>= (λ n. then_end n >>= counted_off)) r h in
    let two = bound (number_at one.x) (λ n. then_end n >>= counted_off) r one.next in
    let three = bound (then_end two.x) counted_off r two.next in
    let ends = bound (behind (codes "\n") two.x.1) (λ rest. Some (two.x.0, rest)) three.x three.first in
    let number = number_found one.x two.x two.first in
    let same = same_some (two.x.0, ends.x) three.x ends.next in
    let off = tested (nat_le three.x.0 (length three.x.1)) (take three.x.0 three.x.1, drop three.x.0 three.x.1) r three.next in
    let few = subst (λ (t : ℕ × List ℕ). t.0 ≤ length t.1) (sym same) (leb-true three.x.0 (length three.x.1) off.0) in
    let whole : bytes ≡ codes "lines " ++ (decimal two.x.0 ++ 10 ∷ ends.x) =
    behind_is (codes "lines ") bytes one.x one.first ∙ ap (λ l. codes "lines " ++ l) (number.whole ∙ ap (λ l. decimal two.x.0 ++ l) (behind_is (codes "\n") two.x.1 ends.x ends.first)) in
    subst (λ (p : List ℕ × List ℕ). bytes ≡ claim p.0 ++ p.1) off.1
    (subst (λ (t : ℕ × List ℕ). bytes ≡ claim (take t.0 t.1) ++ drop t.0 t.1) same (whole ∙ parted two.x.0 ends.x few))

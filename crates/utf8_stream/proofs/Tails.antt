-- What tails are: short, without ASCII, and the tail of themselves.
use Rattle.std.proofs.Common.{◌≡◌, ℕ, zero, suc, ◌+◌, ◌<◌, ◌≤◌, Bool, true, false, nat_le, ◌&&◌, map, List, [], ◌∷◌, ◌++◌, length, drop, slice_index, refl, ap, sym, ◌∙◌, subst, arith}
use Rattle.std.proofs.lemmas.Bool.{and_parts}
use Rattle.std.proofs.lemmas.Bool.Decides.{nat_tests}
use Rattle.text_model.specs.Characters.{Raw}
use Rattle.text_model.specs.Decoding.{Range, range, within, Front, Whole, Part, Neither, longer, against, against_any, front, well_formed, following, characters_after, tail_after, characters, tail, all_characters}
use Rattle.text_model.proofs.Decodings.{characters-whole, characters-part, characters-neither, tail-whole, tail-part, tail-neither}

longer-part : (b : ℕ) (f : Front) → longer b f ≡ Part → f ≡ Part
longer-part b (Whole s) e = cc
longer-part b Part e = refl
longer-part b Neither e = cc

-- a row without ASCII
high : List Range → Bool
high [] = true
high (r ∷ row) = nat_le 0x80 r.low && high row

all_high : List (List Range) → Bool
all_high [] = true
all_high (row ∷ rows) = high row && all_high rows

within_low : (r : Range) (b : ℕ) → within r b ≡ true → r.low ≤ b
within_low r b t = grind (arith, nat_tests)

against_high : (row : List Range) (x : List ℕ) (i : ℕ) → high row ≡ true → against row x ≡ Part → i < length x → 0x80 ≤ slice_index x i
unfolding high
against_high [] x i t e h = cc
against_high (r ∷ row) [] i t e h = absurd (omega arith)
against_high (r ∷ row) (b ∷ x) i t e h =
    let both : (nat_le 0x80 r.low ≡ true) × (high row ≡ true) = and_parts _ _ t in
    let first : nat_le 0x80 r.low ≡ true = both.0 in
    let at_least : 0x80 ≤ r.low = grind (arith, nat_tests) in
    (elim (within r b) as (λ u. within r b ≡ u → elim u as (λ _. Front) [ true ↦ longer b (against row x) | false ↦ Neither ] ≡ Part → 0x80 ≤ slice_index (b ∷ x) i) [
      | true ↦ λ u e. (elim i as (λ i. i < length (b ∷ x) → 0x80 ≤ slice_index (b ∷ x) i) [
        | zero ↦ λ h. let k : r.low ≤ b = within_low r b u in omega arith
        | suc i ↦ λ h. against_high row x i both.1 (longer-part b (against row x) e) (omega arith)
      ]) h
      | false ↦ λ u e. cc
    ]) refl e

any_high : (rows : List (List Range)) (x : List ℕ) (i : ℕ) → all_high rows ≡ true → against_any rows x ≡ Part → i < length x → 0x80 ≤ slice_index x i
unfolding all_high
any_high [] x i t e h = cc
any_high (row ∷ rows) x i t e h =
    let both : (high row ≡ true) × (all_high rows ≡ true) = and_parts _ _ t in
    (elim (against row x) as (λ f. against row x ≡ f → elim f as (λ _. Front) [ Whole s ↦ Whole s | Part ↦ Part | Neither ↦ against_any rows x ] ≡ Part → 0x80 ≤ slice_index x i) [
      | Whole s ↦ λ f e. cc
      | Part ↦ λ f e. against_high row x i both.0 f h
      | Neither ↦ λ f e. any_high rows x i both.1 e h
    ]) refl e

-- the row of ASCII has no part but the empty one
not_ascii : (b : ℕ) (x : List ℕ) → front (b ∷ x) ≡ Part → against_any (drop 1 well_formed) (b ∷ x) ≡ Part
not_ascii b x e =
    (elim (within (range 0x00 0x7F) b) as (λ u. elim (elim u as (λ _. Front) [ true ↦ Whole (b ∷ []) | false ↦ Neither ]) as (λ _. Front) [ Whole s ↦ Whole s | Part ↦ Part | Neither ↦ against_any (drop 1 well_formed) (b ∷ x) ] ≡ Part → against_any (drop 1 well_formed) (b ∷ x) ≡ Part) [
      | true ↦ λ e. cc
      | false ↦ λ e. e
    ]) e

part_high : (b : ℕ) (x : List ℕ) (i : ℕ) → front (b ∷ x) ≡ Part → i < length (b ∷ x) → 0x80 ≤ slice_index (b ∷ x) i
unfolding all_high high
part_high b x i e h = any_high (drop 1 well_formed) (b ∷ x) i refl (not_ascii b x e) h

high_after : (skip : ℕ) (x : List ℕ) (i : ℕ) → i < length (tail_after skip x) → 0x80 ≤ slice_index (tail_after skip x) i
high_after skip [] i h = absurd (omega arith)
high_after (suc skip) (b ∷ x) i h = high_after skip x i h
high_after zero (b ∷ x) i h =
    (elim (front (b ∷ x)) as (λ f. front (b ∷ x) ≡ f → i < length (tail_after 0 (b ∷ x)) → 0x80 ≤ slice_index (tail_after 0 (b ∷ x)) i) [
      | Whole s ↦ λ e. rw (tail-whole b x s e) (λ h. high_after (following s) x i h)
      | Part ↦ λ e. rw (tail-part b x e) (λ h. part_high b x i e h)
      | Neither ↦ λ e. rw (tail-neither b x e) (λ h. high_after zero x i h)
    ]) refl h

pub tail_high : (x : List ℕ) (i : ℕ) → tail x ≡ x → i < length x → 0x80 ≤ slice_index x i
tail_high x i e h = subst (λ y. 0x80 ≤ slice_index y i) e (high_after 0 x i (subst (λ y. i < length y) (sym e) h))

-- characters and tail are no more than the bytes
room_after : (skip : ℕ) (x : List ℕ) → length (characters_after skip x) + length (tail_after skip x) ≤ length x
room_after skip [] = omega arith
room_after (suc skip) (b ∷ x) = let k = room_after skip x in omega (arith, k)
room_after zero (b ∷ x) =
    (elim (front (b ∷ x)) as (λ f. front (b ∷ x) ≡ f → length (characters_after 0 (b ∷ x)) + length (tail_after 0 (b ∷ x)) ≤ length (b ∷ x)) [
      | Whole s ↦ λ e. rw (tail-whole b x s e, characters-whole b x s e) (omega (arith, room_after (following s) x))
      | Part ↦ λ e. rw (tail-part b x e, characters-part b x e) (omega arith)
      | Neither ↦ λ e. rw (tail-neither b x e, characters-neither b x e) (omega (arith, room_after zero x))
    ]) refl

pub tail_room : (x : List ℕ) → length (characters x) + length (tail x) ≤ length x
tail_room x = room_after 0 x

pub none_of : {T : Type 0} (x : List T) → length x ≡ 0 → x ≡ []
none_of [] e = refl
none_of (a ∷ x) e = absurd (omega arith)

-- what is all tail has no characters yet
pub tail_closed : (x : List ℕ) → tail x ≡ x → characters x ≡ []
tail_closed x e = none_of (characters x) (omega (arith, tail_room x, ap length e))

pub append_none : {T : Type 0} (x : List T) → x ++ [] ≡ x
append_none [] = refl
append_none (a ∷ x) = ap (λ y. a ∷ y) (append_none x)

-- of a tail all characters are raw
pub all_of_tail : (x : List ℕ) → tail x ≡ x → all_characters x ≡ map Raw x
all_of_tail x e = ap (λ cs. cs ++ map Raw (tail x)) (tail_closed x e) ∙ ap (map Raw) e

-- Laws of decoding in pieces.
use Rattle.std.proofs.Common.{◌≡◌, ℕ, zero, suc, ◌≤◌, true, false, List, [], ◌∷◌, ◌++◌, length, refl, ap, arith, append_assoc}
use Rattle.text_model.specs.Characters.{Scalar, Raw}
use Rattle.text_model.specs.Decoding.{Range, within, Front, Whole, Part, Neither, longer, against, against_any, front, well_formed, scalar_of, following, characters_after, tail_after, characters, tail, all_characters}

longer-whole : (b : ℕ) (f g : Front) (s : List ℕ) → ((t : List ℕ) → f ≡ Whole t → g ≡ Whole t) → longer b f ≡ Whole s → longer b g ≡ Whole s
longer-whole b (Whole t) g s h e = rw (h t refl) e
longer-whole b Part g s h e = cc
longer-whole b Neither g s h e = cc

longer-neither : (b : ℕ) (f g : Front) → (f ≡ Neither → g ≡ Neither) → longer b f ≡ Neither → longer b g ≡ Neither
longer-neither b (Whole t) g h e = cc
longer-neither b Part g h e = cc
longer-neither b Neither g h e = rw (h refl) refl

-- what a row says of a whole sequence stays, whatever follows
against-append-whole : (row : List Range) (x y s : List ℕ) → against row x ≡ Whole s → against row (x ++ y) ≡ Whole s
against-append-whole [] x y s e = e
against-append-whole (r ∷ row) [] y s e = cc
against-append-whole (r ∷ row) (b ∷ x) y s e =
    (elim (within r b) as (λ t. (elim t [ true ↦ longer b (against row x) | false ↦ Neither ] ≡ Whole s) → elim t [ true ↦ longer b (against row (x ++ y)) | false ↦ Neither ] ≡ Whole s) [
      | true ↦ λ e. longer-whole b (against row x) (against row (x ++ y)) s (λ t. against-append-whole row x y t) e
      | false ↦ λ e. e
    ]) e

against-append-neither : (row : List Range) (x y : List ℕ) → against row x ≡ Neither → against row (x ++ y) ≡ Neither
against-append-neither [] x y e = cc
against-append-neither (r ∷ row) [] y e = cc
against-append-neither (r ∷ row) (b ∷ x) y e =
    (elim (within r b) as (λ t. (elim t [ true ↦ longer b (against row x) | false ↦ Neither ] ≡ Neither) → elim t [ true ↦ longer b (against row (x ++ y)) | false ↦ Neither ] ≡ Neither) [
      | true ↦ λ e. longer-neither b (against row x) (against row (x ++ y)) (against-append-neither row x y) e
      | false ↦ λ e. e
    ]) e

any-append-whole : (rows : List (List Range)) (x y s : List ℕ) → against_any rows x ≡ Whole s → against_any rows (x ++ y) ≡ Whole s
any-append-whole [] x y s e = cc
any-append-whole (row ∷ rows) x y s e =
    (elim (against row x) as (λ f. against row x ≡ f → elim f [ Whole s ↦ Whole s | Part ↦ Part | Neither ↦ against_any rows x ] ≡ Whole s → against_any (row ∷ rows) (x ++ y) ≡ Whole s) [
      | Whole t ↦ λ f e. rw (against-append-whole row x y t f, against_any) e
      | Part ↦ λ f e. cc
      | Neither ↦ λ f e. rw (against-append-neither row x y f, against_any) (any-append-whole rows x y s e)
    ]) refl e

any-append-neither : (rows : List (List Range)) (x y : List ℕ) → against_any rows x ≡ Neither → against_any rows (x ++ y) ≡ Neither
any-append-neither [] x y e = refl
any-append-neither (row ∷ rows) x y e =
    (elim (against row x) as (λ f. against row x ≡ f → elim f [ Whole s ↦ Whole s | Part ↦ Part | Neither ↦ against_any rows x ] ≡ Neither → against_any (row ∷ rows) (x ++ y) ≡ Neither) [
      | Whole t ↦ λ f e. cc
      | Part ↦ λ f e. cc
      | Neither ↦ λ f e. rw (against-append-neither row x y f, against_any) (any-append-neither rows x y e)
    ]) refl e

-- a whole sequence is no longer than the bytes
longer-length : (b : ℕ) (f : Front) (x s : List ℕ) → ((t : List ℕ) → f ≡ Whole t → length t ≤ length x) → longer b f ≡ Whole s → length s ≤ suc (length x)
longer-length b (Whole t) x s h e = let k : length t ≤ length x = h t refl in let p : b ∷ t ≡ s = cc in rw (← p) (omega arith)
longer-length b Part x s h e = cc
longer-length b Neither x s h e = cc

against-length : (row : List Range) (x s : List ℕ) → against row x ≡ Whole s → length s ≤ length x
against-length [] x s e = let p : [] ≡ s = cc in rw (← p) (omega arith)
against-length (r ∷ row) [] s e = cc
against-length (r ∷ row) (b ∷ x) s e =
    (elim (within r b) as (λ t. elim t [ true ↦ longer b (against row x) | false ↦ Neither ] ≡ Whole s → length s ≤ suc (length x)) [
      | true ↦ λ e. longer-length b (against row x) x s (λ t. against-length row x t) e
      | false ↦ λ e. cc
    ]) e

any-length : (rows : List (List Range)) (x s : List ℕ) → against_any rows x ≡ Whole s → length s ≤ length x
any-length [] x s e = cc
any-length (row ∷ rows) x s e =
    (elim (against row x) as (λ f. against row x ≡ f → elim f [ Whole s ↦ Whole s | Part ↦ Part | Neither ↦ against_any rows x ] ≡ Whole s → length s ≤ length x) [
      | Whole t ↦ λ f e. let p : t ≡ s = cc in rw (← p) (against-length row x t f)
      | Part ↦ λ f e. cc
      | Neither ↦ λ f e. any-length rows x s e
    ]) refl e

pub following-length : (s : List ℕ) (n : ℕ) → length s ≤ suc n → following s ≤ n
following-length [] n h = omega arith
following-length (b ∷ []) n h = omega arith
following-length (b ∷ c ∷ rest) n h = omega (arith, following-length (c ∷ rest) (length rest) (omega arith))

-- the same of what stands at the front
pub front-append-whole : (x y s : List ℕ) → front x ≡ Whole s → front (x ++ y) ≡ Whole s
front-append-whole x y s e = any-append-whole well_formed x y s e

pub front-append-neither : (x y : List ℕ) → front x ≡ Neither → front (x ++ y) ≡ Neither
front-append-neither x y e = any-append-neither well_formed x y e

pub front-length : (x s : List ℕ) → front x ≡ Whole s → length s ≤ length x
front-length x s e = any-length well_formed x s e

-- one step of each of the two functions, by what stands at the front
pub characters-whole : (b : ℕ) (x s : List ℕ) → front (b ∷ x) ≡ Whole s → characters_after 0 (b ∷ x) ≡ Scalar (scalar_of s) ∷ characters_after (following s) x
characters-whole b x s e = rw (e, characters_after)

pub characters-part : (b : ℕ) (x : List ℕ) → front (b ∷ x) ≡ Part → characters_after 0 (b ∷ x) ≡ []
characters-part b x e = rw (e, characters_after)

pub characters-neither : (b : ℕ) (x : List ℕ) → front (b ∷ x) ≡ Neither → characters_after 0 (b ∷ x) ≡ Raw b ∷ characters_after 0 x
characters-neither b x e = rw (e, characters_after)

pub tail-whole : (b : ℕ) (x s : List ℕ) → front (b ∷ x) ≡ Whole s → tail_after 0 (b ∷ x) ≡ tail_after (following s) x
tail-whole b x s e = rw (e, tail_after)

pub tail-part : (b : ℕ) (x : List ℕ) → front (b ∷ x) ≡ Part → tail_after 0 (b ∷ x) ≡ b ∷ x
tail-part b x e = rw (e, tail_after)

pub tail-neither : (b : ℕ) (x : List ℕ) → front (b ∷ x) ≡ Neither → tail_after 0 (b ∷ x) ≡ tail_after 0 x
tail-neither b x e = rw (e, tail_after)

pub characters-append : (skip : ℕ) (x y : List ℕ) → skip ≤ length x → characters_after skip (x ++ y) ≡ characters_after skip x ++ characters_after 0 (tail_after skip x ++ y)
characters-append zero [] y h = refl
characters-append (suc skip) [] y h = absurd (omega arith)
characters-append (suc skip) (b ∷ x) y h = characters-append skip x y (omega arith)
characters-append zero (b ∷ x) y h =
    (elim (front (b ∷ x)) as (λ f. front (b ∷ x) ≡ f → characters_after 0 (b ∷ (x ++ y)) ≡ characters_after 0 (b ∷ x) ++ characters_after 0 (tail_after 0 (b ∷ x) ++ y)) [
      | Whole s ↦ λ e. rw (characters-whole b x s e, tail-whole b x s e, characters-whole b (x ++ y) s (any-append-whole well_formed (b ∷ x) y s e)) (ap (λ cs. Scalar (scalar_of s) ∷ cs) (characters-append (following s) x y (following-length s (length x) (any-length well_formed (b ∷ x) s e))))
      | Part ↦ λ e. rw (characters-part b x e, tail-part b x e) refl
      | Neither ↦ λ e. rw (characters-neither b x e, tail-neither b x e, characters-neither b (x ++ y) (any-append-neither well_formed (b ∷ x) y e)) (ap (λ cs. Raw b ∷ cs) (characters-append zero x y (omega arith)))
    ]) refl

pub tail-append : (skip : ℕ) (x y : List ℕ) → skip ≤ length x → tail_after skip (x ++ y) ≡ tail_after 0 (tail_after skip x ++ y)
tail-append zero [] y h = refl
tail-append (suc skip) [] y h = absurd (omega arith)
tail-append (suc skip) (b ∷ x) y h = tail-append skip x y (omega arith)
tail-append zero (b ∷ x) y h =
    (elim (front (b ∷ x)) as (λ f. front (b ∷ x) ≡ f → tail_after 0 (b ∷ (x ++ y)) ≡ tail_after 0 (tail_after 0 (b ∷ x) ++ y)) [
      | Whole s ↦ λ e. rw (tail-whole b x s e, tail-whole b (x ++ y) s (any-append-whole well_formed (b ∷ x) y s e)) (tail-append (following s) x y (following-length s (length x) (any-length well_formed (b ∷ x) s e)))
      | Part ↦ λ e. rw (tail-part b x e) refl
      | Neither ↦ λ e. rw (tail-neither b x e, tail-neither b (x ++ y) (any-append-neither well_formed (b ∷ x) y e)) (tail-append zero x y (omega arith))
    ]) refl

-- the three laws of decoding in pieces
pub open_law : (x y : List ℕ) → characters (x ++ y) ≡ characters x ++ characters (tail x ++ y)
open_law x y = characters-append 0 x y (omega arith)

pub tail_law : (x y : List ℕ) → tail (x ++ y) ≡ tail (tail x ++ y)
tail_law x y = tail-append 0 x y (omega arith)

pub all_law : (x y : List ℕ) → all_characters (x ++ y) ≡ characters x ++ all_characters (tail x ++ y)
all_law x y = rw (open_law x y, tail_law x y) (rw append_assoc refl)

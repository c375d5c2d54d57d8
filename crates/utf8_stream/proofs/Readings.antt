-- The reading of the first sequence by `bstr`, against the table of well-formed sequences.
use Rattle.std.proofs.Common.{◌≡◌, ◌⊎◌, ℕ, ◌<◌, ◌≤◌, true, false, List, [], ◌∷◌, length, take, slice_index, Option, Some, None, refl, sym, subst, inl, inr, ⊎_elim, arith}
use Rattle.text_model.specs.Decoding.{Whole, Part, Neither, front, scalar_of}
use Rattle.bstr.specs.Utf8.{Decoded, decoded, second, continues, code_of_2, code_of_3, code_of_4}
use Rattle.bstr.proofs.lemmas.PieceLemmas.{by-shape}
use Rattle.utf8_stream.proofs.Fronts.{front_ascii, front_between, front_past, front_alone, front_wrong, front_two, front_cut_two, front_wrong_third, front_three, front_cut_three, front_wrong_fourth, front_four}

abbrev IsWhole : ℕ → ℕ → List ℕ → Type 0
IsWhole c n x = (front x ≡ Whole (take n x)) × (scalar_of (take n x) ≡ c) × (0 < n) × (n ≤ length x)

abbrev IsPart : ℕ → List ℕ → Type 0
IsPart n x = (front x ≡ Part) × (n ≡ length x) × (0xC2 ≤ slice_index x 0) × (slice_index x 0 ≤ 0xF4)

abbrev IsNeither : ℕ → List ℕ → Type 0
IsNeither n x = (front x ≡ Neither) × (0x80 ≤ slice_index x 0) × (n ≡ length x → 0xC2 ≤ slice_index x 0 → slice_index x 0 ≤ 0xF4 → ⊥)

-- what an answer of `bstr` tells of the front
abbrev Tells : Option ℕ → ℕ → List ℕ → Type 0
Tells (Some c) n x = IsWhole c n x
Tells None n x = IsPart n x ⊎ IsNeither n x

one : (x : List ℕ) → 0 < length x → slice_index x 0 < 0x80 → IsWhole (slice_index x 0) 1 x
one [] h k = absurd (omega arith)
one (b ∷ x) h k = (front_ascii b x k, refl, omega arith, omega arith)

between : (x : List ℕ) → 0 < length x → 0x80 ≤ slice_index x 0 → slice_index x 0 < 0xC2 → IsNeither 1 x
between [] h k l = absurd (omega arith)
between (b ∷ x) h k l = (front_between b x k l, k, λ i j m. omega arith)

past : (x : List ℕ) → 0 < length x → 0xF4 < slice_index x 0 → IsNeither 1 x
past [] h k = absurd (omega arith)
past (b ∷ x) h k = (front_past b x k, omega arith, λ i j m. omega arith)

alone : (x : List ℕ) → 0 < length x → length x < 2 → 0xC2 ≤ slice_index x 0 → slice_index x 0 ≤ 0xF4 → IsPart 1 x
alone [] h k l m = absurd (omega arith)
alone (b ∷ []) h k l m = (front_alone b l m, refl, l, m)
alone (b ∷ c ∷ x) h k l m = absurd (omega arith)

wrong : (x : List ℕ) → 2 ≤ length x → 0xC2 ≤ slice_index x 0 → slice_index x 0 ≤ 0xF4 → second (slice_index x 0) (slice_index x 1) ≡ false → IsNeither 1 x
wrong [] h k l s = absurd (omega arith)
wrong (b ∷ []) h k l s = absurd (omega arith)
wrong (b ∷ c ∷ x) h k l s = (front_wrong b c x k l s, omega arith, λ i j m. omega arith)

two : (x : List ℕ) → 2 ≤ length x → 0xC2 ≤ slice_index x 0 → slice_index x 0 < 0xE0 → second (slice_index x 0) (slice_index x 1) ≡ true → IsWhole (code_of_2 (slice_index x 0) (slice_index x 1)) 2 x
two [] h k l s = absurd (omega arith)
two (b ∷ []) h k l s = absurd (omega arith)
two (b ∷ c ∷ x) h k l s = (front_two b c x k l s, refl, omega arith, omega arith)

cut_two : (x : List ℕ) → 2 ≤ length x → length x < 3 → 0xE0 ≤ slice_index x 0 → slice_index x 0 ≤ 0xF4 → second (slice_index x 0) (slice_index x 1) ≡ true → IsPart 2 x
cut_two [] h j k l s = absurd (omega arith)
cut_two (b ∷ []) h j k l s = absurd (omega arith)
cut_two (b ∷ c ∷ []) h j k l s = (front_cut_two b c k l s, refl, omega arith, l)
cut_two (b ∷ c ∷ d ∷ x) h j k l s = absurd (omega arith)

wrong_third : (x : List ℕ) → 3 ≤ length x → 0xE0 ≤ slice_index x 0 → slice_index x 0 ≤ 0xF4 → second (slice_index x 0) (slice_index x 1) ≡ true → continues (slice_index x 2) ≡ false → IsNeither 2 x
wrong_third [] h k l s t = absurd (omega arith)
wrong_third (b ∷ []) h k l s t = absurd (omega arith)
wrong_third (b ∷ c ∷ []) h k l s t = absurd (omega arith)
wrong_third (b ∷ c ∷ d ∷ x) h k l s t = (front_wrong_third b c d x k l s t, omega arith, λ i j m. omega arith)

three : (x : List ℕ) → 3 ≤ length x → 0xE0 ≤ slice_index x 0 → slice_index x 0 < 0xF0 → second (slice_index x 0) (slice_index x 1) ≡ true → continues (slice_index x 2) ≡ true
    → IsWhole (code_of_3 (slice_index x 0) (slice_index x 1) (slice_index x 2)) 3 x
three [] h k l s t = absurd (omega arith)
three (b ∷ []) h k l s t = absurd (omega arith)
three (b ∷ c ∷ []) h k l s t = absurd (omega arith)
three (b ∷ c ∷ d ∷ x) h k l s t = (front_three b c d x k l s t, omega arith, omega arith, omega arith)

cut_three : (x : List ℕ) → 3 ≤ length x → length x < 4 → 0xF0 ≤ slice_index x 0 → slice_index x 0 ≤ 0xF4 → second (slice_index x 0) (slice_index x 1) ≡ true → continues (slice_index x 2) ≡ true → IsPart 3 x
cut_three [] h j k l s t = absurd (omega arith)
cut_three (b ∷ []) h j k l s t = absurd (omega arith)
cut_three (b ∷ c ∷ []) h j k l s t = absurd (omega arith)
cut_three (b ∷ c ∷ d ∷ []) h j k l s t = (front_cut_three b c d k l s t, refl, omega arith, l)
cut_three (b ∷ c ∷ d ∷ e ∷ x) h j k l s t = absurd (omega arith)

wrong_fourth : (x : List ℕ) → 4 ≤ length x → 0xF0 ≤ slice_index x 0 → slice_index x 0 ≤ 0xF4 → second (slice_index x 0) (slice_index x 1) ≡ true → continues (slice_index x 2) ≡ true → continues (slice_index x 3) ≡ false → IsNeither 3 x
wrong_fourth [] h k l s t u = absurd (omega arith)
wrong_fourth (b ∷ []) h k l s t u = absurd (omega arith)
wrong_fourth (b ∷ c ∷ []) h k l s t u = absurd (omega arith)
wrong_fourth (b ∷ c ∷ d ∷ []) h k l s t u = absurd (omega arith)
wrong_fourth (b ∷ c ∷ d ∷ e ∷ x) h k l s t u = (front_wrong_fourth b c d e x k l s t u, omega arith, λ i j m. omega arith)

four : (x : List ℕ) → 4 ≤ length x → 0xF0 ≤ slice_index x 0 → slice_index x 0 ≤ 0xF4 → second (slice_index x 0) (slice_index x 1) ≡ true → continues (slice_index x 2) ≡ true → continues (slice_index x 3) ≡ true
    → IsWhole (code_of_4 (slice_index x 0) (slice_index x 1) (slice_index x 2) (slice_index x 3)) 4 x
four [] h k l s t u = absurd (omega arith)
four (b ∷ []) h k l s t u = absurd (omega arith)
four (b ∷ c ∷ []) h k l s t u = absurd (omega arith)
four (b ∷ c ∷ d ∷ []) h k l s t u = absurd (omega arith)
four (b ∷ c ∷ d ∷ e ∷ x) h k l s t u = (front_four b c d e x k l s t u, omega arith, omega arith, omega arith)

as_told : (x : List ℕ) (d e : Decoded) → d ≡ e → Tells e.char e.size x → Tells d.char d.size x
as_told x d e p t = subst (λ (q : Decoded). Tells q.char q.size x) (sym p) t

told : (x : List ℕ) → 0 < length x → Tells (decoded x).char (decoded x).size x
told x some =
    by-shape (length x) (slice_index x 0) (slice_index x 1) (slice_index x 2) (slice_index x 3)
    (λ h. absurd (omega arith))
    (λ h. as_told x _ _ h.2 (one x h.0 h.1))
    (λ h. as_told x _ _ h.3 (inr (between x h.0 h.1 h.2)))
    (λ h. as_told x _ _ h.2 (inr (past x h.0 h.1)))
    (λ h. as_told x _ _ h.4 (inl (alone x h.0 h.3 h.1 h.2)))
    (λ h. as_told x _ _ h.4 (inr (wrong x h.0 h.1 h.2 h.3)))
    (λ h. as_told x _ _ h.4 (two x h.0 h.1 h.2 h.3))
    (λ h. as_told x _ _ h.5 (inl (cut_two x h.0 h.4 h.1 h.2 h.3)))
    (λ h. as_told x _ _ h.5 (inr (wrong_third x h.0 h.1 h.2 h.3 h.4)))
    (λ h. as_told x _ _ h.5 (three x h.0 h.1 h.2 h.3 h.4))
    (λ h. as_told x _ _ h.6 (inl (cut_three x h.0 h.5 h.1 h.2 h.3 h.4)))
    (λ h. as_told x _ _ h.6 (inr (wrong_fourth x h.0 h.1 h.2 h.3 h.4 h.5)))
    (λ h. as_told x _ _ h.6 (four x h.0 h.1 h.2 h.3 h.4 h.5))

tells : (x : List ℕ) (o p : Option ℕ) (n : ℕ) → 0 < length x → o ≡ (decoded x).char → n ≡ (decoded x).size → o ≡ p → Tells p n x
tells x o p n h c s e = subst (λ p. Tells p n x) e (subst (λ o. Tells o n x) (sym c) (subst (λ n. Tells (decoded x).char n x) (sym s) (told x h)))

pub whole_read : (x : List ℕ) (o : Option ℕ) (n c : ℕ) → 0 < length x → o ≡ (decoded x).char → n ≡ (decoded x).size → o ≡ Some c
    → (front x ≡ Whole (take n x)) × (scalar_of (take n x) ≡ c) × (0 < n) × (n ≤ length x)
whole_read x o n c h p q r = tells x o (Some c) n h p q r

pub part_read : (x : List ℕ) (o : Option ℕ) (n : ℕ) → 0 < length x → o ≡ (decoded x).char → n ≡ (decoded x).size → o ≡ None
    → n ≡ length x → 0xC2 ≤ slice_index x 0 → slice_index x 0 ≤ 0xF4 → front x ≡ Part
part_read x o n h p q r i j k = ⊎_elim (λ (y : IsPart n x). y.0) (λ (y : IsNeither n x). absurd (y.2 i j k)) (tells x o None n h p q r)

pub neither_read : (x : List ℕ) (o : Option ℕ) (n : ℕ) → 0 < length x → o ≡ (decoded x).char → n ≡ (decoded x).size → o ≡ None
    → (n ≡ length x → 0xC2 ≤ slice_index x 0 → slice_index x 0 ≤ 0xF4 → ⊥) → front x ≡ Neither
neither_read x o n h p q r f = ⊎_elim (λ (y : IsPart n x). absurd (f y.1 y.2 y.3)) (λ (y : IsNeither n x). y.0) (tells x o None n h p q r)

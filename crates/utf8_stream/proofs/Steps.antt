-- One step of decoding.
use Rattle.std.proofs.Common.{◌≡◌, ℕ, zero, suc, ◌-◌, ◌<◌, ◌≤◌, List, [], ◌∷◌, ◌++◌, length, take, drop, slice_index, refl, ap, sym, ◌∙◌, append_assoc, length-drop, take_all, arith}
use Rattle.text_model.specs.Characters.{Ch, Scalar}
use Rattle.text_model.specs.Decoding.{Whole, front, scalar_of, following, characters_after, tail_after, characters, tail}
use Rattle.text_model.specs.Codings.{Coding, decoded, undecoded}
use Rattle.text_model.proofs.Decodings.{characters-whole, tail-whole}
use Rattle.text_model.proofs.Codings.{decoded_law, undecoded_law}
use Rattle.utf8_stream.proofs.Tails.{append_none}

following_take : (b n : ℕ) (x : List ℕ) → n ≤ length x → following (b ∷ take n x) ≡ n
following_take b zero [] h = refl
following_take b zero (c ∷ x) h = refl
following_take b (suc n) [] h = absurd (omega arith)
following_take b (suc n) (c ∷ x) h = ap (λ k. suc k) (following_take c n x (omega arith))

characters_skip : (n : ℕ) (x : List ℕ) → characters_after n x ≡ characters_after 0 (drop n x)
characters_skip zero x = refl
characters_skip (suc n) [] = refl
characters_skip (suc n) (b ∷ x) = characters_skip n x

tail_skip : (n : ℕ) (x : List ℕ) → tail_after n x ≡ tail_after 0 (drop n x)
tail_skip zero x = refl
tail_skip (suc n) [] = refl
tail_skip (suc n) (b ∷ x) = tail_skip n x

pub whole_characters : (x : List ℕ) (n : ℕ) → front x ≡ Whole (take n x) → 0 < n → n ≤ length x → characters x ≡ Scalar (scalar_of (take n x)) ∷ characters (drop n x)
whole_characters x zero e h k = absurd (omega arith)
whole_characters [] (suc n) e h k = absurd (omega arith)
whole_characters (b ∷ x) (suc n) e h k =
    characters-whole b x (b ∷ take n x) e ∙ ap (λ cs. Scalar (scalar_of (b ∷ take n x)) ∷ cs) (ap (λ m. characters_after m x) (following_take b n x (omega arith)) ∙ characters_skip n x)

pub whole_tail : (x : List ℕ) (n : ℕ) → front x ≡ Whole (take n x) → 0 < n → n ≤ length x → tail x ≡ tail (drop n x)
whole_tail x zero e h k = absurd (omega arith)
whole_tail [] (suc n) e h k = absurd (omega arith)
whole_tail (b ∷ x) (suc n) e h k = tail-whole b x (b ∷ take n x) e ∙ ap (λ m. tail_after m x) (following_take b n x (omega arith)) ∙ tail_skip n x

-- the slice from a place on
pub cut : (n : ℕ) (x : List ℕ) → take (length x - n) (drop n x) ≡ drop n x
cut n x = take_all (length x - n) (drop n x) (omega (arith, length-drop n x))

pub cut_length : (n : ℕ) (x : List ℕ) → length (take (length x - n) (drop n x)) ≡ length x - n
cut_length n x = ap length (cut n x) ∙ length-drop n x

pub whole_first : (x : List ℕ) (n c : ℕ) → front x ≡ Whole (take n x) → scalar_of (take n x) ≡ c → 0 < n → n ≤ length x
    → characters x ≡ Scalar c ∷ characters (take (length x - n) (drop n x))
whole_first x n c e s h k = whole_characters x n e h k ∙ ap (λ d. Scalar d ∷ characters (drop n x)) s ∙ ap (λ y. Scalar c ∷ characters y) (sym (cut n x))

pub whole_rest : (x : List ℕ) (n : ℕ) → front x ≡ Whole (take n x) → 0 < n → n ≤ length x → tail x ≡ tail (take (length x - n) (drop n x))
whole_rest x n e h k = whole_tail x n e h k ∙ ap tail (sym (cut n x))

-- the bytes held, and one byte more
joined : (h x : List ℕ) → 0 < length x → h ++ x ≡ (h ++ slice_index x 0 ∷ []) ++ take (length x - 1) (drop 1 x)
joined h [] k = absurd (omega arith)
joined h (b ∷ x) k = sym (append_assoc h (b ∷ []) x) ∙ ap (λ y. (h ++ b ∷ []) ++ y) (sym (cut 1 (b ∷ x)))

pub one_more : (c : Coding) (h x : List ℕ) → 0 < length x
    → decoded c (h ++ x) ≡ decoded c (h ++ slice_index x 0 ∷ []) ++ decoded c (undecoded c (h ++ slice_index x 0 ∷ []) ++ take (length x - 1) (drop 1 x))
one_more c h x k = ap (decoded c) (joined h x k) ∙ decoded_law c (h ++ slice_index x 0 ∷ []) (take (length x - 1) (drop 1 x))

pub one_more_tail : (c : Coding) (h x : List ℕ) → 0 < length x → undecoded c (h ++ x) ≡ undecoded c (undecoded c (h ++ slice_index x 0 ∷ []) ++ take (length x - 1) (drop 1 x))
one_more_tail c h x k = ap (undecoded c) (joined h x k) ∙ undecoded_law c (h ++ slice_index x 0 ∷ []) (take (length x - 1) (drop 1 x))

pub put_first : (out : List Ch) (c : Ch) (new text : List Ch) → new ≡ out ++ c ∷ [] → new ++ text ≡ out ++ c ∷ text
put_first out c new text e = ap (λ cs. cs ++ text) e ∙ append_assoc out (c ∷ []) text

pub put_none : (out text all : List Ch) → out ++ text ≡ all → text ≡ [] → out ≡ all
put_none out text all e n = sym (append_none out) ∙ ap (λ cs. out ++ cs) (sym n) ∙ e

-- Arguments that are read one by one, up to the arrow.
use Rattle.std.proofs.Common.{◌≡◌, ℕ, zero, suc, ◌<◌, List, [], ◌∷◌, ◌++◌, length, refl, sym, ap, ◌∙◌, append_assoc, append-nil, arith, Some, None}
use Rattle.std.proofs.lemmas.List.{length-append}
use Rattle.text_model.specs.Options.{◌>>=◌}
use Rattle.journal_text.specs.Lines.{led_word}
use Rattle.journal_text.specs.Reading.{Found, behind, choose, arrow, led_word_at, with_word, words_within, words_at}
use Rattle.journal_text.proofs.Words.{led_word_found}

-- some arguments in front of those that are read
abbrev pub ahead : List (List ℕ) → Found (List (List ℕ)) → Found (List (List ℕ))
ahead words o = o >>= (λ r. Some (words ++ r.0, r.1))

abbrev pub cons : List ℕ → Found (List (List ℕ)) → Found (List (List ℕ))
cons w o = o >>= (λ r. Some (w ∷ r.0, r.1))

-- these were read, and what is left gives the rest of the whole
pub record SoFar (read : List (List ℕ)) (now start : List ℕ) : Type 0 where
  pub fuel : ℕ
  pub enough : length now < fuel
  pub whole : ahead read (words_within fuel now) ≡ words_at start

ahead_none : (o : Found (List (List ℕ))) → ahead [] o ≡ o
ahead_none None = refl
ahead_none (Some r) = refl

ahead_more : (words : List (List ℕ)) (w : List ℕ) (o : Found (List (List ℕ))) → ahead words (cons w o) ≡ ahead (words ++ w ∷ []) o
ahead_more words w None = refl
ahead_more words w (Some r) = ap (λ (l : List (List ℕ)). Some (l, r.1)) (sym (append_assoc words (w ∷ []) r.0))

abbrev taken : List ℕ → Found (List (List ℕ))
taken rest = Some ([], rest)

pub none_yet : (start : List ℕ) → SoFar [] start start
none_yet start = record { fuel = suc (length start); enough = omega arith; whole = ahead_none (words_at start) }

pub ended : (read : List (List ℕ)) (now start rest : List ℕ) → SoFar read now start → behind arrow now ≡ Some rest → words_at start ≡ Some (read, rest)
ended read now start rest s e = by_fuel s.fuel s.enough s.whole
  where
    by_fuel : (n : ℕ) → length now < n → ahead read (words_within n now) ≡ words_at start → words_at start ≡ Some (read, rest)
    by_fuel zero more w = absurd (omega arith)
    by_fuel (suc n) more w =
        sym w ∙ ap (λ o. ahead read (choose o taken (led_word_at now >>= with_word (words_within n)))) e ∙ ap (λ (l : List (List ℕ)). Some (l, rest)) (append-nil read)

pub one_more : (read : List (List ℕ)) (x : List ℕ) (now next start : List ℕ) → SoFar read now start → behind arrow now ≡ None → led_word_at now ≡ Some (x, next) → SoFar (read ++ x ∷ []) next start
one_more read x now next start s open_yet e = by_fuel s.fuel s.enough s.whole
  where
    shorter : length next < length now
    shorter = let f = led_word_found now (x, next) e in omega (arith, ap length f.0, length-append (led_word x) next)

    by_fuel : (n : ℕ) → length now < n → ahead read (words_within n now) ≡ words_at start → SoFar (read ++ x ∷ []) next start
    by_fuel zero more w = absurd (omega arith)
    by_fuel (suc n) more w = record {
      fuel = n;
      enough = omega (arith, shorter);
      whole =
          sym (ahead_more read x (words_within n next))
          ∙ sym (ap (λ o. ahead read (choose o taken (led_word_at now >>= with_word (words_within n)))) open_yet ∙ ap (λ o. ahead read (o >>= with_word (words_within n))) e) ∙ w;
    }

pub shorter : (x now next : List ℕ) → led_word_at now ≡ Some (x, next) → length next < length now
shorter x now next e = let f = led_word_found now (x, next) e in omega (arith, ap length f.0, length-append (led_word x) next)

pub none_next : (read : List (List ℕ)) (now start : List ℕ) → SoFar read now start → behind arrow now ≡ None → led_word_at now ≡ None → words_at start ≡ None
none_next read now start s open_yet e = by_fuel s.fuel s.enough s.whole
  where
    by_fuel : (n : ℕ) → length now < n → ahead read (words_within n now) ≡ words_at start → words_at start ≡ None
    by_fuel zero more w = absurd (omega arith)
    by_fuel (suc n) more w =
        sym w ∙ ap (λ o. ahead read (choose o taken (led_word_at now >>= with_word (words_within n)))) open_yet ∙ ap (λ o. ahead read (o >>= with_word (words_within n))) e

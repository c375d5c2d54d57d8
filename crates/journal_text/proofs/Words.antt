-- Texts, and the arguments of a program.
use Rattle.std.proofs.Common.{◌≡◌, ℕ, zero, suc, ◌<◌, ◌≤◌, ◌/◌, ◌%◌, ◌==◌, true, false, List, [], ◌∷◌, ◌++◌, length, Some, None, refl, ap, sym, ◌∙◌, arith, append_assoc, codes, subst}
use Rattle.std.specs.Prelude.{if◌then◌else◌}
use Rattle.std.specs.List.{AllByRecursion}
use Rattle.std.specs.Str.{is_utf8}
use Rattle.std.proofs.lemmas.Bool.{and_parts, and_from}
use Rattle.std.proofs.lemmas.Bool.Decides.{nat_tests}
use Rattle.std.proofs.lemmas.Str.{IsUtf8-from_is_utf8, is_utf8-from_IsUtf8, IsUtf8-nil}
use Rattle.std.proofs.lemmas.List.{length-append}
use Rattle.text_model.specs.Options.{◌>>=◌}
use Rattle.journal_text.specs.Lines.{hex_digit, hex, word, led_word, led_words}
use Rattle.journal_text.specs.Allowed.{AreBytes, IsText, has_no_zero}
use Rattle.journal_text.specs.Reading.{behind, choose, arrow, hex_at, is_text, as_text, text_at, word_at, led_word_at, with_word, words_within, words_at}
use Rattle.journal_text.proofs.Finding.{behind_is, bound, chosen, Chosen, here, there, tested, same_some}
use Rattle.journal_text.proofs.Hexes.{hex_there, hex_found}

-- TEXTS
text_is : (bytes : List ℕ) → IsText bytes → is_text bytes ≡ true
text_is bytes h = and_from (is_utf8 bytes) (has_no_zero bytes) (is_utf8-from_IsUtf8 bytes h.1) h.2

text_from : (bytes : List ℕ) → AreBytes bytes → is_text bytes ≡ true → IsText bytes
text_from bytes all h =
    let parts = and_parts (is_utf8 bytes) (has_no_zero bytes) h in
    (all, IsUtf8-from_is_utf8 bytes parts.0, parts.1)

pub text_there : (bytes rest : List ℕ) → 1 ≤ length bytes → IsText bytes → text_at (hex bytes ++ 32 ∷ rest) ≡ Some (bytes, 32 ∷ rest)
text_there bytes rest some h =
    ap (λ o. o >>= as_text) (hex_there bytes 32 rest some h.0 refl)
    ∙ ap (λ t. if t then Some (bytes, 32 ∷ rest) else None) (text_is bytes h)

pub record IsTextAt (bytes : List ℕ) (r : List ℕ × List ℕ) : Type 0 where
  pub whole : bytes ≡ hex r.0 ++ r.1
  pub some : 1 ≤ length r.0
  pub text : IsText r.0

pub text_found : (bytes : List ℕ) (r : List ℕ × List ℕ) → text_at bytes ≡ Some r → IsTextAt bytes r
text_found bytes r h =
    let b = bound (hex_at bytes) as_text r h in
    let t = tested (is_text b.x.0) b.x r b.next in
    let f = hex_found bytes r (b.first ∙ ap (λ x. Some x) t.1) in
    record { whole = f.whole; some = f.some; text = text_from r.0 f.all (ap (λ (x : List ℕ × List ℕ). is_text x.0) (sym t.1) ∙ t.0) }

-- WORDS
-- a hexadecimal digit is no dash
digit_no_dash : (n : ℕ) → (45 == hex_digit n) ≡ false
digit_no_dash n = grind (arith, nat_tests)

not_dash : (bytes rest : List ℕ) → AreBytes bytes → 1 ≤ length bytes → behind (codes "-") (hex bytes ++ rest) ≡ None
not_dash [] rest all some = absurd (omega (arith, some))
not_dash (b ∷ bytes) rest all some = ap (λ t. if t then Some (hex_digit (b % 16) ∷ (hex bytes ++ rest)) else None) (digit_no_dash (b / 16))

pub word_there : (bytes rest : List ℕ) → IsText bytes → word_at (word bytes ++ 32 ∷ rest) ≡ Some (bytes, 32 ∷ rest)
word_there [] rest h = refl
word_there (b ∷ bytes) rest h =
    rw (not_dash (b ∷ bytes) (32 ∷ rest) h.0 (omega arith)) (text_there (b ∷ bytes) rest (omega arith) h)

pub record IsWordAt (bytes : List ℕ) (r : List ℕ × List ℕ) : Type 0 where
  pub whole : bytes ≡ word r.0 ++ r.1
  pub text : IsText r.0

hex_word : (bytes : List ℕ) → 1 ≤ length bytes → hex bytes ≡ word bytes
hex_word [] some = absurd (omega (arith, some))
hex_word (b ∷ bytes) some = refl

no_text : IsText []
no_text = (tt, IsUtf8-nil, refl)

pub word_found : (bytes : List ℕ) (r : List ℕ × List ℕ) → word_at bytes ≡ Some r → IsWordAt bytes r
word_found bytes r h = by (chosen (behind (codes "-") bytes) (λ rest. Some ([], rest)) (text_at bytes) r h)
  where
    by : Chosen (behind (codes "-") bytes) (λ rest. Some ([], rest)) (text_at bytes) r → IsWordAt bytes r
    by (here rest e k) =
        let same = same_some ([], rest) r k in
        subst (IsWordAt bytes) same (record { whole = behind_is (codes "-") bytes rest e; text = no_text })
    by (there e k) =
        let f = text_found bytes r k in
        record { whole = f.whole ∙ ap (λ l. l ++ r.1) (hex_word r.0 f.some); text = f.text }

-- ARGUMENTS
-- a blank and an argument is no arrow
word_no_arrow : (bytes rest : List ℕ) → IsText bytes → behind arrow (led_word bytes ++ 32 ∷ rest) ≡ None
word_no_arrow [] rest h = refl
word_no_arrow (b ∷ bytes) rest h =
    ap (λ t. if t then behind (codes "> ") (hex_digit (b % 16) ∷ (hex bytes ++ 32 ∷ rest)) else None) (digit_no_dash (b / 16))

-- an arrow, or an argument, begins with a blank
pub begins : (words : List (List ℕ)) (rest : List ℕ) → (more : List ℕ) × (led_words words ++ (arrow ++ rest) ≡ 32 ∷ more)
begins [] rest = (45 ∷ 62 ∷ 32 ∷ rest, refl)
begins (w ∷ words) rest = ((word w ++ led_words words) ++ (arrow ++ rest), refl)

words_within_there : (n : ℕ) (words : List (List ℕ)) (rest : List ℕ) → length words < n → AllByRecursion IsText words → words_within n (led_words words ++ (arrow ++ rest)) ≡ Some (words, rest)
words_within_there zero words rest few all = absurd (omega (arith, few))
words_within_there (suc n) [] rest few all = refl
words_within_there (suc n) (w ∷ words) rest few all =
    let b = begins words rest in
    let shape : led_words (w ∷ words) ++ (arrow ++ rest) ≡ led_word w ++ 32 ∷ b.0 = append_assoc (led_word w) (led_words words) (arrow ++ rest) ∙ ap (λ l. led_word w ++ l) b.1 in
    let more = words_within_there n words rest (omega (arith, few)) all.1 in
    ap (words_within (suc n)) shape
    ∙ ap (λ o. choose o (λ rest. Some ([], rest)) (led_word_at (led_word w ++ 32 ∷ b.0) >>= with_word (words_within n))) (word_no_arrow w b.0 all.0)
    ∙ ap (λ o. o >>= with_word (words_within n)) (word_there w b.0 all.0)
    ∙ ap (λ l. words_within n l >>= (λ words. Some (w ∷ words.0, words.1))) (sym b.1)
    ∙ ap (λ o. o >>= (λ words. Some (w ∷ words.0, words.1))) more

length_led : (words : List (List ℕ)) → length words ≤ length (led_words words)
length_led [] = omega arith
length_led (w ∷ words) = omega (arith, length-append (led_word w) (led_words words), length_led words)

pub words_there : (words : List (List ℕ)) (rest : List ℕ) → AllByRecursion IsText words → words_at (led_words words ++ (arrow ++ rest)) ≡ Some (words, rest)
words_there words rest all =
    words_within_there (suc (length (led_words words ++ (arrow ++ rest)))) words rest (omega (arith, length_led words, length-append (led_words words) (arrow ++ rest))) all

pub record AreWordsAt (bytes : List ℕ) (r : List (List ℕ) × List ℕ) : Type 0 where
  pub whole : bytes ≡ led_words r.0 ++ (arrow ++ r.1)
  pub texts : AllByRecursion IsText r.0

pub led_word_found : (bytes : List ℕ) (r : List ℕ × List ℕ) → led_word_at bytes ≡ Some r → (bytes ≡ led_word r.0 ++ r.1) × IsText r.0
led_word_found bytes r h =
    let b = bound (behind (codes " ") bytes) word_at r h in
    let w = word_found b.x r b.next in
    (behind_is (codes " ") bytes b.x b.first ∙ ap (λ l. 32 ∷ l) w.whole, w.text)

words_within_found : (n : ℕ) (bytes : List ℕ) (r : List (List ℕ) × List ℕ) → words_within n bytes ≡ Some r → AreWordsAt bytes r
words_within_found zero bytes r h = absurd (let k = h in cc)
words_within_found (suc n) bytes r h = by (chosen (behind arrow bytes) (λ rest. Some ([], rest)) (led_word_at bytes >>= with_word (words_within n)) r h) (words_within_found n)
  where
    by : Chosen (behind arrow bytes) (λ rest. Some ([], rest)) (led_word_at bytes >>= with_word (words_within n)) r
        → ((left : List ℕ) (s : List (List ℕ) × List ℕ) → words_within n left ≡ Some s → AreWordsAt left s) → AreWordsAt bytes r
    by (here rest e k) found =
        let same = same_some ([], rest) r k in
        subst (AreWordsAt bytes) same (record { whole = behind_is arrow bytes rest e; texts = tt })
    by (there e k) found =
        let first = bound (led_word_at bytes) (with_word (words_within n)) r k in
        let second = bound (words_within n first.x.1) (λ words. Some (first.x.0 ∷ words.0, words.1)) r first.next in
        let w = led_word_found bytes first.x first.first in
        let more = found first.x.1 second.x second.first in
        let same = same_some (first.x.0 ∷ second.x.0, second.x.1) r second.next in
        subst (AreWordsAt bytes) same
        (record {
          whole = w.0 ∙ ap (λ l. led_word first.x.0 ++ l) more.whole ∙ sym (append_assoc (led_word first.x.0) (led_words second.x.0) (arrow ++ second.x.1));
          texts = (w.1, more.texts);
        })

pub words_found : (bytes : List ℕ) (r : List (List ℕ) × List ℕ) → words_at bytes ≡ Some r → AreWordsAt bytes r
words_found bytes r h = words_within_found (suc (length bytes)) bytes r h

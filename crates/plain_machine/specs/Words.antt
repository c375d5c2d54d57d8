-- The bytes of a script as words with blanks between them. The grammar is a relation between bytes and a
-- script, and no way of reading one.
use Rattle.std.specs.Prelude.{◌≡◌, ◌⊎◌, ℕ, ◌+◌, ◌*◌, ◌-◌, ℤ, pos, neg_ℤ, Bool, true, false, ◌&&◌, ◌||◌}
use Rattle.std.specs.Prelude.{not, ◌==◌, nat_lt, nat_le, IsTrue, List, [], ◌∷◌, ◌++◌, length, codes}
use Rattle.std.specs.List.{list_all}
use Rattle.text_model.specs.Characters.{Ch, Scalar, Raw}
use Rattle.text_model.specs.Decoding.{all_characters}
use Rattle.text_model.specs.Names.{same_word}

-- BYTES
abbrev pub is_letter : ℕ → Bool
is_letter c = (nat_le 97 c && nat_le c 122) || (nat_le 65 c && nat_le c 90)

abbrev pub is_digit : ℕ → Bool
is_digit c = nat_le 48 c && nat_le c 57

abbrev pub is_word_byte : ℕ → Bool
is_word_byte c = is_letter c || (is_digit c || (c == 45))

-- space, tab, line feed, carriage return
abbrev pub is_blank : ℕ → Bool
is_blank c = (c == 32) || ((c == 9) || ((c == 10) || (c == 13)))

abbrev pub begins_with : (ℕ → Bool) → List ℕ → Bool
begins_with test [] = false
begins_with test (c ∷ bytes) = test c

abbrev pub ends_with : (ℕ → Bool) → List ℕ → Bool
ends_with test [] = false
ends_with test (c ∷ []) = test c
ends_with test (c ∷ d ∷ bytes) = ends_with test (d ∷ bytes)

-- BLANKS
abbrev pub HasNoLineFeed : List ℕ → Type 0
HasNoLineFeed bytes = IsTrue (list_all (λ c. not (c == 10)) bytes)

-- blanks, among them comments, from ; to the next line feed
pub data IsBlanks : List ℕ → Type 0 where
  none : IsBlanks []
  blank : {c : ℕ} {rest : List ℕ} → IsTrue (is_blank c) → IsBlanks rest → IsBlanks (c ∷ rest)
  comment : (text : List ℕ) {rest : List ℕ} → HasNoLineFeed text → IsBlanks rest →
      IsBlanks (59 ∷ (text ++ 10 ∷ rest))

-- at the end of the script a comment may go on to the end
abbrev pub IsLastBlanks : List ℕ → Type 0
IsLastBlanks bytes =
    IsBlanks bytes ⊎ ((blanks text : List ℕ) × (bytes ≡ blanks ++ 59 ∷ text) × IsBlanks blanks ×
    HasNoLineFeed text)

-- WORDS
-- a word of the script: a name that gets a number as a symbol, or anything else
pub data Word : Type 0 where
  Plain : List ℕ → Word
  Named : List ℕ → Word

abbrev pub spelled : Word → List ℕ
spelled (Plain bytes) = bytes
spelled (Named bytes) = bytes

abbrev pub names : List Word → List (List ℕ)
names [] = []
names (Plain bytes ∷ words) = names words
names (Named bytes ∷ words) = bytes ∷ names words

abbrev pub opening : Word
opening = Plain (codes "(")

abbrev pub closing : Word
closing = Plain (codes ")")

abbrev pub quote : Word
quote = Plain (codes "'")

abbrev pub hash : Word
hash = Plain (codes "#")

-- no blank stands behind ' and #
abbrev pub is_glued : Word → Bool
is_glued (Plain (c ∷ [])) = (c == 39) || (c == 35)
is_glued _ = false

-- a name or a number ends at a byte that is no letter, digit or dash
abbrev pub EndsThere : Word → (rest : List ℕ) → Type 0
EndsThere w rest =
    IsTrue (not (ends_with is_word_byte (spelled w) && begins_with is_word_byte rest)) ×
    IsTrue (not (is_glued w && begins_with (λ c. is_blank c || (c == 59)) rest))

-- the bytes are these words, with blanks round them
abbrev pub AreWords : List Word → List ℕ → Type 0
AreWords [] bytes = IsLastBlanks bytes
AreWords (w ∷ words) bytes =
    (blanks rest : List ℕ) × (bytes ≡ blanks ++ (spelled w ++ rest)) × IsBlanks blanks ×
    EndsThere w rest × AreWords words rest

-- NAMES, NUMBERS, STRINGS
-- a letter, then letters, digits and dashes; at most 64 bytes; neither t nor nil
abbrev pub is_name : List ℕ → Bool
is_name word = begins_with is_letter word &&
    (list_all is_word_byte word &&
    (nat_le (length word) 64 && not (same_word word (codes "t") || same_word word (codes "nil"))))

-- 1 to 18 digits
abbrev pub are_digits : List ℕ → Bool
are_digits word = list_all is_digit word && (nat_le 1 (length word) && nat_le (length word) 18)

abbrev pub digits_value : ℕ → List ℕ → ℕ
digits_value n [] = n
digits_value n (d ∷ digits) = digits_value (10 * n + (d - 48)) digits

abbrev pub IsInt : List ℕ → ℤ → Type 0
IsInt word i =
    (IsTrue (are_digits word) × (i ≡ pos (digits_value 0 word))) ⊎
    ((digits : List ℕ) × (word ≡ 45 ∷ digits) × IsTrue (are_digits digits) ×
    (i ≡ neg_ℤ (pos (digits_value 0 digits))))

-- the byte behind a backslash, and the character that both stand for
abbrev pub IsEscape : (c code : ℕ) → Type 0
IsEscape c code =
    ((c ≡ 34) × (code ≡ 34)) ⊎ ((c ≡ 92) × (code ≡ 92)) ⊎ ((c ≡ 110) × (code ≡ 10)) ⊎ ((c ≡ 116) × (code ≡ 9))

-- a code below 200, in octal, is a character, and from there on a raw byte
abbrev pub octal_ch : ℕ → Ch
octal_ch n = elim (nat_lt n 128) [ true ↦ Scalar n | false ↦ Raw n ]

abbrev pub is_plain_byte : ℕ → Bool
is_plain_byte c = not ((c == 34) || (c == 92))

-- behind a run of plain bytes stands a backslash, or the string's end
abbrev pub StartsAnew : List ℕ → Type 0
StartsAnew [] = Unit {0}
StartsAnew (c ∷ rest) = c ≡ 92

-- The inside of a string: runs of plain bytes, as long as they can be, each decoded as a whole; and escapes.
pub data IsInside : List ℕ → List Ch → Type 0 where
  nothing : IsInside [] []
  plain : (run : List ℕ) {rest : List ℕ} {text : List Ch} →
      IsTrue (list_all is_plain_byte run) → StartsAnew rest → IsInside rest text →
      IsInside (run ++ rest) (all_characters run ++ text)
  escaped : {c code : ℕ} {rest : List ℕ} {text : List Ch} → IsEscape c code → IsInside rest text →
      IsInside (92 ∷ c ∷ rest) (Scalar code ∷ text)
  octal : (a b c : ℕ) {rest : List ℕ} {text : List Ch} →
      IsTrue (nat_lt a 4 && (nat_lt b 8 && nat_lt c 8)) → IsInside rest text →
      IsInside (92 ∷ (48 + a) ∷ (48 + b) ∷ (48 + c) ∷ rest) (octal_ch (64 * a + 8 * b + c) ∷ text)

abbrev pub IsString : List ℕ → List Ch → Type 0
IsString word text = (inside : List ℕ) × (word ≡ 34 ∷ (inside ++ 34 ∷ [])) × IsInside inside text

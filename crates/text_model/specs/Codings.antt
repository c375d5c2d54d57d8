-- How the output of a child is decoded: as UTF-8, as UTF-8 with the line ends of DOS, or each byte as one
-- character. GNU Emacs Lisp Reference Manual, section "Coding System Basics".
use Rattle.std.specs.Prelude.{ℕ, Bool, true, false, ◌&&◌, ◌==◌, List, [], ◌∷◌, map}
use Rattle.text_model.specs.Characters.{Ch, Scalar, Raw}
use Rattle.text_model.specs.Decoding.{characters, tail, all_characters}

-- the coding systems utf-8-unix, utf-8-dos and latin-1-unix
pub data Coding : Type 0 where
  Utf8 : Coding
  Utf8Dos : Coding
  Latin1 : Coding

-- LINE ENDS
abbrev pub is_return : Ch → Bool
is_return (Scalar c) = c == 13
is_return (Raw b) = false

abbrev pub is_feed : Ch → Bool
is_feed (Scalar c) = c == 10
is_feed (Raw b) = false

abbrev pub begins_with_feed : List Ch → Bool
begins_with_feed [] = false
begins_with_feed (c ∷ text) = is_feed c

-- one line feed for each carriage return directly followed by a line feed
abbrev pub with_feeds : List Ch → List Ch
with_feeds [] = []
with_feeds (c ∷ text) =
    elim (is_return c && begins_with_feed text) [ true ↦ with_feeds text | false ↦ c ∷ with_feeds text ]

-- the last of the bytes is a carriage return
abbrev pub ends_in_return : List ℕ → Bool
ends_in_return [] = false
ends_in_return (b ∷ []) = b == 13
ends_in_return (b ∷ c ∷ bytes) = ends_in_return (c ∷ bytes)

abbrev pub without_last : List Ch → List Ch
without_last [] = []
without_last (c ∷ []) = []
without_last (c ∷ d ∷ text) = c ∷ without_last (d ∷ text)

-- a carriage return at the end may still belong to a line feed
abbrev pub settled : (ends_in_return : Bool) → List Ch → List Ch
settled true text = without_last text
settled false text = text

-- DECODING
-- the characters of the bytes, without those that the next bytes may still change
abbrev pub decoded : Coding → List ℕ → List Ch
decoded Utf8 bytes = characters bytes
decoded Utf8Dos bytes = with_feeds (settled (ends_in_return bytes) (characters bytes))
decoded Latin1 bytes = map Scalar bytes

-- the bytes at the end that are left out there
abbrev pub undecoded : Coding → List ℕ → List ℕ
undecoded Utf8 bytes = tail bytes
undecoded Utf8Dos bytes = elim (ends_in_return bytes) [ true ↦ 13 ∷ [] | false ↦ tail bytes ]
undecoded Latin1 bytes = []

-- all the bytes, which nothing follows
abbrev pub all_decoded : Coding → List ℕ → List Ch
all_decoded Utf8 bytes = all_characters bytes
all_decoded Utf8Dos bytes = with_feeds (all_characters bytes)
all_decoded Latin1 bytes = map Scalar bytes

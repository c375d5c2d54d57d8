-- The words of a line session: `session`, how often a program may be restarted, and the program with its words.
use Rattle.std.specs.Prelude.{◌≡◌, ℕ, Bool, ◌&&◌, not, ◌==◌, nat_le, List, ◌∷◌, length, codes}
use Rattle.std.specs.Prelude.{if◌then◌else◌, Option, Some, None}
use Rattle.std.specs.List.{list_all}
use Rattle.text_model.specs.Names.{same_word}
use Rattle.plain_machine.specs.Words.{is_digit, digits_value}

-- what the words want
pub record SessionWords : Type 0 where
  pub limit : ℕ
  pub program : List ℕ
  pub args : List (List ℕ)

-- a number of one to three digits that is at most 255
abbrev pub is_limit : List ℕ → Bool
is_limit w =
    list_all is_digit w && (nat_le 1 (length w) && (nat_le (length w) 3 && nat_le (digits_value 0 w) 255))

-- a word without code 0, which a child can be given
abbrev pub is_given : List ℕ → Bool
is_given w = list_all (λ c. not (c == 0)) w

-- a program that isn't empty, and at most 61 words
abbrev pub is_command : (program : List ℕ) → (args : List (List ℕ)) → Bool
is_command program args =
    not (length program == 0) && (nat_le (length args) 61 && (is_given program && list_all is_given args))

abbrev pub are_session_words : (word number program : List ℕ) → (args : List (List ℕ)) → Bool
are_session_words word number program args =
    same_word word (codes "session") && (is_limit number && is_command program args)

abbrev pub session_of : List (List ℕ) → Option SessionWords
session_of (word ∷ number ∷ program ∷ args) =
    if are_session_words word number program args
    then Some (record { limit = digits_value 0 number; program = program; args = args }) else None
session_of _ = None

-- the words are those of this session
abbrev pub IsSession : List (List ℕ) → SessionWords → Type 0
IsSession words wanted = session_of words ≡ Some wanted

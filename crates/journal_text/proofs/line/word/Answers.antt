use Rattle.std.proofs.Common.{◌≡◌, ℕ, ◌<◌, ◌≤◌, List, [], ◌∷◌, length, refl, arith}
use Rattle.journal_text.specs.Lines.{word, hex}
use Rattle.journal_text.proofs.line.word.Goals as goal

word_of_none : (bytes : List ℕ) → length bytes < 1 → word bytes ≡ 45 ∷ []
word_of_none [] h = refl
word_of_none (b ∷ bytes) h = absurd (omega arith)

word_of_some : (bytes : List ℕ) → 1 ≤ length bytes → word bytes ≡ hex bytes
word_of_some [] h = absurd (omega arith)
word_of_some (b ∷ bytes) h = refl

pub returns-in-empty : goal.returns-in-empty
returns-in-empty g c = rw (word_of_none c.args.bytes.now c.in-empty.len_below) c.put_byte.ensures

pub returns-in_default : goal.returns-in_default
returns-in_default g c = rw (word_of_some c.args.bytes.now c.in_default.len_at_least) c.hex.ensures

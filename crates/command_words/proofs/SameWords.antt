-- A test of two words as the code makes it, and as the definitions do.
use Rattle.std.proofs.Common.{◌≡◌, ℕ, Bool, true, false, List, refl}
use Rattle.text_model.specs.Names.{same_word}
use Rattle.ek_types.proofs.Naming.{same_word-true}

-- a word that isn't the known one fails the test
pub other_word : (word known : List ℕ) → (word ≡ known → ⊥) → same_word word known ≡ false
other_word word known differ = by (same_word word known) refl
  where
    by : (b : Bool) → same_word word known ≡ b → same_word word known ≡ false
    by true e = absurd (differ (same_word-true word known e))
    by false e = e

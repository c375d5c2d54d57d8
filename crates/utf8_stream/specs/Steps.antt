-- How far decoding has come.
use Rattle.std.specs.Prelude.{◌≡◌, ℕ, ◌+◌, ◌≤◌, List, ◌++◌, length}
use Rattle.text_model.specs.Characters.{Ch}
use Rattle.text_model.specs.Decoding.{characters, tail}
use Rattle.ek_types.specs.Listing.{Roomy}

-- decoding has come from some bytes to the rest of them: the characters in between stand behind the others
pub record Decodes (old new : Roomy Ch) (bytes rest : List ℕ) : Type 0 where
  pub items : new.items ++ characters rest ≡ old.items ++ characters bytes
  pub spare : new.spare + length (characters bytes) ≡ old.spare + length (characters rest)
  pub within : length rest ≤ length bytes
  pub room : length rest ≤ new.spare
  pub tail : tail rest ≡ tail bytes

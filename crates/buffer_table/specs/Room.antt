-- Room for a buffer that is still to be made.
use Rattle.std.specs.Prelude.{ℕ, List}
use Rattle.text_model.specs.Characters.{Ch}

-- room for a buffer more, of this name, in an editor of at most so many
pub record Room : Type 0 where
  pub name : List Ch
  pub buffers : ℕ

-- What the codings of the code stand for, and what a decoder is seen as.
use Rattle.std.specs.Prelude.{ℕ, List}
use Rattle.text_model.specs.Codings as model
use Rattle.utf8_stream.specs.declared.coding.Coding as declared
use Rattle.utf8_stream.specs.declared.coding.Coding.TheVariants as written

abbrev pub coding_of : declared.Coding → model.Coding
coding_of written.Utf8 = model.Utf8
coding_of written.Utf8Dos = model.Utf8Dos
coding_of written.Latin1 = model.Latin1

-- the bytes held that are still to be decoded, and how
pub record Held : Type 0 where
  pub coding : model.Coding
  pub bytes : List ℕ

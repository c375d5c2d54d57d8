-- What pieces and texts hold, whether they share it or not.
use Rattle.std.specs.Prelude.{List}
use Rattle.text_model.specs.Characters.{Ch}
use Rattle.text_model.specs.Properties.{Cell}
use Rattle.ek_types.specs.Listing.{Roomy}
use Rattle.ek_types.specs.declared.piece.Held.{Held}
use Rattle.ek_types.specs.declared.piece.Held.TheVariants.{Own, Shared}
use Rattle.ek_types.specs.declared.text.Held as text
use Rattle.ek_types.specs.declared.text.Held.TheVariants as in_text

abbrev pub content_of : Held → List Cell
content_of (Own content) = content.value
content_of (Shared content) = content.value

-- shared characters have no spare
abbrev pub characters_held : text.Held → Roomy Ch
characters_held (in_text.Own chars) = chars
characters_held (in_text.Shared chars) = record { items = chars.value.items; spare = 0 }

-- What a character of the code stands for, and a code.
use Rattle.std.specs.Prelude.{ℕ, List, [], ◌∷◌, filter_map, IsSome}
use Rattle.text_model.specs.Characters.{Ch, Scalar, Raw, IsCharacter, from_code}
use Rattle.ek_types.specs.declared.character.Ch as declared
use Rattle.ek_types.specs.declared.character.Ch.TheVariants as variant

abbrev pub ch_of : declared.Ch → Ch
ch_of (variant.Scalar c) = Scalar c
ch_of (variant.Raw b) = Raw b

abbrev pub AreCharacters : List Ch → Type 0
AreCharacters [] = Unit {0}
AreCharacters (c ∷ text) = IsCharacter c × AreCharacters text

-- each is the code of a character
abbrev pub AreCodes : List ℕ → Type 0
AreCodes [] = Unit {0}
AreCodes (code ∷ rest) = IsSome (from_code code) × AreCodes rest

-- the characters of some codes
abbrev pub characters_of : List ℕ → List Ch
characters_of codes = filter_map from_code codes

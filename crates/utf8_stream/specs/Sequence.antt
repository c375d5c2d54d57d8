-- What the code reads at the front of some bytes.
use Rattle.std.specs.Prelude.{◌≡◌, ℕ, ◌<◌, ◌≤◌, List, length, take, slice_index}
use Rattle.text_model.specs.Decoding.{Front, Whole, Part, Neither, scalar_of}
use Rattle.utf8_stream.specs.declared.sequence.First as declared
use Rattle.utf8_stream.specs.declared.sequence.First.TheVariants as variant

-- the definitions' word for it
abbrev pub front_of : declared.First → List ℕ → Front
front_of (variant.Whole c count) bytes = Whole (take count bytes)
front_of variant.Part bytes = Part
front_of variant.Neither bytes = Neither

-- a whole sequence lies in the bytes and encodes the scalar value; where there is neither, the byte is no ASCII
abbrev pub Encodes : declared.First → List ℕ → Type 0
Encodes (variant.Whole c count) bytes =
    (scalar_of (take count bytes) ≡ c) × (0 < count) × (count ≤ length bytes)
Encodes variant.Part bytes = Unit {0}
Encodes variant.Neither bytes = 0x80 ≤ slice_index bytes 0

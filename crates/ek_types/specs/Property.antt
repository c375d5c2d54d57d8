-- What symbols and property values of the code stand for.
use Rattle.std.specs.Prelude.{ℕ, Bool, nat_lt, ◌==◌, List, [], ◌∷◌, map, if◌then◌else◌}
use Rattle.text_model.specs.Properties.{PropVal, Truth, Number, Symbol, Symbols, Text}
use Rattle.ek_types.specs.Listing.{items_of}
use Rattle.ek_types.specs.declared.symbol.Sym as symbol
use Rattle.ek_types.specs.declared.property.PropVal as declared
use Rattle.ek_types.specs.declared.property.PropVal.TheVariants as variant

abbrev pub number_of : symbol.Sym → ℕ
number_of s = s.0

abbrev pub prop_of : declared.PropVal → PropVal
prop_of variant.Truth = Truth
prop_of (variant.Int i) = Number i
prop_of (variant.Sym s) = Symbol s.0
prop_of (variant.Syms names) = Symbols (map number_of (items_of names))
prop_of (variant.Text text) = Text text.value.items

-- a name with its value
abbrev pub pair_of : symbol.Sym × declared.PropVal → ℕ × PropVal
pair_of p = (number_of p.0, prop_of p.1)

abbrev pub is_before : ℕ → ℕ × PropVal → Bool
is_before name p = nat_lt p.0 name

-- without the first pair, where it has this name
abbrev pub without_first : ℕ → List (ℕ × PropVal) → List (ℕ × PropVal)
without_first name [] = []
without_first name (p ∷ set) = if p.0 == name then set else p ∷ set

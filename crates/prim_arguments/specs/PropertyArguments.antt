-- Arguments that give properties.
use Rattle.std.specs.Prelude.{ℕ, List, [], ◌∷◌, ◌++◌, Option, None, option_map}
use Rattle.text_model.specs.Properties.{PropVal}
use Rattle.editor_model.specs.Values.{Value, Sym, Pairs, as_prop, with_pair}
use Rattle.ek_types.specs.Property.{number_of, prop_of}
use Rattle.overlay_set.specs.Numbered.{given_of}
use Rattle.prim_arguments.specs.declared.property_lists.Pair.{Pair}

-- a value among symbols, where it is one
abbrev pub symbols_of : Value → List ℕ
symbols_of (Sym s) = s ∷ []
symbols_of _ = []

-- a name with its value, as the code has it
abbrev pub pair_of : Pair → ℕ × Option PropVal
pair_of p = (number_of p.name, given_of (option_map prop_of p.value))

-- the pairs of a list whose last pair stands first
abbrev pub backwards : List Pair → Pairs
backwards [] = []
backwards (p ∷ list) = backwards list ++ pair_of p ∷ []

-- a name and a value in front of the pairs of a property list, where these can stand there
abbrev pub paired : (name value : Value) → Option Pairs → Option Pairs
paired (Sym name) v rest = with_pair name (as_prop v) rest
paired _ v rest = None

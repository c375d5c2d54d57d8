-- Properties as they are gathered: by rising number of the name. One that is nil takes no place in the set,
-- but is given.
use Rattle.std.specs.Prelude.{◌≡◌, ℕ, ◌+◌, ◌≤◌, Bool, true, false, ◌==◌, List, [], ◌∷◌, ◌++◌, Option}
use Rattle.std.specs.Prelude.{Some, None, is_some}
use Rattle.std.specs.List.{list_any}
use Rattle.std.specs.Map.{lookup}
use Rattle.std.specs.Ordering.{nat_cmp}
use Rattle.std.specs.BTreeMap.{BTreeMap, is_at}
use Rattle.text_model.specs.Properties.{PropSet}
use Rattle.text_model.specs.Ordered.{IsValue}
use Rattle.editor_model.specs.Values.{Value, Sym, as_prop}
use Rattle.ek_types.specs.Property.{prop_of}
use Rattle.ek_types.specs.declared.property.PropVal as declared
use Rattle.script_read.specs.PropStrings.{Named, with_property}

abbrev pub Entries : Type 0
Entries = List (ℕ × Option declared.PropVal)

abbrev pub one_given : ℕ → Option declared.PropVal → PropSet
one_given name None = []
one_given name (Some v) = (name, prop_of v) ∷ []

-- the set of those that aren't nil
abbrev pub set_given : Entries → PropSet
set_given [] = []
set_given (e ∷ entries) = one_given e.0 e.1 ++ set_given entries

abbrev pub IsGiven : Option declared.PropVal → Type 0
IsGiven None = Unit {0}
IsGiven (Some v) = IsValue (prop_of v)

abbrev pub AreRising : (least : ℕ) → Entries → Type 0
AreRising least [] = Unit {0}
AreRising least (e ∷ entries) = (least ≤ e.0) × IsGiven e.1 × AreRising (e.0 + 1) entries

-- they are a set with these names given
pub record Gathers (entries : Entries) (named : Named) : Type 0 where
  pub rising : AreRising 0 entries
  pub set : set_given entries ≡ named.0
  pub names : (n : ℕ) → list_any (λ m. m == n) named.1 ≡ is_some (lookup (is_at (nat_cmp n)) entries)

-- one was new, and they are these with it; or there are none with it
abbrev pub Adds : (new : Bool) → Option Named → Entries → Type 0
Adds true (Some named) entries = Gathers entries named
Adds false None entries = Unit {0}
Adds _ _ entries = ⊥

-- a list gives these, or is none of properties
abbrev pub Lists : Option (BTreeMap ℕ (Option declared.PropVal)) → Option Named → Type 0
Lists (Some given) (Some named) = Gathers given.entries named
Lists None None = Unit {0}
Lists _ _ = ⊥

-- a name and its value in front of others
abbrev pub property_of : (name value : Value) → Named → Option Named
property_of (Sym name) value named = with_property name (as_prop value) named
property_of _ value named = None

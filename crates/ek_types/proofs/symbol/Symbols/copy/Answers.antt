use Rattle.std.proofs.Common.{◌≡◌, ℕ, ◌<◌, sym, subst, ◌∙◌, map, string_bytes}
use Rattle.ek_types.proofs.Naming.{map_alike, length_alike}
use Rattle.ek_types.specs.Names.{AreNumbered}
use Rattle.ek_types.proofs.symbol.Symbols.copy.Goals as goal

-- the names of the copy
names_are : (c : goal.In_ok-names) → map string_bytes c.in_ok-names.names.keys ≡ map string_bytes c.self.inside.names.keys
names_are c = map_alike string_bytes c.self.inside.names.keys c.in_ok-names.names.keys (c.in_ok-names.ensures.cases)

pub invariant_of-result : goal.invariant_of-result
invariant_of-result c = (subst AreNumbered (sym (names_are c)) c.self.invariant.0, subst (λ (n : ℕ). n < 4294967296) (sym (length_alike string_bytes _ _ (names_are c))) c.self.invariant.1)

pub returns : goal.returns
returns c = names_are c ∙ c.self.view_is

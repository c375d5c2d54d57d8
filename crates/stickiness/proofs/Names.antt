-- Names in a list of symbols.
use Rattle.std.proofs.Common.{◌≡◌, ℕ, List, [], ◌∷◌, map, refl, ap}
use Rattle.std.specs.Prelude.{◌==◌, ◌||◌}
use Rattle.std.specs.List.{list_any}
use Rattle.ek_types.specs.declared.symbol.Sym.{Sym}
use Rattle.ek_types.specs.Property.{number_of}

pub any_number : (list : List Sym) (name : ℕ) → list_any (λ s. s == name) (map number_of list) ≡ list_any (λ s. s.0 == name) list
any_number [] name = refl
any_number (s ∷ list) name = ap (λ b. (s.0 == name) || b) (any_number list name)

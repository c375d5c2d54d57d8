-- Hook functions as names.
use Rattle.std.specs.Prelude.{ℕ, ◌==◌, List, ◌∷◌, if◌then◌else◌}
use Rattle.std.specs.List.{list_any}

-- names with one in front, unless it stands there
abbrev pub added : ℕ → List ℕ → List ℕ
added name names = if list_any (λ n. n == name) names then names else name ∷ names

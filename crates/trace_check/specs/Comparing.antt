-- Claimed bytes compared with those of a run.
use Rattle.std.specs.Prelude.{◌≡◌, ℕ, ◌+◌, ◌-◌, ◌<◌, ◌==◌, nat_lt, ◌^◌, Bool, true, false, List, []}
use Rattle.std.specs.Prelude.{◌∷◌, ◌++◌, length, map, Some}
use Rattle.plain_machine.specs.Grammar.{line_feeds}
use Rattle.ek_types.specs.Io.{SinkState}

-- the longest common front
abbrev pub common : (xs ys : List ℕ) → List ℕ
common (x ∷ xs) (y ∷ ys) = elim (x == y) [ true ↦ x ∷ common xs ys | false ↦ [] ]
common _ _ = []

-- the claimed bytes are others, and this is the line of the first difference, from 1
abbrev pub DiffersAt : (line : ℕ) → (claimed written : List ℕ) → Type 0
DiffersAt line claimed written = (claimed ≡ written → ⊥) × (line ≡ line_feeds (common claimed written) + 1)

-- claimed bytes, and those that a sink was given
pub record Compared : Type 0 where
  pub claimed : List ℕ
  pub given : List ℕ

abbrev pub firsts : {A B : Type 0} → List (A × B) → List A
firsts pairs = map (λ p. p.0) pairs

-- such a sink holds the claimed bytes, their number in front of them, and what it was given; it has no
-- faults, and its room doesn't shrink
abbrev pub comparing_state : Compared → SinkState
comparing_state c =
    record { held = Some (length c.claimed ∷ (c.claimed ++ c.given)); faults = 0; room = 2 ^ 64 }

-- how far they agree: so many bytes, with so many line feeds, and whether the sink was given more than that
pub record Agrees (c : Compared) (at feeds : ℕ) (differs : Bool) : Type 0 where
  pub bytes : at ≡ length (common c.claimed c.given)
  pub lines : feeds ≡ line_feeds (common c.claimed c.given)
  pub more : differs ≡ nat_lt at (length c.given)
  pub short : length c.claimed < 2 ^ 32 - 1

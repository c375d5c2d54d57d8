-- Nesting: how deep handlers stand in one another, and what the bound on it changes.
use Rattle.std.specs.Prelude.{◌≡◌, ◌≤◌, ℕ, ◌+◌, Bool, true, false, List, ◌∷◌}
use Rattle.std.specs.List.{list_any}
use Rattle.editor_model.specs.Values.{Refused, Nesting}
use Rattle.plain_machine.specs.Exchanges.{Exchange}
use Rattle.plain_machine.specs.State.{Program}
use Rattle.plain_machine.specs.Lines.{Event, Replied}
use Rattle.plain_machine.specs.Items.{Item, Refuse, Said, Config}
use Rattle.plain_machine.specs.Run.{Reaches}

-- handlers nest no deeper than one level more than the bound
abbrev pub Shallow : Program → ℕ → Config → Type 0
Shallow program bound from =
    (exchanges : List Exchange) (said : List Said) (c : Config) →
    Reaches program bound from exchanges said c → c.state.depth ≤ bound + 1

-- a refusal for want of depth, as a line and as the next step
abbrev pub is_nesting : Event → Bool
is_nesting (Replied depth (Refused Nesting)) = true
is_nesting _ = false

abbrev pub IsNesting : Config → Type 0
IsNesting c = (rest : List Item) × (c.work ≡ Refuse Nesting ∷ rest)

-- Where no step of a run is refused for want of depth, the run is the same under any larger bound.
abbrev pub SameDeeper : Program → (bound deeper : ℕ) → Config → Type 0
SameDeeper program bound deeper from =
    (exchanges : List Exchange) (said : List Said) (c : Config) → bound ≤ deeper →
    Reaches program bound from exchanges said c →
    list_any (λ x. is_nesting x.event) said ≡ false → (IsNesting c → ⊥) →
    Reaches program deeper from exchanges said c

-- Runs: over the same exchanges there is one, and computing finds it; and it stops.
use Rattle.std.specs.Prelude.{◌≡◌, ◌⊎◌, ℕ, ◌≤◌, List, [], ◌++◌}
use Rattle.plain_machine.specs.Exchanges.{Exchange}
use Rattle.plain_machine.specs.State.{Program}
use Rattle.plain_machine.specs.Items.{Said, Config, Ended}
use Rattle.plain_machine.specs.Step.{step}
use Rattle.plain_machine.specs.Run.{Reaches, Ran, HasEnded, IsCut, run}

-- a run that goes on from where another stands, and says what that one said, and more
pub record GoesOn (program : Program) (bound : ℕ) (said others : List Said) (c d : Config)
    (more : List Exchange) : Type 0 where
  pub further : List Said
  pub behind : others ≡ said ++ further
  pub way : Reaches program bound c more further d

-- Of two runs from one configuration, the one over some exchanges, the other over these and more: the
-- second goes on where the first one stands, or there are no more exchanges and the first one goes on where
-- the second stands.
abbrev pub OneRun : Program → (bound : ℕ) → Config → Type 0
OneRun program bound from =
    (exchanges more : List Exchange) (said others : List Said) (c d : Config) →
    Reaches program bound from exchanges said c → Reaches program bound from (exchanges ++ more) others d →
    GoesOn program bound said others c d more ⊎ ((more ≡ []) × GoesOn program bound others said d c [])

-- Two runs that have ended over the same exchanges said the same and came to the same.
abbrev pub OneEnd : Program → (bound : ℕ) → Config → Type 0
OneEnd program bound from =
    (exchanges : List Exchange) (said others : List Said) (c d : Config) →
    Reaches program bound from exchanges said c → step program bound c ≡ Ended →
    Reaches program bound from exchanges others d → step program bound d ≡ Ended → (others ≡ said) × (d ≡ c)

-- what the computing run gives is a run, over the exchanges that it used
pub record IsRun (program : Program) (bound : ℕ) (from : Config) (exchanges : List Exchange)
    (r : Ran) : Type 0 where
  pub used : List Exchange
  pub all : exchanges ≡ used ++ r.left
  pub way : Reaches program bound from used r.said r.last

abbrev pub ComputedRuns : Program → (bound : ℕ) → Config → Type 0
ComputedRuns program bound from =
    (steps : ℕ) (exchanges : List Exchange) →
    IsRun program bound from exchanges (run program bound steps from exchanges)

-- a run that has ended is what the computing run gives, with enough steps
abbrev pub RunsAreComputed : Program → (bound : ℕ) → Config → Type 0
RunsAreComputed program bound from =
    (exchanges : List Exchange) (said : List Said) (c : Config) →
    Reaches program bound from exchanges said c → step program bound c ≡ Ended →
    (steps : ℕ) × (run program bound steps from exchanges ≡
    record { how = HasEnded; said = said; last = c; left = [] })

-- over each list of exchanges the run ends, waits for one more or is off after so many steps
abbrev pub RunStops : Program → (bound : ℕ) → Config → Type 0
RunStops program bound from =
    (exchanges : List Exchange) → (steps : ℕ) ×
    ((k : ℕ) → steps ≤ k → (run program bound k from exchanges).how ≡ IsCut → ⊥)

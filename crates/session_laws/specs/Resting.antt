-- Runs that come to rest by themselves: where a machine goes on without asking until it stands in one of a
-- few ways.
use Rattle.std.specs.Prelude.{ℕ, List, [], ◌∷◌, ◌++◌, ◌≡◌, Option, Some}
use Rattle.plain_machine.specs.Exchanges.{Ask, Answer, Exchange}
use Rattle.plain_machine.specs.State.{Program}
use Rattle.plain_machine.specs.Items.{Said, Config, Next, Goes, Asks}
use Rattle.plain_machine.specs.Step.{step}
use Rattle.plain_machine.specs.Run.{Reaches}

-- the ways in which it stands, by the exchanges so far
abbrev pub Resting : Type 1
Resting = List Exchange → Config → Type 0

-- it comes to rest by itself
pub record Soon (program : Program) (bound : ℕ) (rests : Resting) (exchanges : List Exchange)
    (c : Config) : Type 0 where
  pub said : List Said
  pub there : Config
  pub way : Reaches program bound c [] said there
  pub rest : rests exchanges there

-- from rest it comes to rest again, by itself and by each answer
abbrev pub GoesOn : Program → (bound : ℕ) → Resting → Type 0
GoesOn program bound rests =
    (exchanges : List Exchange) (c : Config) (n : Next) → rests exchanges c →
    step program bound c ≡ Goes n → Soon program bound rests exchanges n.config

abbrev pub AsksOn : Program → (bound : ℕ) → Resting → Type 0
AsksOn program bound rests =
    (exchanges : List Exchange) (c : Config) (ask : Ask) (answer : Answer) (next : Answer → Option Next)
    (n : Next) → rests exchanges c → step program bound c ≡ Asks ask next → next answer ≡ Some n →
    Soon program bound rests (exchanges ++ record { ask = ask; answer = answer } ∷ []) n.config

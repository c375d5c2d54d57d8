-- What a run asks, as far as a host leaves it to whoever asks.
use Rattle.std.specs.Prelude.{ℕ, List}
use Rattle.std.specs.List.{AllByRecursion}
use Rattle.editor_model.specs.Values.{Script}
use Rattle.plain_machine.specs.Exchanges.{Exchange}
use Rattle.plain_machine.specs.State.{Program}
use Rattle.plain_machine.specs.Items.{Said, Config}
use Rattle.plain_machine.specs.Run.{Reaches, start}
use Rattle.journal_text.specs.Lined.{IsSpoken}

abbrev pub AreSpoken : List Exchange → Type 0
AreSpoken exchanges = AllByRecursion (λ x. IsSpoken x.ask) exchanges

-- Each program that a run of a script starts has a name, none of its words has the byte 0, and what it
-- sends isn't empty.
abbrev pub AsksAreSpoken : Program → (bound : ℕ) → Script → Type 0
AsksAreSpoken program bound script =
    (exchanges : List Exchange) (said : List Said) (c : Config) →
    Reaches program bound (start script) exchanges said c → AreSpoken exchanges

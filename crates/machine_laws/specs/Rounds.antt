-- Rounds of waits: a round that begins asks.
use Rattle.std.specs.Prelude.{◌≡◌, ℕ, List, ◌∷◌}
use Rattle.editor_model.specs.Values.{ExchangesSpent}
use Rattle.plain_machine.specs.State.{State, Program}
use Rattle.plain_machine.specs.Items.{Item, Refuse, Wait, Target, Waiting, Config, Step, Goes, Asks, Ended}
use Rattle.plain_machine.specs.Calls.{silent, on}
use Rattle.plain_machine.specs.Step.{step}

abbrev pub waits : State → Waiting → Target → List Item → Config
waits s w target rest = record { state = s; work = Wait w target ∷ rest }

-- a step that asks a child, or that refuses the wait since no exchange may be made any more
abbrev pub AsksOrIsSpent : State → List Item → Step → Type 0
AsksOrIsSpent s rest (Asks ask answer) = Unit {0}
AsksOrIsSpent s rest (Goes next) = next ≡ silent s (Refuse ExchangesSpent ∷ rest)
AsksOrIsSpent s rest Ended = ⊥

-- Where a wait goes on to a wait by itself, a round has begun; its next step asks.
abbrev pub RoundsAsk : Program → (bound : ℕ) → Type 0
RoundsAsk program bound =
    (s : State) (w begun : Waiting) (target : Target) (rest : List Item) →
    step program bound (waits s w target rest) ≡ on s (Wait begun target ∷ rest) →
    AsksOrIsSpent s rest (step program bound (waits s begun target rest))

-- What a wait comes to next.
use Rattle.std.specs.Prelude.{ℕ, zero, suc, ◌-◌, Bool, true, false, List, [], ◌∷◌, drop}
use Rattle.plain_machine.specs.State.{State}
use Rattle.plain_machine.specs.Items.{Waiting}
use Rattle.plain_machine.specs.Waits.{eligible, from_eligible, target_is_eligible}
use Rattle.trace_check.specs.declared.waiting.Ahead.{Ahead}
use Rattle.trace_check.specs.declared.waiting.Ahead.TheVariants as ahead

abbrev pub ahead_case : (counted target_is_eligible : Bool) → (asking eligible : List ℕ) → (rounds : ℕ) → Ahead
ahead_case true fit asking all rounds = ahead.Done true
ahead_case false false asking all rounds = ahead.Done false
ahead_case false true (p ∷ asking) all rounds = ahead.Ask p
ahead_case false true [] [] rounds = ahead.Done false
ahead_case false true [] (p ∷ more) zero = ahead.Done false
ahead_case false true [] (p ∷ more) (suc rounds) = ahead.Round

abbrev pub ahead_of : State → Waiting → Ahead
ahead_of s w =
    ahead_case w.counted (target_is_eligible s w) (from_eligible s w w.asking) (eligible s w) w.rounds

-- the first one left in this round is taken
abbrev pub without_first : State → Waiting → Waiting
without_first s w = record w { asking = drop 1 (from_eligible s w w.asking) }

-- another round has begun
abbrev pub in_next_round : State → Waiting → Waiting
in_next_round s w = record w { rounds = w.rounds - 1; asking = eligible s w }

-- A recorder seen from outside.
use Rattle.std.specs.Prelude.{◌≡◌, Bool, List, [], ◌∷◌, ◌++◌, Some, Result, MatchResult}
use Rattle.plain_machine.specs.Exchanges.{Exchange, Ask, Answer}
use Rattle.host_link.specs.Hosts.{HostState, Exchanged}

-- the inner host, and the exchanges since the recorder was made
pub record Recorded (H : Type 0) : Type 0 where
  pub inner : H
  pub told : List Exchange

-- what a recorder means as a host, by what its inner host means and its own list
abbrev pub recorded_state : HostState → List Exchange → HostState
recorded_state inner told = record { told = Some told; faults = inner.faults; kills = inner.kills }

-- the call was made once on the inner host, and the list has the same ask and answer
pub record Records (inner after : HostState) (told now : List Exchange) (children : List Bool)
    (ask : Ask) (answer : Answer) : Type 0 where
  pub once : Exchanged inner after children ask answer
  pub kept : now ≡ told ++ record { ask = ask; answer = answer } ∷ []

-- one exchange of the inner host was kept, or memory was wanting before anything was asked
abbrev pub RecordsOnce : {T E : Type 0} → HostState → HostState → List Exchange → List Exchange →
    (T → List Bool) → Ask → (T → Answer) → Result T E → Type 0
RecordsOnce inner after told now children ask answer result =
    MatchResult result (λ x. Records inner after told now (children x) ask (answer x))
    (λ _. (after ≡ inner) × (now ≡ told))

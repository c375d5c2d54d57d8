-- Children: which of them live, which are killed, and how many exchanges are made, in every run.
use Rattle.std.specs.Prelude.{◌≡◌, ◌≤◌, ◌+◌, ℕ, Bool, true, false, List, [], ◌∷◌, ◌++◌, map, filter}
use Rattle.std.specs.Prelude.{drop, slice_get, Some, not, length}
use Rattle.plain_machine.specs.Exchanges.{Ask, Kill, Exchange, children_started, rising, gone, living}
use Rattle.plain_machine.specs.State.{Process, Program}
use Rattle.plain_machine.specs.Items.{Finish, WriteDump, Said, Config}
use Rattle.plain_machine.specs.Arguments.{runs}
use Rattle.plain_machine.specs.Refusals.{most_exchanges, most_processes}
use Rattle.plain_machine.specs.Run.{Reaches}

abbrev pub running_children : List Process → List ℕ
running_children list = rising (map (λ x. x.child) (filter (λ x. runs x.status) list))

-- the children that would have to be killed if the run stopped here: those of the processes that run, but
-- for those whose kills at the end of the script are made
abbrev pub to_kill : Config → List ℕ
to_kill c = elim c.work [
  | [] ↦ []
  | item ∷ rest ↦ (elim item [
    | Finish p ↦ running_children (drop p c.state.processes)
    | WriteDump ↦ []
    | _ ↦ running_children c.state.processes
  ])
]

-- they are the children that live by the exchanges
abbrev pub KillsLeft : Program → ℕ → Config → Type 0
KillsLeft program bound from =
    (exchanges : List Exchange) (said : List Said) (c : Config) →
    Reaches program bound from exchanges said c → living exchanges ≡ to_kill c

-- a child that is asked to be killed was started, has not ended, and was not asked so before
abbrev pub KillsOnce : Program → ℕ → Config → Type 0
KillsOnce program bound from =
    (before after : List Exchange) (x : Exchange) (said : List Said) (c : Config) (child : ℕ) →
    Reaches program bound from (before ++ x ∷ after) said c → x.ask ≡ Kill child →
    ((n : ℕ) × (slice_get (children_started before) n ≡ Some child)) × (gone child before ≡ false)

abbrev pub is_kill : Ask → Bool
is_kill (Kill c) = true
is_kill _ = false

-- no more exchanges are made than may be, but for kills
abbrev pub FewExchanges : Program → ℕ → Config → Type 0
FewExchanges program bound from =
    (exchanges : List Exchange) (said : List Said) (c : Config) →
    Reaches program bound from exchanges said c →
    length (filter (λ x. not (is_kill x.ask)) exchanges) ≤ most_exchanges

-- nor more than these and a kill of each of the processes that may be
abbrev pub FewInAll : Program → ℕ → Config → Type 0
FewInAll program bound from =
    (exchanges : List Exchange) (said : List Said) (c : Config) →
    Reaches program bound from exchanges said c → length exchanges ≤ most_exchanges + most_processes

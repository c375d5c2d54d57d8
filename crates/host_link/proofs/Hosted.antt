-- A host in memory after an exchange.
use Rattle.std.proofs.Common.{◌≡◌, ℕ, Bool, nat_lt, List, [], ◌∷◌, ◌++◌, get_or, refl, ap, ◌∙◌}
use Rattle.std.specs.Bool.{if◌then◌else◌}
use Rattle.ek_types.specs.Io.{next_count}
use Rattle.plain_machine.specs.Exchanges.{Ask, Answer, Exchange, Spawn, Started, Refused}
use Rattle.host_link.specs.declared.host.Spawned.{Spawned}
use Rattle.host_link.specs.declared.host.Spawned.TheVariants as spawned
use Rattle.host_link.specs.Hosts.{faults_after, after_spawn, spawned_answer}
use Rattle.host_link.specs.Played.{PlayState, MemoryHostState, after_exchange, kills_after}

-- an answer by the play of one child, as seen through the list of all plays
pub answer_as : (f : PlayState → Answer) (fault : Answer) (left : List PlayState) (k : ℕ) (d rest : PlayState) (fails now : Bool)
    → fails ≡ now → get_or left k d ≡ rest → (if fails then fault else f rest) ≡ (if now then fault else f (get_or left k d))
answer_as f fault left k d rest fails now e at = rw (e, at)

-- the host after an exchange, by its parts; `o` is what it was
pub host_after : (o s : MemoryHostState) (plays : List PlayState) (kills : List Bool) (ask : Ask) (answer reply : Answer)
    (p : List PlayState) (k : List Bool) (calls faults : ℕ) (before told : List Exchange)
    → o ≡ s → answer ≡ reply → p ≡ plays → k ≡ kills → calls ≡ next_count o.calls
    → faults ≡ faults_after answer o.faults → before ≡ o.told → told ≡ before ++ record { ask = ask; answer = answer } ∷ []
    → (let h : MemoryHostState = record { plays = p; kills = k; fails = o.fails; calls = calls; faults = faults; told = told } in h) ≡ after_exchange s plays kills ask reply
host_after o s plays kills ask answer reply p k calls faults before told same as_reply as_plays as_kills as_calls as_faults as_before as_told =
    rw (← same, ← as_reply, as_plays, as_kills, as_calls, as_faults, as_told, as_before)

-- the answer to a spawn, by the numbers of children and plays
pub spawn_as : (fails now : Bool) (started children given plays : ℕ) → fails ≡ now → started ≡ children → given ≡ plays
    → (if fails then Refused else (if nat_lt started given then Started started else Refused)) ≡ (if now then Refused else (if nat_lt children plays then Started children else Refused))
spawn_as fails now started children given plays e s p = rw (e, s, p)

children_as : (kills : List Bool) (program : List ℕ) (args : List (List ℕ)) (s : Spawned) → after_spawn kills s ≡ kills_after kills (Spawn program args) (spawned_answer s)
children_as kills program args (spawned.Started child) = refl
children_as kills program args spawned.Refused = refl

-- the children after a spawn, by its answer
pub children_after : (kills : List Bool) (program : List ℕ) (args : List (List ℕ)) (s : Spawned) (reply : Answer) → spawned_answer s ≡ reply
    → after_spawn kills s ≡ kills_after kills (Spawn program args) reply
children_after kills program args s reply e = children_as kills program args s ∙ ap (kills_after kills (Spawn program args)) e

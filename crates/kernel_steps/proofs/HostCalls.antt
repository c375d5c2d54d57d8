-- Calls of a host, one after another.
use Rattle.std.proofs.Common.{◌≡◌, ℕ, Bool, List, [], ◌∷◌, ◌++◌, length, Some, None, refl, sym, ap, ◌∙◌, subst, append-nil, append_assoc, option_map}
use Rattle.std.specs.declared.option.Option.{Option}
use Rattle.plain_machine.specs.Exchanges.{Ask, Answer, Exchange, Spawn, Read, most_read}
use Rattle.host_link.specs.Hosts.{HostState, Exchanged, IsNumbered, after_spawn, spawned_answer, got_answer}
use Rattle.host_link.specs.Played.{kills_after}
use Rattle.host_link.specs.declared.host.Spawned.{Spawned}
use Rattle.host_link.specs.declared.host.Spawned.TheVariants as spawned
use Rattle.host_link.specs.declared.host.Got.{Got}
use Rattle.kernel_steps.specs.Outside.{Adds}
use Rattle.kernel_steps.specs.HostCalls.{room_of, IsNextChild, IsHostCall, CallsSince, TellsBehind}
use Rattle.kernel_steps.proofs.Journeys.{AddsOne}

-- WHAT A HOST TELLS
pub tells_nothing : (told : Option (List Exchange)) → TellsBehind told told []
tells_nothing None = refl
tells_nothing (Some list) = ap Some (sym (append-nil list))

tells_then : (a b c : Option (List Exchange)) (first second : List Exchange) → TellsBehind a b first → TellsBehind b c second → TellsBehind a c (first ++ second)
tells_then None b c first second h k = rw h at k
tells_then (Some list) b c first second h k = rw (h, option_map) at k ∙ ap Some (append_assoc list first second)

module _ {H : Type 0} (state : H → HostState) (made : H → H → Ask → ℕ → Answer → Type 0) where
  -- the calls are told in their order
  pub calls_told : (start now : H) (exchanges : List Exchange) → CallsSince state made start now exchanges → TellsBehind (state start).told (state now).told exchanges
  calls_told start now [] h = rw h (tells_nothing (state start).told)
  calls_told start now (x ∷ exchanges) (next, call, rest) =
      tells_then (state start).told (state next).told (state now).told (x ∷ []) exchanges call.exchanged.told (calls_told next now exchanges rest)

  -- one call more
  calls_more : (start old new : H) (x : Exchange) → IsHostCall state made old new x → (exchanges : List Exchange) → CallsSince state made start old exchanges → CallsSince state made start new (exchanges ++ x ∷ [])
  calls_more start old new x call [] h = (new, subst (λ s. IsHostCall state made s new x) h call, refl)
  calls_more start old new x call (y ∷ exchanges) (next, first, rest) = (next, first, calls_more next old new x call exchanges rest)

  pub adds_call : (start old new : H) (children : List Bool) (ask : Ask) (answer : Answer) → children ≡ kills_after (state old).kills ask answer → IsNextChild ask answer (length (state old).kills) → Exchanged (state old) (state new) children ask answer → made old new ask (room_of ask) answer →
      AddsOne (CallsSince state made start old) (CallsSince state made start new) ask answer
  adds_call start old new children ask answer kids number exchanged said =
      calls_more start old new (record { ask = ask; answer = answer }) (record { own = said; number = number; exchanged = subst (λ l. Exchanged (state old) (state new) l ask answer) kids exchanged })

  pub adds_spawn : (start old new : H) (program : List ℕ) (args : List (List ℕ)) (s : Spawned) → IsNumbered (length (state old).kills) s → Exchanged (state old) (state new) (after_spawn (state old).kills s) (Spawn program args) (spawned_answer s) → made old new (Spawn program args) 0 (spawned_answer s) →
      AddsOne (CallsSince state made start old) (CallsSince state made start new) (Spawn program args) (spawned_answer s)
  adds_spawn start old new program args s numbered exchanged said =
      adds_call start old new (after_spawn (state old).kills s) (Spawn program args) (spawned_answer s) (by s) (next s numbered) exchanged said
    where
      by : (s : Spawned) → after_spawn (state old).kills s ≡ kills_after (state old).kills (Spawn program args) (spawned_answer s)
      by (spawned.Started child) = refl
      by spawned.Refused = refl

      next : (s : Spawned) → IsNumbered (length (state old).kills) s → IsNextChild (Spawn program args) (spawned_answer s) (length (state old).kills)
      next (spawned.Started child) h = h
      next spawned.Refused h = tt

  -- a read into a room of its size
  pub adds_read : (start old new : H) (child room : ℕ) (into : List ℕ) (got : Got) → room ≡ most_read → Exchanged (state old) (state new) (state old).kills (Read child) (got_answer into got) →
      made old new (Read child) room (got_answer into got) → AddsOne (CallsSince state made start old) (CallsSince state made start new) (Read child) (got_answer into got)
  adds_read start old new child room into got size exchanged said =
      adds_call start old new (state old).kills (Read child) (got_answer into got) refl tt exchanged (subst (λ n. made old new (Read child) n (got_answer into got)) size said)

  -- the calls of a run are those since its start
  pub all_calls : (start now : H) (made_since : List Exchange) → Adds (CallsSince state made start start) (CallsSince state made start now) made_since → CallsSince state made start now made_since
  all_calls start now exchanges adds = adds [] refl

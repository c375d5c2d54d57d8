-- What a host means, and what one call does to it.
use Rattle.std.specs.Prelude.{◌≡◌, ℕ, ◌≤◌, Bool, true, false, IsTrue, List, [], ◌∷◌, ◌++◌, take, Option}
use Rattle.std.specs.Prelude.{Result, MatchResult, if◌then◌else◌}
use Rattle.std.specs.Option.{option_map}
use Rattle.ek_types.specs.Io.{HasCause, next_count}
use Rattle.plain_machine.specs.Exchanges as model
use Rattle.plain_machine.specs.Exchanges.{Exchange}
use Rattle.host_link.specs.declared.host.Spawned.{Spawned}
use Rattle.host_link.specs.declared.host.Spawned.TheVariants as spawned
use Rattle.host_link.specs.declared.host.Got.{Got}
use Rattle.host_link.specs.declared.host.Got.TheVariants as got
use Rattle.host_link.specs.declared.host.Ended.{Ended}
use Rattle.host_link.specs.declared.host.Ended.TheVariants as ended
use Rattle.host_link.specs.declared.host.SendAnswer.{SendAnswer}
use Rattle.host_link.specs.declared.host.SendAnswer.TheVariants as sent
use Rattle.host_link.specs.declared.host.KillAnswer.{KillAnswer}
use Rattle.host_link.specs.declared.host.KillAnswer.TheVariants as killed

-- the exchanges so far, where the host tells them; its count of faults; and for each child that it has
-- started, by number, whether the child was asked Kill
pub record HostState : Type 0 where
  pub told : Option (List Exchange)
  pub faults : ℕ
  pub kills : List Bool

-- ANSWERS AS EXCHANGES TELL THEM
abbrev pub spawned_answer : Spawned → model.Answer
spawned_answer (spawned.Started child) = model.Started child
spawned_answer spawned.Refused = model.Refused

-- the bytes are those at the front of the room that was given
abbrev pub got_answer : List ℕ → Got → model.Answer
got_answer into (got.Bytes n) = model.Bytes (take n into)
got_answer into got.Nothing = model.Nothing
got_answer into got.End = model.End
got_answer into got.Failed = model.Failed

abbrev pub ended_answer : Ended → model.Answer
ended_answer (ended.Code code) = model.Code code
ended_answer ended.Signal = model.Signal
ended_answer ended.Running = model.Running
ended_answer ended.Failed = model.Failed

abbrev pub send_answer : SendAnswer → model.Answer
send_answer sent.Sent = model.Sent
send_answer sent.Broken = model.Broken

abbrev pub kill_answer : KillAnswer → model.Answer
kill_answer killed.Killed = model.Killed
kill_answer killed.Failed = model.Failed

-- the answers that are faults of the host
abbrev pub is_fault : model.Answer → Bool
is_fault model.Refused = true
is_fault model.Broken = true
is_fault model.Failed = true
is_fault _ = false

-- the count of faults behind an answer: one that is a fault counts once
abbrev pub faults_after : model.Answer → ℕ → ℕ
faults_after answer faults = if is_fault answer then next_count faults else faults

-- the children after a spawn
abbrev pub after_spawn : List Bool → Spawned → List Bool
after_spawn kills (spawned.Started child) = kills ++ false ∷ []
after_spawn kills spawned.Refused = kills

-- a child that was started has the next number
abbrev pub IsNumbered : ℕ → Spawned → Type 0
IsNumbered next (spawned.Started child) = child ≡ next
IsNumbered next spawned.Refused = Unit {0}

-- a read gives at least one byte, and no more than there is room for
abbrev pub Fits : ℕ → Got → Type 0
Fits room (got.Bytes n) = (1 ≤ n) × (n ≤ room)
Fits room _ = Unit {0}

-- one exchange was made: it is told, where the host tells, and a fault has its cause in the count
pub record Exchanged (old new : HostState) (children : List Bool) (ask : model.Ask)
    (answer : model.Answer) : Type 0 where
  pub told : new.told ≡ option_map (λ list. list ++ record { ask = ask; answer = answer } ∷ []) old.told
  pub kills : new.kills ≡ children
  pub cause : HasCause old.faults new.faults (IsTrue (is_fault answer))

-- one exchange was made, or memory was wanting before anything was asked
abbrev pub Asked : {T E : Type 0} → HostState → HostState → (T → List Bool) → model.Ask →
    (T → model.Answer) → Result T E → Type 0
Asked old new children ask answer result =
    MatchResult result (λ x. Exchanged old new (children x) ask (answer x)) (λ _. new ≡ old)

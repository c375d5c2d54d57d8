-- A host that answers as a list of exchanges has it: what it means, and what a call does to it.
use Rattle.std.specs.Prelude.{◌≡◌, ℕ, ◌+◌, ◌≤◌, Bool, true, false, not, if◌then◌else◌, List, [], ◌∷◌}
use Rattle.std.specs.Prelude.{◌++◌, length, take, slice_get, Some}
use Rattle.plain_machine.specs.Exchanges.{Ask, Answer, Exchange, Spawn, Read, AskEnd, Send, Close, Kill}
use Rattle.plain_machine.specs.Exchanges.{Refused, Bytes, Broken, Closed, Failed, children_started}
use Rattle.plain_machine.specs.Exchanges.{started_by}
use Rattle.host_link.specs.Hosts.{HostState, faults_after}
use Rattle.host_link.specs.Played.{kills_after}
use Rattle.journal_text.specs.Allowed.{IsAnswerTo}

-- the exchanges that it answers by; how many of them it has answered; whether an ask has differed or found
-- them used up; which children were asked Kill; how many answers were faults; and the exchanges that were
-- made
pub record ReplayState : Type 0 where
  pub list : List Exchange
  pub matched : ℕ
  pub strayed : Bool
  pub kills : List Bool
  pub faults : ℕ
  pub told : List Exchange

-- what it means as a host
abbrev pub host_state : ReplayState → HostState
host_state s = record { told = Some s.told; faults = s.faults; kills = s.kills }

-- before any call
abbrev pub new_replay : List Exchange → ReplayState
new_replay list = record { list = list; matched = 0; strayed = false; kills = []; faults = 0; told = [] }

-- so many children were started by the first exchanges of a list
abbrev pub started_in : ℕ → List Exchange → ℕ
started_in n list = length (children_started (take n list))

-- the bytes of a read fit into the room that was given
abbrev pub HasRoom : (room : ℕ) → Answer → Type 0
HasRoom room (Bytes bytes) = length bytes ≤ room
HasRoom room _ = Unit {0}

-- an exchange comes next in the list, and an ask agrees with it
pub record Agrees (strayed : Bool) (list : List Exchange) (at : ℕ) (ask : Ask) (room : ℕ)
    (x : Exchange) : Type 0 where
  pub on : strayed ≡ false
  pub next : slice_get list at ≡ Some x
  pub same : x.ask ≡ ask
  pub fits : HasRoom room x.answer

-- what an ask is answered that strays
abbrev pub stray_answer : Ask → Answer
stray_answer (Spawn program args) = Refused
stray_answer (Read child) = Failed
stray_answer (AskEnd child) = Failed
stray_answer (Send child bytes) = Broken
stray_answer (Close child) = Closed
stray_answer (Kill child) = Failed

-- the answer is the one of the next exchange, with which the ask agrees; or the ask strays
abbrev pub IsReply : Bool → List Exchange → (at : ℕ) → Ask → (room : ℕ) → (follows : Bool) → Answer → Type 0
IsReply strayed list at ask room true answer =
    (x : Exchange) × Agrees strayed list at ask room x × (answer ≡ x.answer)
IsReply strayed list at ask room false answer =
    ((x : Exchange) → Agrees strayed list at ask room x → ⊥) × (answer ≡ stray_answer ask)

-- what a reply comes to, and how many exchanges of the list are answered then
pub record Replied (strayed : Bool) (list : List Exchange) (at : ℕ) (ask : Ask) (room : ℕ)
    (follows : Bool) (matched : ℕ) (answer : Answer) : Type 0 where
  pub reply : IsReply strayed list at ask room follows answer
  pub matched_is : matched ≡ (if follows then at + 1 else at)
  pub within : matched ≤ length list
  pub allowed : IsAnswerTo (started_in at list) ask answer
  pub fits : HasRoom room answer
  pub started : started_in matched list ≡ started_in at list + length (started_by answer)

-- the host after an exchange
abbrev pub after_exchange : ReplayState → (follows : Bool) → Ask → Answer → ReplayState
after_exchange s follows ask answer = record {
  list = s.list;
  matched = if follows then s.matched + 1 else s.matched;
  strayed = not follows;
  kills = kills_after s.kills ask answer;
  faults = faults_after answer s.faults;
  told = s.told ++ record { ask = ask; answer = answer } ∷ [];
}

-- the call has this answer and leaves this host
pub record Replays (old new : ReplayState) (ask : Ask) (room : ℕ) (answer : Answer) : Type 0 where
  pub follows : Bool
  pub reply : IsReply old.strayed old.list old.matched ask room follows answer
  pub after : new ≡ after_exchange old follows ask answer

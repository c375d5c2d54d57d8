-- What a run has at a moment, and for which states of the machine it stands.
use Rattle.std.specs.Prelude.{◌≡◌, ℕ, ◌+◌, ◌<◌, ◌≤◌, ◌^◌, Bool, true, false, List, [], ◌∷◌, length, map}
use Rattle.std.specs.Prelude.{filter, slice_get, Some, All}
use Rattle.plain_machine.specs.Exchanges.{Ask, Answer}
use Rattle.plain_machine.specs.State.{State, Process}
use Rattle.plain_machine.specs.Arguments.{runs}
use Rattle.process_table.specs.Table.{kept}
use Rattle.ek_types.specs.Io.{SinkState}
use Rattle.host_link.specs.Hosts.{HostState}
use Rattle.kernel_steps.specs.HostCalls.{CallsSince}
use Rattle.kernel_steps.specs.Outside.{Outside, outside, unasked}

-- STATES
-- A state as the program keeps it: of all bytes read from a process, those that the next bytes may still
-- change.
abbrev pub kept_state : State → State
kept_state s = record s { processes = map kept s.processes }

abbrev pub Stands : (known s : State) → Type 0
Stands known s = known ≡ kept_state s

-- WORLDS
-- what the kernel keeps, which children were asked to be killed, and what was done to the outside
pub record World : Type 1 where
  pub state : State
  pub kills : List Bool
  pub outside : Outside

abbrev pub world : {M H : Type 0} → (M → State) → (H → HostState) →
    (H → H → Ask → ℕ → Answer → Type 0) → (start : H) → M → H → SinkState → World
world state hosted made start kernel host sink =
    record {
      state = state kernel;
      kills = (hosted host).kills;
      outside = outside sink (CallsSince hosted made start host);
    }

-- whatever was asked before, of the world before a call and the one behind it
abbrev pub Between : {M H : Type 0} → (M → State) → (H → HostState) →
    (H → H → Ask → ℕ → Answer → Type 0) → (old new : M) → (host host' : H) → (sink sink' : SinkState) →
    (World → World → Type 0) → Type 0
Between {H = H} state hosted made old new host host' sink sink' Q = (start : H) →
    Q (world state hosted made start old host sink) (world state hosted made start new host' sink')

-- a world in which nothing was asked
abbrev pub quiet_world : State → (kills : List Bool) → SinkState → World
quiet_world s kills sink = record { state = s; kills = kills; outside = unasked sink }

-- CHILDREN
abbrev pub running : List Process → List Process
running list = filter (λ x. runs x.status) list

abbrev pub children : List Process → List ℕ
children list = map (λ x. x.child) list

-- Each process's child was started; one that runs wasn't asked to be killed; children come by rising number.
abbrev pub Hosted : List Process → (kills : List Bool) → Type 0
Hosted [] kills = Unit {0}
Hosted (x ∷ rest) kills = (x.child < length kills) ×
    (runs x.status ≡ true → slice_get kills x.child ≡ Some false) × All (λ y. x.child < y.child) rest ×
    Hosted rest kills

-- of work that asks nothing, whatever host there is
abbrev pub Aside : (old new : State) → (sink sink' : SinkState) → (World → World → Type 0) → Type 0
Aside old new sink sink' Q = (kills : List Bool) → Hosted old.processes kills →
    Q (quiet_world old kills sink) (quiet_world new kills sink')

-- A piece of work may begin: its children are hosted, and handlers aren't nested too deep. Where they are
-- as deep as they get, a hook function is running, and hooks are inhibited.
pub record IsReady (s : State) (kills : List Bool) : Type 0 where
  pub hosted : Hosted s.processes kills
  pub few : length kills ≤ 2 ^ 31 + length s.processes
  pub depth : s.depth ≤ 17
  pub in_hook : s.depth ≡ 17 → s.inhibited ≡ true

-- a handler may be entered
pub record MayEnter (s : State) : Type 0 where
  pub depth : s.depth ≤ 16
  pub in_hook : s.depth ≡ 16 → s.inhibited ≡ true

-- what a piece of work leaves as it was, or only adds to
pub record Keeps (before now : World) : Type 0 where
  pub hosted : Hosted now.state.processes now.kills
  pub count : length now.kills + length before.state.processes ≤ length before.kills + length
      now.state.processes
  pub depth : now.state.depth ≡ before.state.depth
  pub inhibited : now.state.inhibited ≡ before.state.inhibited
  pub asked : before.state.asked ≤ now.state.asked

-- The end of a run: children that run are killed, with a line for each and the dump, or in silence where
-- the run was broken off.
use Rattle.std.specs.Prelude.{◌≡◌, ℕ, ◌≤◌, ◌⊎◌, All, List, [], ◌∷◌, ◌++◌, drop, length, Result, Ok, Err}
use Rattle.std.specs.Io.KnownBytes.{Appends}
use Rattle.text_model.specs.Fronts.{IsPrefixOf}
use Rattle.editor_model.specs.Values.{NoForms}
use Rattle.plain_machine.specs.Exchanges.{Ask, Answer, Exchange, Killed, Failed}
use Rattle.plain_machine.specs.State.{State, Program, new_state}
use Rattle.plain_machine.specs.Items.{Top, Finish, Said, Config, Ended}
use Rattle.plain_machine.specs.Step.{step}
use Rattle.plain_machine.specs.Run.{Reaches, lines}
use Rattle.plain_machine.specs.WholeRuns.{IsBetweenEntries, AreKills}
use Rattle.machine_laws.specs.Children.{to_kill}
use Rattle.host_link.specs.Hosts.{HostState}
use Rattle.ek_types.specs.Io.{SinkState, HasCause}
use Rattle.kernel_steps.specs.HostCalls.{CallsSince}
use Rattle.kernel_steps.specs.Outside.{deepest, Outside, outside, Adds, Goes, CameTo}
use Rattle.kernel_steps.specs.Worlds.{World, Stands, world, running, children}
use Rattle.kernel_steps.specs.Work.{working, GoesTo, Comes, lifted}
use Rattle.kernel_steps.specs.declared.stop.Stop.{Stop}
use Rattle.kernel_steps.specs.declared.stop.Stop.TheVariants as stop

-- a kill was answered Killed or Failed
abbrev pub IsAnsweredKill : Exchange → Type 0
IsAnsweredKill x = (x.answer ≡ Killed) ⊎ (x.answer ≡ Failed)

-- The run was broken off, and of the children that live by the machine all but some are killed.
pub record Halts (why : Stop) (program : Program) (before now : Outside) (from : Config)
    (left : List ℕ) : Type 0 where
  pub made : List Exchange
  pub kills : List Exchange
  pub said : List Said
  pub last : Config
  pub run : Reaches program deepest from made said last
  pub between : IsBetweenEntries last
  pub bytes : List ℕ
  pub front : IsPrefixOf bytes (lines said)
  pub came : CameTo why program from made said last bytes
  pub written : Appends before.sink.held now.sink.held bytes
  pub adds : Adds before.past now.past (made ++ kills)
  pub later : before.sink.faults ≤ now.sink.faults
  pub roomy : length (lines said) ≤ before.sink.room → now.sink.faults ≡ before.sink.faults
  pub done : List ℕ
  pub killed : AreKills done kills
  pub answered : All IsAnsweredKill kills
  pub living : to_kill last ≡ done ++ left

-- HOW FAR A RUN CAME FROM WHERE IT BEGAN
-- its forms are run, or it was broken off
pub record CameSoFar {T : Type 0} (so_far : Result T Stop) (program : Program) (before now : World)
    (from : Config) : Type 0 where
  pub comes : Comes (lifted so_far) program before now from (λ x s. working s (Top NoForms ∷ []))
      (λ f s. working s (Top NoForms ∷ []))
  pub cause : HasCause before.outside.sink.faults now.outside.sink.faults (so_far ≡ Err stop.WriteFault)

-- processes below p are dealt with
abbrev pub DealsWith : {T : Type 0} → Result T Stop → Program → (p : ℕ) → (before now : World) →
    (from : Config) → Type 0
DealsWith (Ok x) program p before now from = GoesTo program before now from (λ s. working s (Finish p ∷ []))
DealsWith (Err why) program p before now from =
    Halts why program before.outside now.outside from (children (running (drop p now.state.processes)))

pub record IsAtEnd {T : Type 0} (so_far : Result T Stop) (program : Program) (p : ℕ)
    (before now : World) (from : Config) : Type 0 where
  pub deals : DealsWith so_far program p before now from
  pub cause : HasCause before.outside.sink.faults now.outside.sink.faults (so_far ≡ Err stop.WriteFault)

-- the whole run has ended, or was broken off and no child is left
abbrev pub Finishes : {T : Type 0} → Result T Stop → Program → (before now : World) → (from : Config) → Type 0
Finishes (Ok x) program before now from =
    (last : Config) × (step program deepest last ≡ Ended) × Stands now.state last.state ×
    Goes program before.outside now.outside from last
Finishes (Err why) program before now from = Halts why program before.outside now.outside from []

pub record IsOver {T : Type 0} (result : Result T Stop) (program : Program) (before now : World)
    (from : Config) : Type 0 where
  pub finishes : Finishes result program before now from
  pub cause : HasCause before.outside.sink.faults now.outside.sink.faults (result ≡ Err stop.WriteFault)

-- where a run began: with the machine's new state, and with no call made on the host
abbrev pub origin : {H : Type 0} → (H → HostState) → (H → H → Ask → ℕ → Answer → Type 0) → (start : H) →
    SinkState → World
origin hosted made start sink =
    record {
      state = new_state;
      kills = (hosted start).kills;
      outside = outside sink (CallsSince hosted made start start);
    }

-- However a run began: if it had come so far, it comes on like this.
abbrev pub ComesOn : {M H : Type 0} → (M → State) → (H → HostState) →
    (H → H → Ask → ℕ → Answer → Type 0) → (kernel : M) → (host host' : H) → (sink sink' : SinkState) →
    (so_far on : World → World → Config → Type 0) → Type 0
ComesOn {H = H} state hosted made kernel host host' sink sink' so_far on =
    (before : SinkState) (start : H) (from : Config) →
    so_far (origin hosted made start before) (world state hosted made start kernel host sink) from →
    on (origin hosted made start before) (world state hosted made start kernel host' sink') from

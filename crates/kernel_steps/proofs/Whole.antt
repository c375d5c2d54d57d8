-- The run of a script from its first form to its end.
use Rattle.std.proofs.Common.{◌≡◌, ℕ, ◌≤◌, ◌^◌, Bool, List, [], ◌∷◌, ◌++◌, length, Ok, Err, Result, refl, ap, sym, ◌∙◌, subst, arith, append-nil}
use Rattle.std.specs.Io.KnownBytes.{Appends}
use Rattle.editor_model.specs.Values.{Script, Forms, NoForms}
use Rattle.plain_machine.specs.Exchanges.{Exchange, Ask, Answer}
use Rattle.plain_machine.specs.State.{State, Program, new_state}
use Rattle.plain_machine.specs.Items.{Config, Top}
use Rattle.plain_machine.specs.Run.{lines, start}
use Rattle.plain_machine.specs.WholeRuns.{Ran, BrokenOff, AreKills}
use Rattle.machine_laws.specs.Children.{KillsLeft}
use Rattle.machine_laws.specs.Entries.{RanEntries, BrokenEntries, Sentinels, EndsAfterOutput, SentinelsAfterOutput}
use Rattle.machine_laws.specs.UndoneRuns.{UndoReturns}
use Rattle.host_link.specs.Hosts.{HostState}
use Rattle.ek_types.specs.Io.{SinkState, HasCause}
use Rattle.kernel_steps.specs.HostCalls.{CallsSince}
use Rattle.kernel_steps.specs.Outside.{deepest}
use Rattle.kernel_steps.specs.Worlds.{World, Hosted, IsReady}
use Rattle.kernel_steps.specs.Work.{working, Comes, RunsTop, Stays, lifted}
use Rattle.kernel_steps.specs.Ending.{CameSoFar, IsOver, origin}
use Rattle.kernel_steps.specs.Outcomes.{SentinelsComeAfterOutput, EndsAs}
use Rattle.kernel_steps.specs.declared.stop.Stop.{Stop}
use Rattle.kernel_steps.specs.declared.stop.Stop.TheVariants as stop
use Rattle.kernel_steps.specs.declared.stop.Halt.TheVariants as halt
use Rattle.kernel_steps.proofs.HostCalls.{all_calls}
use Rattle.kernel_steps.proofs.Tops.{top_before}

module _ (program : Program) (script : Script) where
  -- the entries of sentinels, by what was read before
  sentinels_after : SentinelsAfterOutput program deepest (start script) → (exchanges : List Exchange) → SentinelsComeAfterOutput program script exchanges
  sentinels_after law exchanges before after said c p x same run found entry = (law before said c run p x found entry).1

  module _ {H : Type 0} (state : H → HostState) (made : H → H → Ask → ℕ → Answer → Type 0) (start_host : H) (old : SinkState) (now : H) (new : SinkState) (known : State) where
    abbrev b : World
    b = record { state = known; kills = (state now).kills; outside = record { sink = new; past = CallsSince state made start_host now } }

    -- how a run ended
    pub ended : {T : Type 0} (r : Result T Stop) → KillsLeft program deepest (start script) → RanEntries program deepest script → BrokenEntries program deepest script → Sentinels program deepest (start script) →
        EndsAfterOutput program deepest (start script) → SentinelsAfterOutput program deepest (start script) → UndoReturns program deepest (start script) →
        IsOver r program (origin state made start_host old) b (start script) →
        (written : List ℕ) × (exchanges : List Exchange) × Appends old.held new.held written × CallsSince state made start_host now exchanges × EndsAs r program script exchanges written old new known
    ended (Ok x) left hear hear_broken come ends told undo h =
        let (last, ended, stands, gone) = h.finishes in
        let run : Ran program deepest script gone.made (lines gone.said) = record { said = gone.said; last = last; run = gone.run; ended = ended; bytes = refl } in (
          lines gone.said,
          gone.made,
          gone.written,
          all_calls state made start_host now gone.made gone.adds,
          (
            record {
              ran = run;
              entries = hear gone.made (lines gone.said) run;
              sentinels = come gone.made gone.said last gone.run;
              ends = ends gone.made gone.said last gone.run;
              sentinels_after_output = sentinels_after told gone.made;
              undo = λ first second later _. undo first second;
              roomy = λ few. (gone.roomy few).faults;
            },
            stands,
          ),
        )
    ended (Err why) left hear hear_broken come ends told undo h =
        let k = h.finishes in
        let broken : BrokenOff program deepest script (k.made ++ k.kills) k.bytes = record {
          made = k.made;
          kills = k.kills;
          said = k.said;
          last = k.last;
          run = k.run;
          between = k.between;
          exchanges_are = refl;
          killed = subst (λ l. AreKills l k.kills) (sym (left k.made k.said k.last k.run ∙ k.living ∙ append-nil k.done)) k.killed;
          bytes = k.front;
        } in (
          k.bytes,
          k.made ++ k.kills,
          k.written,
          all_calls state made start_host now (k.made ++ k.kills) k.adds,
          record {
            broken = broken;
            answered = k.answered;
            came = k.came;
            entries = hear_broken (k.made ++ k.kills) k.bytes broken;
            sentinels = come k.made k.said k.last k.run;
            ends = ends k.made k.said k.last k.run;
            sentinels_after_output = sentinels_after told k.made;
            undo = λ first second later _. undo first second;
            roomy = k.roomy;
          },
        )

-- THE TOP LEVEL
came_by : {T : Type 0} (r : Result T Stop) (program : Program) (before now : World) (from : Config) (rest : State → Config) →
    Comes (lifted r) program before now from (λ x s. working s (Top NoForms ∷ [])) (λ f s. rest s) → Comes (lifted r) program before now from (λ x s. working s (Top NoForms ∷ [])) (λ f s. working s (Top NoForms ∷ []))
came_by (Ok x) program before now from rest h = h
came_by (Err why) program before now from rest h = h

cause_by : {T : Type 0} (r : Result T Stop) (a b : ℕ) → HasCause a b (lifted r ≡ Err (halt.Stop stop.WriteFault)) → HasCause a b (r ≡ Err stop.WriteFault)
cause_by {T = T} r a b h = record { later = h.later; rose = λ e. h.rose (ap (lifted {T = T}) e) }

-- the forms of a script were run, on a new state
pub came : {T : Type 0} (r : Result T Stop) (program : Program) (forms : Forms) (before now : World) → before.state ≡ new_state → RunsTop (lifted r) program forms before now → CameSoFar r program before now (working new_state (Top forms ∷ []))
came r program forms before now new h = record {
  comes = came_by r program before now (working new_state (Top forms ∷ [])) (λ s. working s (Top NoForms ∷ [])) (h.path.comes new_state (Top NoForms ∷ []) new (top_before NoForms));
  cause = cause_by r before.outside.sink.faults now.outside.sink.faults h.path.cause;
}

pub new_ready : (s : State) (kills : List Bool) → s ≡ new_state → length kills ≤ 2 ^ 31 → IsReady s kills
new_ready s kills new few = subst (λ t. IsReady t kills) (sym new) (record { hosted = tt; few = omega (arith, few); depth = omega arith; in_hook = λ e. absurd (omega (arith, e)) })

pub stays_hosted : {T : Type 0} (r : Result T Stop) (before now : World) → Stays (lifted r) before now → Hosted now.state.processes now.kills
stays_hosted (Ok x) before now h = h.hosted
stays_hosted (Err why) before now h = h

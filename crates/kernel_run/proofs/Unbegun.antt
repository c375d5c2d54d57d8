-- A run that was broken off before its first step.
use Rattle.std.proofs.Common.{◌≡◌, List, [], ◌∷◌, ◌++◌, refl}
use Rattle.std.proofs.lemmas.List.Elements.{All-nil}
use Rattle.editor_model.specs.Values.{Script}
use Rattle.plain_machine.specs.State.{Program}
use Rattle.plain_machine.specs.Run.{start, stays}
use Rattle.machine_laws.specs.Entries.{SentinelsAfterOutput}
use Rattle.machine_laws.specs.UndoneRuns.{UndoReturns}
use Rattle.ek_types.specs.Io.{SinkState}
use Rattle.kernel_steps.specs.Outside.{deepest}
use Rattle.kernel_steps.specs.Ending.{IsAnsweredKill}
use Rattle.kernel_steps.specs.Outcomes.{StoppedScript}
use Rattle.kernel_steps.specs.declared.stop.Stop.TheVariants as stop

nothing_is_in : {T : Type 0} (before after : List T) (x : T) → [] ≡ before ++ x ∷ after → ⊥
nothing_is_in [] after x e = cc
nothing_is_in (y ∷ before) after x e = cc

pub unbegun : (program : Program) (script : Script) (sink : SinkState) → SentinelsAfterOutput program deepest (start script) → UndoReturns program deepest (start script) → StoppedScript stop.NoMemory program script [] [] sink sink
unbegun program script sink told undo = record {
  broken = record {
    made = [];
    kills = [];
    said = [];
    last = start script;
    run = stays;
    between = tt;
    exchanges_are = refl;
    killed = tt;
    bytes = ([], refl);
  };
  answered = All-nil IsAnsweredKill;
  came = refl;
  entries = λ p child e. absurd (let never = e in cc);
  sentinels = λ before after x p e entry. absurd (nothing_is_in before after x e);
  ends = λ before after x child e asked. absurd (nothing_is_in before after x e);
  sentinels_after_output = λ before after said c p x e run found entry. (told before said c run p x found entry).1;
  undo = λ first second later _. undo first second;
  roomy = λ few. refl;
}

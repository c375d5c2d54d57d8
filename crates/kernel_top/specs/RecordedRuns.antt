-- What the replay of a recorded run comes to.
use Rattle.std.specs.Prelude.{◌≡◌, ℕ, List, []}
use Rattle.text_model.specs.Fronts.{IsPrefixOf}
use Rattle.editor_model.specs.Values.{Script}
use Rattle.plain_machine.specs.Exchanges.{Exchange}
use Rattle.plain_machine.specs.State.{Program}
use Rattle.plain_machine.specs.Grammar.{IsScript}
use Rattle.ek_types.specs.Io.{SinkState}
use Rattle.kernel_top.specs.Sessions.{Records}
use Rattle.kernel_top.specs.Replaying.{Replayed}
use Rattle.kernel_top.specs.declared.status.Status.{Status}
use Rattle.kernel_top.specs.declared.status.Status.TheVariants as status

-- just these lines were written; or a front of them, where the sink failed or memory was wanting; and it
-- was never refused
abbrev pub IsReplayOf : (lines : List ℕ) → Status → (written : List ℕ) → Type 0
IsReplayOf lines status.Done written = written ≡ lines
IsReplayOf lines status.WriteFault written = IsPrefixOf written lines
IsReplayOf lines status.NoMemory written = IsPrefixOf written lines
IsReplayOf lines _ written = ⊥

-- A session was written whole, over a host that had started no child. Its bytes are replayed to the lines
-- of the recorded run.
abbrev pub RecordedRunsReplay : (Script → Program) → Type 0
RecordedRunsReplay program =
    (script : Script) (read bytes : List ℕ) (exchanges : List Exchange) (before now : SinkState) →
    IsScript read script →
    (recorded : Records status.Done (program script) script read bytes exchanges [] before now) →
    (answer : Status) (written : List ℕ) (before' now' : SinkState) →
    Replayed program answer bytes written before' now' → IsReplayOf recorded.whole.lines answer written

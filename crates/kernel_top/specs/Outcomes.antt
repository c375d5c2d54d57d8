-- What the top call claims, by its words and its status: of the bytes read, of the bytes written, and of
-- the exchanges made.
use Rattle.std.specs.Prelude.{◌≡◌, ℕ, ◌+◌, ◌<◌, ◌≤◌, ◌⊎◌, List, [], length, Option, Some, None, Result, Ok, Err}
use Rattle.std.specs.Io.KnownBytes.{Consumes, Appends}
use Rattle.editor_model.specs.Values.{Script}
use Rattle.plain_machine.specs.Exchanges.{Ask, Answer, Exchange}
use Rattle.plain_machine.specs.State.{Program}
use Rattle.plain_machine.specs.Grammar.{longest_script, IsScript}
use Rattle.plain_machine.specs.Drill.{drill_script}
use Rattle.ek_types.specs.Io.{SourceState, SinkState, Rose}
use Rattle.host_link.specs.Hosts.{HostState}
use Rattle.journal_text.specs.Lines.{longest_session}
use Rattle.session_laws.specs.Sessions.{StartsInTurn}
use Rattle.kernel_steps.specs.HostCalls.{CallsSince, TellsBehind}
use Rattle.kernel_steps.specs.Outcomes.{RanScript, StoppedScript}
use Rattle.kernel_steps.specs.declared.stop.Stop.{Stop}
use Rattle.kernel_steps.specs.declared.stop.Stop.TheVariants as stop
use Rattle.command_words.specs.SessionWords.{SessionWords}
use Rattle.kernel_top.specs.Reading.{HasEnded}
use Rattle.kernel_top.specs.Scripts.{IsNoScript}
use Rattle.kernel_top.specs.Writing.{IsWhollyWritten, IsFrontWritten}
use Rattle.kernel_top.specs.Drills.{SumsUp}
use Rattle.kernel_top.specs.Sessions.{Records, BreaksOffUnseen}
use Rattle.kernel_top.specs.Replaying.{ReadAnd, Replayed}
use Rattle.kernel_top.specs.Checking.{Told}
use Rattle.kernel_top.specs.Viewing.{Viewed}
use Rattle.kernel_top.specs.Gathering.{script_wanted, program_wanted, Gathers, Lined}
use Rattle.command_words.specs.declared.commands.Command.{Command}
use Rattle.command_words.specs.declared.commands.Command.TheVariants as command
use Rattle.kernel_top.specs.declared.status.Status.{Status}
use Rattle.kernel_top.specs.declared.status.Status.TheVariants as status

-- the status of a script that was run, by how that ended
abbrev pub status_of : {T : Type 0} → Result T Stop → Status
status_of (Ok x) = status.Done
status_of (Err stop.WriteFault) = status.WriteFault
status_of (Err stop.NoMemory) = status.NoMemory

-- the status of what is written last, by whether it was
abbrev pub written_status : {T E : Type 0} → Result T E → Status
written_status (Ok x) = status.Done
written_status (Err e) = status.WriteFault

-- what a source, a sink and a host mean
pub record Seen : Type 0 where
  pub source : SourceState
  pub sink : SinkState
  pub host : HostState

abbrev pub seen : SourceState → SinkState → HostState → Seen
seen source sink host = record { source = source; sink = sink; host = host }

-- nothing was written or asked
pub record IsQuiet (written : List ℕ) (exchanges : List Exchange) (before now : Seen) : Type 0 where
  pub nothing : written ≡ []
  pub alone : exchanges ≡ []
  pub sink : now.sink ≡ before.sink
  pub host : now.host ≡ before.host

-- the source has ended, the bytes read are a script, and this is so of it
pub record OfScript (read : List ℕ) (before now : Seen) (So : Script → Type 0) : Type 0 where
  pub ended : HasEnded before.source.left now.source.left
  pub script : Script
  pub is : IsScript read script
  pub so : So script

-- these bytes are no script, though the source has ended or gave more than a script may have; nothing was
-- written or asked
abbrev pub RefusesScript :
    (line : ℕ) → (read written : List ℕ) → List Exchange → (before now : Seen) → Type 0
RefusesScript line read written exchanges before now =
    (HasEnded before.source.left now.source.left ⊎ (longest_script < length read)) ×
    IsNoScript read line × IsQuiet written exchanges before now

-- BY STATUS. `read` are the bytes taken from the source, and `written` those put in the sink. The program
-- is that of a script.
-- a script is read: it was refused, or wasn't had, or this came of it
abbrev pub OnScript :
    (So : Status → Script → (read written : List ℕ) → List Exchange → (before now : Seen) → Type 0) →
    Status → (read written : List ℕ) → List Exchange → (before now : Seen) → Type 0
OnScript So (status.Script line) read written exchanges before now =
    RefusesScript line read written exchanges before now
OnScript So status.ReadFault read written exchanges before now = IsQuiet written exchanges before now
OnScript So status.NoMemory read written exchanges before now =
    IsQuiet written exchanges before now ⊎
    OfScript read before now (λ script. So status.NoMemory script read written exchanges before now)
OnScript So answer read written exchanges before now =
    OfScript read before now (λ script. So answer script read written exchanges before now)

-- a script was run
abbrev pub Runs :
    (Script → Program) → Status → Script → (read written : List ℕ) → List Exchange →
    (before now : Seen) → Type 0
Runs program status.Done script read written exchanges before now =
    RanScript (program script) script exchanges written before.sink now.sink
Runs program status.WriteFault script read written exchanges before now =
    StoppedScript stop.WriteFault (program script) script exchanges written before.sink now.sink
Runs program status.NoMemory script read written exchanges before now =
    StoppedScript stop.NoMemory (program script) script exchanges written before.sink now.sink
Runs program _ script read written exchanges before now = ⊥

-- a script was run, and its session written
abbrev pub RunsAndRecords :
    (Script → Program) → Status → Script → (read written : List ℕ) → List Exchange →
    (before now : Seen) → Type 0
RunsAndRecords program status.NoMemory script read written exchanges before now =
    BreaksOffUnseen (program script) script written exchanges before.sink now.sink
RunsAndRecords program answer script read written exchanges before now =
    Records answer (program script) script read written exchanges before.host.kills before.sink now.sink

-- a script was run, and its view written
abbrev pub RunsAndViews :
    (Script → Program) → Status → Script → (read written : List ℕ) → List Exchange →
    (before now : Seen) → Type 0
RunsAndViews program answer script read written exchanges before now =
    Viewed answer (program script) script written exchanges before.sink now.sink

-- the word `run`
abbrev pub OnRun :
    (Script → Program) → Status → (read written : List ℕ) → List Exchange → (before now : Seen) → Type 0
OnRun program answer read written exchanges before now =
    OnScript (Runs program) answer read written exchanges before now

-- the word `record`
abbrev pub OnRecord :
    (Script → Program) → Status → (read written : List ℕ) → List Exchange → (before now : Seen) → Type 0
OnRecord program answer read written exchanges before now =
    OnScript (RunsAndRecords program) answer read written exchanges before now

-- the word `view`
abbrev pub OnView :
    (Script → Program) → Status → (read written : List ℕ) → List Exchange → (before now : Seen) → Type 0
OnView program answer read written exchanges before now =
    OnScript (RunsAndViews program) answer read written exchanges before now

-- the word `replay`: the host is asked nothing
abbrev pub OnReplay :
    (Script → Program) → Status → (read written : List ℕ) → List Exchange → (before now : Seen) → Type 0
OnReplay program answer read written exchanges before now =
    (exchanges ≡ []) × (now.host ≡ before.host) ×
    ReadAnd (Replayed program) answer read written
    (HasEnded before.source.left now.source.left) before.sink now.sink

-- the word `check`: the host is asked nothing
abbrev pub OnCheck :
    (Script → Program) → Status → (read written : List ℕ) → List Exchange → (before now : Seen) → Type 0
OnCheck program answer read written exchanges before now =
    (exchanges ≡ []) × (now.host ≡ before.host) ×
    ReadAnd (Told program) answer read written
    (HasEnded before.source.left now.source.left) before.sink now.sink

-- the summary was written whole
pub record WritesSummary (program : Program) (count : ℕ) (written : List ℕ) (exchanges : List Exchange)
    (before now : Seen) : Type 0 where
  pub line : List ℕ
  pub sums : SumsUp program count exchanges line
  pub summary : IsWhollyWritten line written before.sink now.sink

-- a front of the summary was written
pub record CutsSummary (program : Program) (count : ℕ) (written : List ℕ) (exchanges : List Exchange)
    (before : Seen) : Type 0 where
  pub line : List ℕ
  pub sums : SumsUp program count exchanges line
  pub summary : IsFrontWritten line written before.sink

-- the words `drill` and a number
abbrev pub OnDrill :
    (Script → Program) → (count : ℕ) → Status → (written : List ℕ) → List Exchange →
    (before now : Seen) → Type 0
OnDrill program count status.Done written exchanges before now =
    WritesSummary (program (drill_script count)) count written exchanges before now
OnDrill program count status.WriteFault written exchanges before now =
    CutsSummary (program (drill_script count)) count written exchanges before
OnDrill program count status.NoMemory written exchanges before now =
    IsQuiet written exchanges before now ⊎
    BreaksOffUnseen (program (drill_script count)) (drill_script count) written exchanges before.sink now.sink
OnDrill program count _ written exchanges before now = ⊥

-- a run whose text is gathered
abbrev pub OnGathering :
    Program → Script → Status → (written : List ℕ) → List Exchange → (before now : Seen) → Type 0
OnGathering program script status.NoMemory written exchanges before now =
    IsQuiet written exchanges before now ⊎
    BreaksOffUnseen program script written exchanges before.sink now.sink
OnGathering program script answer written exchanges before now =
    Gathers answer program script written exchanges before.sink now.sink

-- The words `session`, a number, a program and its words: besides, what is written are the lines of the
-- exchanges, and the child was started again at most so often, each time behind an end otherwise than by
-- code 0.
pub record OnSession (wanted : SessionWords) (answer : Status) (written : List ℕ)
    (exchanges : List Exchange) (before now : Seen) : Type 0 where
  pub gathered : OnGathering (program_wanted wanted) (script_wanted wanted) answer written exchanges before now
  pub lined : Lined answer written exchanges
  pub starts : StartsInTurn wanted.limit exchanges

-- other words
abbrev pub OnOthers : Status → (written : List ℕ) → List Exchange → (before now : Seen) → Type 0
OnOthers status.Usage written exchanges before now = IsQuiet written exchanges before now
OnOthers _ written exchanges before now = ⊥

-- nothing was read
abbrev pub IsUnread : (read : List ℕ) → (before now : Seen) → Type 0
IsUnread read before now = (read ≡ []) × (now.source ≡ before.source)

-- BY WHAT THE WORDS ASK FOR, which is nothing where the program doesn't know them
abbrev pub Outcome :
    (Script → Program) → Option Command → Status → (read written : List ℕ) → List Exchange →
    (before now : Seen) →
    Type 0
Outcome program (Some command.Run) answer read written exchanges before now =
    OnRun program answer read written exchanges before now
Outcome program (Some command.Record) answer read written exchanges before now =
    OnRecord program answer read written exchanges before now
Outcome program (Some command.Replay) answer read written exchanges before now =
    OnReplay program answer read written exchanges before now
Outcome program (Some command.Check) answer read written exchanges before now =
    OnCheck program answer read written exchanges before now
Outcome program (Some command.View) answer read written exchanges before now =
    OnView program answer read written exchanges before now
Outcome program (Some (command.Drill count)) answer read written exchanges before now =
    IsUnread read before now × OnDrill program count answer written exchanges before now
Outcome program (Some (command.Session wanted)) answer read written exchanges before now =
    IsUnread read before now × OnSession wanted answer written exchanges before now
Outcome program None answer read written exchanges before now =
    IsUnread read before now × OnOthers answer written exchanges before now

-- how many bytes a call asks of its source at most
abbrev pub most_read : Option Command → ℕ
most_read (Some command.Replay) = longest_session + 1
most_read (Some command.Check) = longest_session + 1
most_read _ = longest_script + 1

-- What a call came to, by what its words ask for. The bytes read and written are those that source and sink
-- tell, where they tell any. The exchanges are the calls that were made on the host, which tells them where
-- it tells any.
pub record Came {H : Type 0} (hosted : H → HostState) (made : H → H → Ask → ℕ → Answer → Type 0)
    (program : Script → Program) (asked : Option Command) (answer : Status) (start now : H)
    (source source' : SourceState) (sink sink' : SinkState) : Type 0 where
  pub read : List ℕ
  pub written : List ℕ
  pub exchanges : List Exchange
  pub taken : Consumes source.left source'.left read
  pub few : length read ≤ most_read asked
  pub put : Appends sink.held sink'.held written
  pub calls : CallsSince hosted made start now exchanges
  pub told : TellsBehind (hosted start).told (hosted now).told exchanges
  pub outcome : Outcome program asked answer read written exchanges (seen source sink (hosted start))
      (seen source' sink' (hosted now))

-- What a call came to, whatever its source.
pub record CameForAnySource {H : Type 0} (hosted : H → HostState) (made : H → H → Ask → ℕ → Answer → Type 0)
    (start now : H) (sink sink' : SinkState)
    (So : (written : List ℕ) → List Exchange → (before now : Seen) → Type 0) : Type 0 where
  pub written : List ℕ
  pub exchanges : List Exchange
  pub put : Appends sink.held sink'.held written
  pub calls : CallsSince hosted made start now exchanges
  pub so : (source source' : SourceState) →
      So written exchanges (seen source sink (hosted start)) (seen source' sink' (hosted now))

-- what became of bytes that were all that a source had
abbrev pub OfBytes :
    (On : Status → (read written : List ℕ) → List Exchange → (before now : Seen) → Type 0) →
    (bytes : List ℕ) → Status → (written : List ℕ) → List Exchange → (before now : Seen) → Type 0
OfBytes On bytes answer written exchanges before now =
    HasEnded before.source.left now.source.left → On answer bytes written exchanges before now

-- COMPLETENESS
-- done, or memory was wanting
abbrev pub Ends : Status → Type 0
Ends status.Done = Unit {0}
Ends status.NoMemory = Unit {0}
Ends _ = ⊥

-- the same, or the session was too long
abbrev pub EndsOrOverflows : Status → Type 0
EndsOrOverflows status.JournalFull = Unit {0}
EndsOrOverflows answer = Ends answer

-- the same, or the buffer of a line session became full
abbrev pub EndsOrFills : Status → Type 0
EndsOrFills status.SessionFull = Unit {0}
EndsOrFills answer = Ends answer

-- the same, or refused for what the bytes are
abbrev pub EndsOrRefuses : Status → Type 0
EndsOrRefuses (status.Journal line) = Unit {0}
EndsOrRefuses (status.Script line) = Unit {0}
EndsOrRefuses (status.Strayed most) = Unit {0}
EndsOrRefuses answer = Ends answer

-- the same, or refused for what the claimed lines are
abbrev pub EndsOrJudges : Status → Type 0
EndsOrJudges (status.Differs line) = Unit {0}
EndsOrJudges answer = EndsOrRefuses answer

-- it ended so, unless the source or the sink failed
abbrev pub UnlessFaults : (Ended : Type 0) → (source source' : SourceState) → (sink sink' : SinkState) → Type 0
UnlessFaults Ended source source' sink sink' =
    (Rose source.faults source'.faults → ⊥) → (Rose sink.faults sink'.faults → ⊥) → Ended

-- the same, where the source held a script
abbrev pub OnScriptUnlessFaults :
    (Ended : Type 0) → (source source' : SourceState) → (sink sink' : SinkState) → Type 0
OnScriptUnlessFaults Ended source source' sink sink' =
    (bytes : List ℕ) (script : Script) → source.left ≡ Some bytes → IsScript bytes script →
    UnlessFaults Ended source source' sink sink'

-- Where neither source nor sink failed: a script is run to its end, and its session or its view written; a
-- session or a transcript is replayed, judged or refused; a drill or a line session is run to its end; or
-- memory was wanting.
abbrev pub Completes :
    Option Command → Status → (source source' : SourceState) → (sink sink' : SinkState) → Type 0
Completes (Some command.Run) answer source source' sink sink' =
    OnScriptUnlessFaults (Ends answer) source source' sink sink'
Completes (Some command.Record) answer source source' sink sink' =
    OnScriptUnlessFaults (EndsOrOverflows answer) source source' sink sink'
Completes (Some command.Replay) answer source source' sink sink' =
    UnlessFaults (EndsOrRefuses answer) source source' sink sink'
Completes (Some command.Check) answer source source' sink sink' =
    UnlessFaults (EndsOrJudges answer) source source' sink sink'
Completes (Some command.View) answer source source' sink sink' =
    OnScriptUnlessFaults (Ends answer) source source' sink sink'
Completes (Some (command.Drill count)) answer source source' sink sink' =
    (Rose sink.faults sink'.faults → ⊥) → Ends answer
Completes (Some (command.Session wanted)) answer source source' sink sink' =
    (Rose sink.faults sink'.faults → ⊥) → EndsOrFills answer
Completes None answer source source' sink sink' = Unit {0}

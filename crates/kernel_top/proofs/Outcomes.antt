-- What follows from how a script ended, and from the outcome of a call.
use Rattle.std.proofs.Common.{◌≡◌, ℕ, ◌+◌, ◌<◌, ◌≤◌, List, [], length, Some, None, Result, Ok, Err, inl, inr, refl, sym, subst, arith}
use Rattle.std.specs.Prelude.{◌⊎◌}
use Rattle.std.specs.declared.option.Option.{Option}
use Rattle.std.specs.Io.KnownBytes.{Consumes, IsAtEnd, Appends}
use Rattle.std.proofs.KnownBytes.{Appends-nil}
use Rattle.editor_model.specs.Values.{Script}
use Rattle.plain_machine.specs.Exchanges.{Ask, Answer, Exchange}
use Rattle.plain_machine.specs.State.{State, Program}
use Rattle.plain_machine.specs.Grammar.{longest_script, IsScript}
use Rattle.plain_machine.specs.Drill.{drill_script}
use Rattle.ek_types.specs.Io.{SourceState, SinkState, Rose, Writes}
use Rattle.host_link.specs.Hosts.{HostState}
use Rattle.journal_text.specs.Lines.{longest_session}
use Rattle.kernel_steps.specs.Outcomes.{EndsAs}
use Rattle.kernel_steps.specs.declared.stop.Stop.{Stop}
use Rattle.kernel_steps.specs.declared.stop.Stop.TheVariants as stop
use Rattle.command_words.specs.SessionWords.{SessionWords}
use Rattle.kernel_top.specs.Reading.{HasEnded, IsAll}
use Rattle.kernel_top.specs.Scripts.{IsNoScript, TellsNoScript, IsUnreadScript, LeavesScriptUnread}
use Rattle.kernel_top.specs.Drills.{SumsUp}
use Rattle.kernel_top.specs.Checking.{OfCheck}
use Rattle.kernel_top.specs.Replaying.{ReadAnd, SourceSettled}
use Rattle.kernel_top.specs.Outcomes.{status_of, written_status, Seen, seen, IsQuiet, OnScript, OnRun, OnRecord, OnReplay, OnCheck, OnView, OnDrill, OnSession, IsUnread, Outcome, most_read, Came, CameForAnySource, OfBytes, Ends, EndsOrOverflows, EndsOrFills, EndsOrRefuses, EndsOrJudges, UnlessFaults, OnScriptUnlessFaults, Completes}
use Rattle.command_words.specs.declared.commands.Command.{Command}
use Rattle.command_words.specs.declared.commands.Command.TheVariants as command
use Rattle.kernel_top.specs.declared.status.Status.{Status}
use Rattle.kernel_top.specs.declared.status.Status.TheVariants as status
use Rattle.kernel_steps.proofs.HostCalls.{calls_told}
use Rattle.kernel_top.proofs.Taking.{all_read, front_only, consumes_nothing}
use Rattle.kernel_top.proofs.Writing.{all_written, front_written}

-- STATUSES
pub is_write_fault : {T : Type 0} (r : Result T Stop) → status_of r ≡ status.WriteFault → r ≡ Err stop.WriteFault
is_write_fault (Ok x) e = absurd (let no : status.Done ≡ status.WriteFault = e in cc)
is_write_fault (Err stop.WriteFault) e = refl
is_write_fault (Err stop.NoMemory) e = absurd (let no : status.NoMemory ≡ status.WriteFault = e in cc)

pub is_no_read_fault : {T : Type 0} (r : Result T Stop) → status_of r ≡ status.ReadFault → ⊥
is_no_read_fault (Ok x) e = let no : status.Done ≡ status.ReadFault = e in cc
is_no_read_fault (Err stop.WriteFault) e = let no : status.WriteFault ≡ status.ReadFault = e in cc
is_no_read_fault (Err stop.NoMemory) e = let no : status.NoMemory ≡ status.ReadFault = e in cc

-- HOW MUCH IS READ
few_read : (n : ℕ) (asked : Option Command) → n ≤ longest_script + 1 → n ≤ most_read asked
few_read n None h = h
few_read n (Some command.Run) h = h
few_read n (Some command.Record) h = h
few_read n (Some command.Replay) h = omega (arith, h)
few_read n (Some command.Check) h = omega (arith, h)
few_read n (Some command.View) h = h
few_read n (Some (command.Drill count)) h = h
few_read n (Some (command.Session wanted)) h = h

-- no verdict has this status
pub no_verdict : {read : List ℕ} → OfCheck read (λ journal claimed script. ⊥) → ⊥
no_verdict of = let (script, is, never) = of.so in never

-- THE OUTCOME
pub quiet : (source source' : SourceState) (sink : SinkState) (host : HostState) → IsQuiet [] [] (seen source sink host) (seen source' sink host)
quiet source source' sink host = record { nothing = refl; alone = refl; sink = refl; host = refl }

-- more bytes than a script may have are none
too_long : (bytes : List ℕ) → longest_script < length bytes → IsNoScript bytes 0
too_long bytes long = record { none = λ script is. omega (arith, is.short, long); at = inl (long, refl) }

-- a script that isn't there is no fault of source or sink, and one that wasn't had is none of the sink
pub refused_no_read : (answer : Status) (bytes : List ℕ) → TellsNoScript answer bytes → answer ≡ status.ReadFault → ⊥
refused_no_read answer bytes none e = subst (λ a. TellsNoScript a bytes) e none

pub refused_no_write : (answer : Status) (bytes : List ℕ) → TellsNoScript answer bytes → answer ≡ status.WriteFault → ⊥
refused_no_write answer bytes none e = subst (λ a. TellsNoScript a bytes) e none

pub unread_no_write : (answer : Status) (read : List ℕ) → IsUnreadScript answer read → answer ≡ status.WriteFault → ⊥
unread_no_write answer read un e = subst (λ a. IsUnreadScript a read) e un

module _ (So : Status → Script → (read written : List ℕ) → List Exchange → (before now : Seen) → Type 0) where
  -- the bytes of a script weren't had
  pub on_unread : (answer : Status) (read : List ℕ) → IsUnreadScript answer read → (source source' : SourceState) (sink : SinkState) (host : HostState) → OnScript So answer read [] [] (seen source sink host) (seen source' sink host)
  on_unread (status.Script line) read (none, long) source source' sink host = rw none (inr long, too_long read long, quiet source source' sink host)
  on_unread status.ReadFault read un source source' sink host = quiet source source' sink host
  on_unread status.NoMemory read un source source' sink host = inl (quiet source source' sink host)
  on_unread status.Done read un source source' sink host = absurd un
  on_unread status.Usage read un source source' sink host = absurd un
  on_unread status.WriteFault read un source source' sink host = absurd un
  on_unread (status.Journal line) read un source source' sink host = absurd un
  on_unread status.JournalFull read un source source' sink host = absurd un
  on_unread (status.Strayed most) read un source source' sink host = absurd un
  on_unread (status.Differs line) read un source source' sink host = absurd un
  on_unread status.SessionFull read un source source' sink host = absurd un

  -- they are no script
  on_refused : (answer : Status) (bytes : List ℕ) → TellsNoScript answer bytes → (source source' : SourceState) (sink : SinkState) (host : HostState) → HasEnded source.left source'.left → OnScript So answer bytes [] [] (seen source sink host) (seen source' sink host)
  on_refused (status.Script line) bytes none source source' sink host ended = (inl ended, none, quiet source source' sink host)
  on_refused status.NoMemory bytes none source source' sink host ended = inl (quiet source source' sink host)
  on_refused status.Done bytes none source source' sink host ended = absurd none
  on_refused status.Usage bytes none source source' sink host ended = absurd none
  on_refused status.WriteFault bytes none source source' sink host ended = absurd none
  on_refused (status.Journal line) bytes none source source' sink host ended = absurd none
  on_refused status.JournalFull bytes none source source' sink host ended = absurd none
  on_refused (status.Strayed most) bytes none source source' sink host ended = absurd none
  on_refused (status.Differs line) bytes none source source' sink host ended = absurd none
  on_refused status.SessionFull bytes none source source' sink host ended = absurd none
  on_refused status.ReadFault bytes none source source' sink host ended = absurd none

  pub came_refused : {H : Type 0} (hosted : H → HostState) (made : H → H → Ask → ℕ → Answer → Type 0) (answer : Status) (bytes : List ℕ) (start : H) (sink : SinkState) → TellsNoScript answer bytes → CameForAnySource hosted made start start sink sink (OfBytes (OnScript So) bytes answer)
  came_refused hosted made answer bytes start sink none = record {
    written = [];
    exchanges = [];
    put = Appends-nil sink.held;
    calls = refl;
    so = λ source source' ended. on_refused answer bytes none source source' sink (hosted start) ended;
  }

-- what a script came to that was run
pub came : {T : Type 0} (program : Script → Program) (script : Script) (r : Result T Stop) (read written : List ℕ) (exchanges : List Exchange) (before now : Seen) (left : State) →
    HasEnded before.source.left now.source.left → IsScript read script → EndsAs r (program script) script exchanges written before.sink now.sink left →
    OnRun program (status_of r) read written exchanges before now
came program script (Ok x) read written exchanges before now left ended is (so, last) = record { ended = ended; script = script; is = is; so = so }
came program script (Err stop.WriteFault) read written exchanges before now left ended is so = record { ended = ended; script = script; is = is; so = so }
came program script (Err stop.NoMemory) read written exchanges before now left ended is so = inr (record { ended = ended; script = script; is = is; so = so })

-- what a drill came to whose summary was written, or a front of it
abbrev Drilled : (program : Script → Program) (count : ℕ) → Status → List Exchange → (sink sink' : SinkState) → (written : List ℕ) → Type 0
Drilled program count answer exchanges sink sink' written = (source source' : SourceState) (host host' : HostState) → OnDrill program count answer written exchanges (seen source sink host) (seen source' sink' host')

pub summed : {T E : Type 0} (program : Script → Program) (count : ℕ) (r : Result T E) (line : List ℕ) (exchanges : List Exchange) (sink sink' : SinkState) →
    SumsUp (program (drill_script count)) count exchanges line → Writes sink sink' r line →
    (written : List ℕ) × Appends sink.held sink'.held written × Drilled program count (written_status r) exchanges sink sink' written
summed program count (Ok x) line exchanges sink sink' sums w = (line, w.ok, λ source source' host host'. record { line = line; sums = sums; summary = all_written sink sink' line w })
summed program count (Err e) line exchanges sink sink' sums w =
    let (front, is_front, put) = w.err in
    (front, put, λ source source' host host'. record { line = line; sums = sums; summary = front_written sink sink' line front w is_front })

module _ {H : Type 0} (hosted : H → HostState) (made : H → H → Ask → ℕ → Answer → Type 0) (program : Script → Program) (asked : Option Command) (answer : Status) (start now : H) (source source' : SourceState) (sink sink' : SinkState) where
  -- so it is of the bytes of a source, and the host has told its calls
  pub came_from : (On : Status → (read written : List ℕ) → List Exchange → (before now : Seen) → Type 0) (bytes : List ℕ) →
      ((written : List ℕ) (exchanges : List Exchange) (before now : Seen) → On answer bytes written exchanges before now → Outcome program asked answer bytes written exchanges before now) →
      IsAll longest_script bytes source source' → CameForAnySource hosted made start now sink sink' (OfBytes On bytes answer) → Came hosted made program asked answer start now source source' sink sink'
  came_from On bytes row all of = record {
    read = bytes;
    written = of.written;
    exchanges = of.exchanges;
    taken = all.taken;
    few = few_read _ asked (omega (arith, all.short));
    put = of.put;
    calls = of.calls;
    told = calls_told hosted made start now of.exchanges of.calls;
    outcome = row of.written of.exchanges _ _ (of.so source source' all.ended);
  }

  -- so it is where the bytes of a script weren't had, and nothing else was done
  pub came_left : ((bytes : List ℕ) → IsUnreadScript answer bytes → Outcome program asked answer bytes [] [] (seen source sink (hosted start)) (seen source' sink (hosted start))) →
      LeavesScriptUnread answer source source' → Came hosted made program asked answer start start source source' sink sink
  came_left row left = record {
    read = left.read;
    written = [];
    exchanges = [];
    taken = left.taken;
    few = few_read _ asked left.few;
    put = Appends-nil sink.held;
    calls = refl;
    told = calls_told hosted made start start [] refl;
    outcome = row left.read left.unread;
  }

  -- so it is of a drill or a line session, whose source is as it was
  pub came_aside : (So : (written : List ℕ) → List Exchange → (before now : Seen) → Type 0) →
      ((written : List ℕ) (exchanges : List Exchange) (before now : Seen) → IsUnread [] before now → So written exchanges before now → Outcome program asked answer [] written exchanges before now) →
      CameForAnySource hosted made start now sink sink' So → Came hosted made program asked answer start now source source sink sink'
  came_aside So row of = record {
    read = [];
    written = of.written;
    exchanges = of.exchanges;
    taken = consumes_nothing source.left;
    few = few_read 0 asked (omega arith);
    put = of.put;
    calls = of.calls;
    told = calls_told hosted made start now of.exchanges of.calls;
    outcome = row of.written of.exchanges _ _ (refl, refl) (of.so source source);
  }

  -- so it is of a replay or a check, which asks the host nothing
  pub came_settled : (So : Status → (read written : List ℕ) → (before now : SinkState) → Type 0) → most_read asked ≡ longest_session + 1 →
      ((read written : List ℕ) → ReadAnd So answer read written (HasEnded source.left source'.left) sink sink' → Outcome program asked answer read written [] (seen source sink (hosted start)) (seen source' sink' (hosted start))) →
      SourceSettled So answer source source' sink sink' → Came hosted made program asked answer start start source source' sink sink'
  came_settled So most row so = record {
    read = so.read;
    written = so.written;
    exchanges = [];
    taken = so.taken;
    few = subst (λ n. length so.read ≤ n) (sym most) so.few;
    put = so.put;
    calls = refl;
    told = calls_told hosted made start start [] refl;
    outcome = row so.read so.written so.so;
  }

-- so it is of words that the program doesn't know
pub came_unknown : {H : Type 0} (hosted : H → HostState) (made : H → H → Ask → ℕ → Answer → Type 0) (program : Script → Program) (start : H) (source : SourceState) (sink : SinkState) → Came hosted made program None status.Usage start start source source sink sink
came_unknown hosted made program start source sink = record {
  read = [];
  written = [];
  exchanges = [];
  taken = consumes_nothing source.left;
  few = few_read 0 None (omega arith);
  put = Appends-nil sink.held;
  calls = refl;
  told = calls_told hosted made start start [] refl;
  outcome = ((refl, refl), quiet source source sink (hosted start));
}

-- a drill comes to no read fault
pub drill_reads_nothing : {H : Type 0} (hosted : H → HostState) (made : H → H → Ask → ℕ → Answer → Type 0) (program : Script → Program) (count : ℕ) (answer : Status) (start now : H) (sink sink' : SinkState) (source : SourceState) →
    CameForAnySource hosted made start now sink sink' (OnDrill program count answer) → answer ≡ status.ReadFault → ⊥
drill_reads_nothing hosted made program count answer start now sink sink' source of e =
    subst (λ a. OnDrill program count a of.written of.exchanges (seen source sink (hosted start)) (seen source sink' (hosted now))) e (of.so source source)

-- nor does a line session
pub session_reads_nothing : {H : Type 0} (hosted : H → HostState) (made : H → H → Ask → ℕ → Answer → Type 0) (wanted : SessionWords) (answer : Status) (start now : H) (sink sink' : SinkState) (source : SourceState) →
    CameForAnySource hosted made start now sink sink' (OnSession wanted answer) → answer ≡ status.ReadFault → ⊥
session_reads_nothing hosted made wanted answer start now sink sink' source of e =
    let row : OnSession wanted status.ReadFault of.written of.exchanges (seen source sink (hosted start)) (seen source sink' (hosted now)) =
    subst (λ a. OnSession wanted a of.written of.exchanges (seen source sink (hosted start)) (seen source sink' (hosted now))) e (of.so source source) in
    row.gathered.text

-- COMPLETENESS
-- a script is not refused
told_ended : (bytes : List ℕ) (before now : Option (List ℕ)) → before ≡ Some bytes → HasEnded before now → IsAtEnd now
told_ended bytes None now told ended = absurd (let no : None ≡ Some bytes = told in cc)
told_ended bytes (Some left) now told ended = ended

no_script_read : (bytes read : List ℕ) (script : Script) (line : ℕ) (before now : Option (List ℕ)) → before ≡ Some bytes → Consumes before now read → HasEnded before now ⊎ (longest_script < length read) → IsScript bytes script → IsNoScript read line → ⊥
no_script_read bytes read script line before now told taken (inl end) is refused =
    let all : Consumes (Some bytes) now read = subst (λ o. Consumes o now read) told taken in
    let same : bytes ≡ read = all_read bytes read now all (told_ended bytes before now told end) in
    refused.none script (subst (λ l. IsScript l script) same is)
no_script_read bytes read script line before now told taken (inr long) is refused =
    let all : Consumes (Some bytes) now read = subst (λ o. Consumes o now read) told taken in
    omega (arith, long, front_only bytes read now all, is.short)

module _ (program : Script → Program) (read written : List ℕ) (exchanges : List Exchange) (source source' : SourceState) (sink sink' : SinkState) (host host' : HostState) (taken : Consumes source.left source'.left read) where
  abbrev before : Seen
  before = seen source sink host

  abbrev now : Seen
  now = seen source' sink' host'

  run_row : (result : Status) → OnRun program result read written exchanges before now → (result ≡ status.ReadFault → Rose source.faults source'.faults) → (result ≡ status.WriteFault → Rose sink.faults sink'.faults) →
      OnScriptUnlessFaults (Ends result) source source' sink sink'
  run_row status.Done o r w = λ bytes script told is unread unwritten. tt
  run_row status.NoMemory o r w = λ bytes script told is unread unwritten. tt
  run_row status.Usage o r w = λ bytes script told is unread unwritten. o.so
  run_row (status.Script line) (ended, refused, kept) r w = λ bytes script told is unread unwritten. absurd (no_script_read bytes read script line source.left source'.left told taken ended is refused)
  run_row status.ReadFault o r w = λ bytes script told is unread unwritten. unread (r refl)
  run_row status.WriteFault o r w = λ bytes script told is unread unwritten. unwritten (w refl)
  run_row (status.Journal line) o r w = λ bytes script told is unread unwritten. o.so
  run_row status.JournalFull o r w = λ bytes script told is unread unwritten. o.so
  run_row (status.Strayed most) o r w = λ bytes script told is unread unwritten. o.so
  run_row (status.Differs line) o r w = λ bytes script told is unread unwritten. o.so
  run_row status.SessionFull o r w = λ bytes script told is unread unwritten. o.so

  record_row : (result : Status) → OnRecord program result read written exchanges before now → (result ≡ status.ReadFault → Rose source.faults source'.faults) → (result ≡ status.WriteFault → Rose sink.faults sink'.faults) →
      OnScriptUnlessFaults (EndsOrOverflows result) source source' sink sink'
  record_row status.Done o r w = λ bytes script told is unread unwritten. tt
  record_row status.NoMemory o r w = λ bytes script told is unread unwritten. tt
  record_row status.Usage o r w = λ bytes script told is unread unwritten. o.so.session
  record_row (status.Script line) (ended, refused, kept) r w = λ bytes script told is unread unwritten. absurd (no_script_read bytes read script line source.left source'.left told taken ended is refused)
  record_row status.ReadFault o r w = λ bytes script told is unread unwritten. unread (r refl)
  record_row status.WriteFault o r w = λ bytes script told is unread unwritten. unwritten (w refl)
  record_row (status.Journal line) o r w = λ bytes script told is unread unwritten. o.so.session
  record_row status.JournalFull o r w = λ bytes script told is unread unwritten. tt
  record_row (status.Strayed most) o r w = λ bytes script told is unread unwritten. o.so.session
  record_row (status.Differs line) o r w = λ bytes script told is unread unwritten. o.so.session
  record_row status.SessionFull o r w = λ bytes script told is unread unwritten. o.so.session

  view_row : (result : Status) → OnView program result read written exchanges before now → (result ≡ status.ReadFault → Rose source.faults source'.faults) → (result ≡ status.WriteFault → Rose sink.faults sink'.faults) →
      OnScriptUnlessFaults (Ends result) source source' sink sink'
  view_row status.Done o r w = λ bytes script told is unread unwritten. tt
  view_row status.NoMemory o r w = λ bytes script told is unread unwritten. tt
  view_row status.Usage o r w = λ bytes script told is unread unwritten. o.so
  view_row (status.Script line) (ended, refused, kept) r w = λ bytes script told is unread unwritten. absurd (no_script_read bytes read script line source.left source'.left told taken ended is refused)
  view_row status.ReadFault o r w = λ bytes script told is unread unwritten. unread (r refl)
  view_row status.WriteFault o r w = λ bytes script told is unread unwritten. unwritten (w refl)
  view_row (status.Journal line) o r w = λ bytes script told is unread unwritten. o.so
  view_row status.JournalFull o r w = λ bytes script told is unread unwritten. o.so
  view_row (status.Strayed most) o r w = λ bytes script told is unread unwritten. o.so
  view_row (status.Differs line) o r w = λ bytes script told is unread unwritten. o.so
  view_row status.SessionFull o r w = λ bytes script told is unread unwritten. o.so

  replay_row : (result : Status) → OnReplay program result read written exchanges before now → (result ≡ status.ReadFault → Rose source.faults source'.faults) → (result ≡ status.WriteFault → Rose sink.faults sink'.faults) →
      UnlessFaults (EndsOrRefuses result) source source' sink sink'
  replay_row status.Done o r w = λ unread unwritten. tt
  replay_row status.NoMemory o r w = λ unread unwritten. tt
  replay_row status.Usage (alone, same, inl (ended, short, row)) r w = absurd row.so.2
  replay_row status.Usage (alone, same, inr (nothing, row)) r w = absurd row
  replay_row (status.Script line) o r w = λ unread unwritten. tt
  replay_row status.ReadFault o r w = λ unread unwritten. unread (r refl)
  replay_row status.WriteFault o r w = λ unread unwritten. unwritten (w refl)
  replay_row (status.Journal line) o r w = λ unread unwritten. tt
  replay_row status.JournalFull (alone, same, inl (ended, short, row)) r w = absurd row.so.2
  replay_row status.JournalFull (alone, same, inr (nothing, row)) r w = absurd row
  replay_row (status.Strayed most) o r w = λ unread unwritten. tt
  replay_row (status.Differs line) (alone, same, inl (ended, short, row)) r w = absurd row.so.2
  replay_row (status.Differs line) (alone, same, inr (nothing, row)) r w = absurd row
  replay_row status.SessionFull (alone, same, inl (ended, short, row)) r w = absurd row.so.2
  replay_row status.SessionFull (alone, same, inr (nothing, row)) r w = absurd row

  check_row : (result : Status) → OnCheck program result read written exchanges before now → (result ≡ status.ReadFault → Rose source.faults source'.faults) → (result ≡ status.WriteFault → Rose sink.faults sink'.faults) →
      UnlessFaults (EndsOrJudges result) source source' sink sink'
  check_row status.Done o r w = λ unread unwritten. tt
  check_row status.NoMemory o r w = λ unread unwritten. tt
  check_row status.Usage (alone, same, inl (ended, short, row)) r w = absurd (no_verdict row.1)
  check_row status.Usage (alone, same, inr (nothing, row)) r w = absurd row
  check_row (status.Script line) o r w = λ unread unwritten. tt
  check_row status.ReadFault o r w = λ unread unwritten. unread (r refl)
  check_row status.WriteFault o r w = λ unread unwritten. unwritten (w refl)
  check_row (status.Journal line) o r w = λ unread unwritten. tt
  check_row status.JournalFull (alone, same, inl (ended, short, row)) r w = absurd (no_verdict row.1)
  check_row status.JournalFull (alone, same, inr (nothing, row)) r w = absurd row
  check_row (status.Strayed most) o r w = λ unread unwritten. tt
  check_row (status.Differs line) o r w = λ unread unwritten. tt
  check_row status.SessionFull (alone, same, inl (ended, short, row)) r w = absurd (no_verdict row.1)
  check_row status.SessionFull (alone, same, inr (nothing, row)) r w = absurd row

  drill_row : (n : ℕ) (result : Status) → OnDrill program n result written exchanges before now → (result ≡ status.WriteFault → Rose sink.faults sink'.faults) → (Rose sink.faults sink'.faults → ⊥) → Ends result
  drill_row n status.Done o w = λ unwritten. tt
  drill_row n status.NoMemory o w = λ unwritten. tt
  drill_row n status.Usage o w = λ unwritten. o
  drill_row n (status.Script line) o w = λ unwritten. o
  drill_row n status.ReadFault o w = λ unwritten. o
  drill_row n status.WriteFault o w = λ unwritten. unwritten (w refl)
  drill_row n (status.Journal line) o w = λ unwritten. o
  drill_row n status.JournalFull o w = λ unwritten. o
  drill_row n (status.Strayed most) o w = λ unwritten. o
  drill_row n (status.Differs line) o w = λ unwritten. o
  drill_row n status.SessionFull o w = λ unwritten. o

  session_row : (n : SessionWords) (result : Status) → OnSession n result written exchanges before now → (result ≡ status.WriteFault → Rose sink.faults sink'.faults) → (Rose sink.faults sink'.faults → ⊥) → EndsOrFills result
  session_row n status.Done o w = λ unwritten. tt
  session_row n status.NoMemory o w = λ unwritten. tt
  session_row n status.Usage o w = λ unwritten. o.gathered.text
  session_row n (status.Script line) o w = λ unwritten. o.gathered.text
  session_row n status.ReadFault o w = λ unwritten. o.gathered.text
  session_row n status.WriteFault o w = λ unwritten. unwritten (w refl)
  session_row n (status.Journal line) o w = λ unwritten. o.gathered.text
  session_row n status.JournalFull o w = λ unwritten. o.gathered.text
  session_row n (status.Strayed most) o w = λ unwritten. o.gathered.text
  session_row n (status.Differs line) o w = λ unwritten. o.gathered.text
  session_row n status.SessionFull o w = λ unwritten. tt

  complete : (asked : Option Command) (result : Status) → Outcome program asked result read written exchanges before now → (result ≡ status.ReadFault → Rose source.faults source'.faults) → (result ≡ status.WriteFault → Rose sink.faults sink'.faults) →
      Completes asked result source source' sink sink'
  complete (Some command.Run) result row r w = run_row result row r w
  complete (Some command.Record) result row r w = record_row result row r w
  complete (Some command.Replay) result row r w = replay_row result row r w
  complete (Some command.Check) result row r w = check_row result row r w
  complete (Some command.View) result row r w = view_row result row r w
  complete (Some (command.Drill count)) result row r w = drill_row count result row.1 w
  complete (Some (command.Session wanted)) result row r w = session_row wanted result row.1 w
  complete None result row r w = tt

-- where neither source nor sink failed, a call came to its end, or memory was wanting
pub completes : {H : Type 0} {hosted : H → HostState} {made : H → H → Ask → ℕ → Answer → Type 0} {program : Script → Program} {asked : Option Command} {answer : Status} {start now : H} {source source' : SourceState} {sink sink' : SinkState} →
    Came hosted made program asked answer start now source source' sink sink' → (answer ≡ status.ReadFault → Rose source.faults source'.faults) → (answer ≡ status.WriteFault → Rose sink.faults sink'.faults) → Completes asked answer source source' sink sink'
completes {hosted = hosted} {program = program} {asked = asked} {answer = answer} {start = start} {now = now} {source = source} {source' = source'} {sink = sink} {sink' = sink'} so r w =
    complete program so.read so.written so.exchanges source source' sink sink' (hosted start) (hosted now) so.taken asked answer so.outcome r w

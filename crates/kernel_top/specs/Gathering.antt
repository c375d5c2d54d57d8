-- What a line session comes to: its script is run with its two natives and its lines thrown away, and the
-- text of the buffer `*session*` is written.
use Rattle.std.specs.Prelude.{◌≡◌, ℕ, Bool, true, false, List, flat_map, if◌then◌else◌, Result, Ok, Err}
use Rattle.text_model.specs.Characters.{Ch, encoded}
use Rattle.text_model.specs.Fronts.{IsPrefixOf}
use Rattle.editor_model.specs.Values.{Value, Script}
use Rattle.editor_model.specs.Editor.{Editor}
use Rattle.plain_machine.specs.Exchanges.{Exchange}
use Rattle.plain_machine.specs.State.{State, Program}
use Rattle.plain_machine.specs.Symbols.{program_of}
use Rattle.ek_types.specs.Io.{SinkState}
use Rattle.line_session.specs.Handlers.{session_names, session_does}
use Rattle.line_session.specs.Script.{command_of, session_script}
use Rattle.session_laws.specs.Sessions.{characters_gathered, is_full, TextBy}
use Rattle.command_words.specs.SessionWords.{SessionWords}
use Rattle.kernel_top.specs.Unseen.{IsWhole}
use Rattle.kernel_top.specs.Writing.{IsWhollyWritten, IsFrontWritten}
use Rattle.kernel_top.specs.declared.status.Status.{Status}
use Rattle.kernel_top.specs.declared.status.Status.TheVariants as status

-- THE RUN
-- the arguments of each start of the child
abbrev pub command_wanted : SessionWords → List Value
command_wanted wanted = command_of wanted.program wanted.args

abbrev pub script_wanted : SessionWords → Script
script_wanted wanted = session_script (command_wanted wanted)

-- the script's run has the two natives of the session as handlers, and no others
abbrev pub program_wanted : SessionWords → Program
program_wanted wanted =
    program_of (script_wanted wanted) session_names (session_does wanted.limit (command_wanted wanted))

-- THE TEXT
-- the text of the live buffer `*session*`, and nothing where there is none
abbrev pub gathered : Editor → List ℕ
gathered e = flat_map encoded (characters_gathered e)

-- by whether the buffer became full
abbrev pub gathered_status : {T E : Type 0} → (full : Bool) → Result T E → Status
gathered_status full (Ok x) = if full then status.SessionFull else status.Done
gathered_status full (Err e) = status.WriteFault

-- THE OUTCOME
-- what became of the text of a session that has ended in this state
abbrev pub Gathered : Status → (last : State) → (written : List ℕ) → (before now : SinkState) → Type 0
Gathered status.Done last written before now =
    (is_full last ≡ false) × IsWhollyWritten (gathered last.editor) written before now
Gathered status.SessionFull last written before now =
    (is_full last ≡ true) × IsWhollyWritten (gathered last.editor) written before now
Gathered status.WriteFault last written before now = IsFrontWritten (gathered last.editor) written before
Gathered _ last written before now = ⊥

-- the script was run to its end over just these exchanges, and this became of its text
pub record Gathers (answer : Status) (program : Program) (script : Script) (written : List ℕ)
    (exchanges : List Exchange) (before now : SinkState) : Type 0 where
  pub whole : IsWhole program script exchanges
  pub text : Gathered answer whole.ran.last.state written before now

-- THE LINES
-- the bytes of a text that is all lines of these exchanges, or lacks what came last
abbrev pub BytesBy : (full : Bool) → List Exchange → (bytes : List ℕ) → Type 0
BytesBy full exchanges bytes = (text : List Ch) × TextBy full exchanges text × (bytes ≡ flat_map encoded text)

-- what is written, by the exchanges: all lines, or those but for what found no room, or a front of either
abbrev pub Lined : Status → (written : List ℕ) → List Exchange → Type 0
Lined status.Done written exchanges = BytesBy false exchanges written
Lined status.SessionFull written exchanges = BytesBy true exchanges written
Lined status.WriteFault written exchanges =
    (full : Bool) × (bytes : List ℕ) × BytesBy full exchanges bytes × IsPrefixOf written bytes
Lined _ written exchanges = Unit {0}

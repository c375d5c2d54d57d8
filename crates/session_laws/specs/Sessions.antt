-- What whole sessions come to: their text is the lines of their exchanges, and a child is started again
-- only behind one that failed.
use Rattle.std.specs.Prelude.{◌≡◌, ◌⊎◌, ℕ, zero, suc, pos, negsuc, ◌+◌, ◌<◌, ◌≤◌, Bool, true, false}
use Rattle.std.specs.Prelude.{◌==◌, List, [], ◌∷◌, ◌++◌, map, filter, length, codes, unwrap_or}
use Rattle.std.specs.Prelude.{option_map}
use Rattle.std.specs.List.{list_any, list_all}
use Rattle.text_model.specs.Characters.{Ch}
use Rattle.editor_model.specs.Values.{Value}
use Rattle.editor_model.specs.Editor.{Editor, find, buffer_at}
use Rattle.editor_model.specs.Limits.{longest_text}
use Rattle.plain_machine.specs.Exchanges.{Ask, Spawn, AskEnd, Answer, Code, Signal, Failed, Exchange}
use Rattle.plain_machine.specs.Exchanges.{children_started}
use Rattle.plain_machine.specs.State.{State, Process, Filter, Off, Program}
use Rattle.plain_machine.specs.Symbols.{program_of}
use Rattle.plain_machine.specs.Items.{Said, Config, Ended}
use Rattle.plain_machine.specs.Step.{step}
use Rattle.plain_machine.specs.Run.{Reaches, start}
use Rattle.machine_laws.specs.Children.{is_kill}
use Rattle.line_session.specs.Handlers.{ascii, session_names, session_does}
use Rattle.line_session.specs.Script.{session_script}
use Rattle.line_session.specs.Lines.{session_lines}
use Rattle.session_laws.specs.Standing.{session_name}

-- the arguments of each start, whatever the words of the program are
abbrev pub session_command : (words : List Value) → List Value
session_command words = ascii (codes "session") ∷ ascii (codes "*session*") ∷ words

-- THE TEXT
-- the characters of the live buffer `*session*`, and none where there is no such buffer
abbrev pub characters_gathered : Editor → List Ch
characters_gathered e =
    unwrap_or (option_map (λ id. map (λ c. c.0) (buffer_at e id).text) (find e session_name)) []

-- a process whose filter is t
abbrev pub is_off : Filter → Bool
is_off Off = true
is_off _ = false

abbrev pub is_stopped : Process → Bool
is_stopped x = is_off x.filter

-- a native of the session stops its process where the buffer became full
abbrev pub is_full : State → Bool
is_full s = list_any is_stopped s.processes

-- a text is all lines of these exchanges
pub record IsAllLines (exchanges : List Exchange) (text : List Ch) : Type 0 where
  pub is : text ≡ session_lines exchanges
  pub fits : length (session_lines exchanges) ≤ longest_text

-- A text is the lines before one exchange: what came by that one, the characters of a read or the line feed
-- of an end, found no room. Nothing is heard behind it: the child is killed at the most.
pub record LacksLast (exchanges : List Exchange) (text : List Ch) : Type 0 where
  pub before : List Exchange
  pub refused : Exchange
  pub kills : List Exchange
  pub are : exchanges ≡ before ++ refused ∷ kills
  pub nothing_more : list_all (λ x. is_kill x.ask) kills ≡ true
  pub is : text ≡ session_lines before
  pub piece : List Ch
  pub lacks : session_lines exchanges ≡ session_lines before ++ piece
  pub fits : length (session_lines before) ≤ longest_text
  pub over : longest_text < length (session_lines exchanges)

-- by whether the buffer became full
abbrev pub TextBy : (full : Bool) → List Exchange → (text : List Ch) → Type 0
TextBy false exchanges text = IsAllLines exchanges text
TextBy true exchanges text = LacksLast exchanges text

abbrev pub SessionText : List Exchange → State → Type 0
SessionText exchanges last = TextBy (is_full last) exchanges (characters_gathered last.editor)

-- the run of the session's script with its two natives, and no others
abbrev pub whole_program : (limit : ℕ) → (words : List Value) → Program
whole_program limit words = program_of (session_script (session_command words)) session_names
    (session_does limit (session_command words))

abbrev pub RunsTo : (limit : ℕ) → (words : List Value) → (bound : ℕ) → List Exchange → List Said →
    Config → Type 0
RunsTo limit words bound exchanges said c =
    Reaches (whole_program limit words) bound (start (session_script (session_command words))) exchanges said c

-- of each run that has ended
abbrev pub SessionEnds : (limit : ℕ) → (words : List Value) → (bound : ℕ) → Type 0
SessionEnds limit words bound =
    (exchanges : List Exchange) (said : List Said) (c : Config) →
    RunsTo limit words bound exchanges said c → step (whole_program limit words) bound c ≡ Ended →
    SessionText exchanges c.state

-- THE STARTS
abbrev pub is_spawn : Ask → Bool
is_spawn (Spawn program args) = true
is_spawn _ = false

abbrev pub spawns : List Exchange → ℕ
spawns exchanges = length (filter (λ x. is_spawn x.ask) exchanges)

-- a child ended otherwise than by code 0
abbrev pub fails : (child : ℕ) → Ask → Answer → Bool
fails child (AskEnd c) (Code (pos zero)) = false
fails child (AskEnd c) (Code (pos (suc n))) = c == child
fails child (AskEnd c) (Code (negsuc n)) = c == child
fails child (AskEnd c) Signal = c == child
fails child (AskEnd c) Failed = c == child
fails child _ _ = false

abbrev pub has_failed : (child : ℕ) → List Exchange → Bool
has_failed child exchanges = list_any (λ x. fails child x.ask x.answer) exchanges

-- the child that was started last has failed
pub record LastFailed (before : List Exchange) : Type 0 where
  pub earlier : List ℕ
  pub child : ℕ
  pub last : children_started before ≡ earlier ++ child ∷ []
  pub failed : has_failed child before ≡ true

-- at most so many starts and one, and each but the first behind a child that failed
pub record StartsInTurn (limit : ℕ) (exchanges : List Exchange) : Type 0 where
  pub few : spawns exchanges ≤ limit + 1
  pub behind : (before after : List Exchange) (x : Exchange) → exchanges ≡ before ++ x ∷ after →
      is_spawn x.ask ≡ true → (spawns before ≡ 0) ⊎ LastFailed before

-- of each run, wherever it stands
abbrev pub SessionStarts : (limit : ℕ) → (words : List Value) → (bound : ℕ) → Type 0
SessionStarts limit words bound =
    (exchanges : List Exchange) (said : List Said) (c : Config) →
    RunsTo limit words bound exchanges said c → StartsInTurn limit exchanges

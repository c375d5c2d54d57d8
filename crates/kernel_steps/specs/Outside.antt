-- What a run does to the outside while the machine goes on: the sink has just what it says, and the host
-- was asked just what it asks.
use Rattle.std.specs.Prelude.{◌≡◌, ℕ, ◌+◌, ◌≤◌, List, [], ◌∷◌, ◌++◌, length, Option, Some}
use Rattle.std.specs.Io.KnownBytes.{Appends}
use Rattle.text_model.specs.Fronts.{IsPrefixOf}
use Rattle.plain_machine.specs.Exchanges.{Exchange, Answer}
use Rattle.plain_machine.specs.State.{Program}
use Rattle.plain_machine.specs.Items.{Said, Config, Next, Goes as Steps, Asks}
use Rattle.plain_machine.specs.Step.{step}
use Rattle.plain_machine.specs.Run.{Reaches, lines}
use Rattle.plain_machine.specs.WholeRuns.{IsBetweenEntries}
use Rattle.ek_types.specs.Io.{SinkState}
use Rattle.kernel_steps.specs.declared.stop.Stop.{Stop}
use Rattle.kernel_steps.specs.declared.stop.Stop.TheVariants as stop

-- how deep handlers may be nested
abbrev pub deepest : ℕ
deepest = 16

-- says of a list whether it may be that of the exchanges so far
abbrev pub Past : Type 1
Past = List Exchange → Type 0

-- what a sink means, and which exchanges were made
pub record Outside : Type 1 where
  pub sink : SinkState
  pub past : Past

abbrev pub outside : SinkState → Past → Outside
outside sink past = record { sink = sink; past = past }

-- nothing was asked
abbrev pub nothing : Past
nothing exchanges = exchanges ≡ []

abbrev pub unasked : SinkState → Outside
unasked sink = outside sink nothing

-- whatever was made before, these exchanges were made behind it
abbrev pub Adds : (old new : Past) → List Exchange → Type 0
Adds old new made = (exchanges : List Exchange) → old exchanges → new (exchanges ++ made)

-- the sink has not failed, and has the room left that these bytes didn't use
pub record HasRoomLeft (old new : SinkState) (written : List ℕ) : Type 0 where
  pub faults : new.faults ≡ old.faults
  pub room : old.room ≤ new.room + length written

-- the machine goes from one configuration to another, and all that it says is written, with no failure
-- where there is room for it
pub record Goes (program : Program) (old new : Outside) (from to : Config) : Type 0 where
  pub made : List Exchange
  pub said : List Said
  pub run : Reaches program deepest from made said to
  pub written : Appends old.sink.held new.sink.held (lines said)
  pub adds : Adds old.past new.past made
  pub later : old.sink.faults ≤ new.sink.faults
  pub roomy : length (lines said) ≤ old.sink.room → HasRoomLeft old.sink new.sink (lines said)

-- one step of the machine: it asks nothing, or makes the one exchange
abbrev pub IsStep : Program → Config → List Exchange → Next → Type 0
IsStep program c [] n = step program deepest c ≡ Steps n
IsStep program c (x ∷ []) n =
    (next : Answer → Option Next) × (step program deepest c ≡ Asks x.ask next) × (next x.answer ≡ Some n)
IsStep program c _ n = ⊥

-- The run stopped at a line that it couldn't write: its last step said this line. `asked` and `whole` are
-- what was asked and said before that step, and `more` is the exchange of that step, if it makes one. So
-- nothing was asked behind the line, and what was said before it is written.
pub record StopsAtLine (program : Program) (from : Config) (made : List Exchange) (said : List Said)
    (last : Config) (bytes : List ℕ) : Type 0 where
  pub asked : List Exchange
  pub whole : List Said
  pub there : Config
  pub run : Reaches program deepest from asked whole there
  pub more : List Exchange
  pub line : Said
  pub next : Next
  pub steps : IsStep program there more next
  pub says : next.said ≡ line ∷ []
  pub comes : next.config ≡ last
  pub made_are : made ≡ asked ++ more
  pub said_are : said ≡ whole ++ line ∷ []
  pub written : IsPrefixOf (lines whole) bytes

-- How far a run came that ended early: for want of memory, all that it said is written; after a failed
-- write it stopped at that line.
abbrev pub CameTo : Stop → Program → (from : Config) → (made : List Exchange) → (said : List Said) →
    (last : Config) → (bytes : List ℕ) → Type 0
CameTo stop.NoMemory program from made said last bytes = bytes ≡ lines said
CameTo stop.WriteFault program from made said last bytes = StopsAtLine program from made said last bytes

-- The run is broken off: the machine went somewhere, and what it said is written, or all lines but the last
-- and a front of that one. The sink didn't fail where there is room for all that was said.
pub record Breaks (why : Stop) (program : Program) (old new : Outside) (from : Config) : Type 0 where
  pub made : List Exchange
  pub said : List Said
  pub last : Config
  pub run : Reaches program deepest from made said last
  pub between : IsBetweenEntries last
  pub bytes : List ℕ
  pub front : IsPrefixOf bytes (lines said)
  pub came : CameTo why program from made said last bytes
  pub written : Appends old.sink.held new.sink.held bytes
  pub adds : Adds old.past new.past made
  pub later : old.sink.faults ≤ new.sink.faults
  pub roomy : length (lines said) ≤ old.sink.room → new.sink.faults ≡ old.sink.faults

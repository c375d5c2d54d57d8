-- The natives that the program brings along.
pub use Rattle.plain_machine.specs.Shipped.{shipped_names}
use Rattle.std.specs.Prelude.{◌≡◌, ℕ, List}
use Rattle.editor_model.specs.Values.{Value, Reply}
use Rattle.plain_machine.specs.Exchanges.{Ask, Answer}
use Rattle.plain_machine.specs.Shipped.{insert_filter, drop_filter, note_sentinel}
use Rattle.plain_machine.specs.Symbols.{program_of}
use Rattle.ek_types.specs.Io.{SourceState, SinkState}
use Rattle.host_link.specs.Hosts.{HostState}
use Rattle.kernel_state.specs.Whole.{Doing}
use Rattle.command_words.specs.Commands.{command_of}
use Rattle.kernel_top.specs.Outcomes.{Came}
use Rattle.kernel_top.specs.declared.status.Status.{Status}

-- the three, by their names and by what each does, in their order
pub record AreShipped (names : List (List ℕ)) (does : Doing) : Type 0 where
  pub named : names ≡ shipped_names
  pub inserts : (args : List Value) (past : List Reply) → does 0 args past ≡ insert_filter args past
  pub drops : (args : List Value) (past : List Reply) → does 1 args past ≡ drop_filter args past
  pub notes : (args : List Value) (past : List Reply) → does 2 args past ≡ note_sentinel args past

-- what a call of the top with these natives came to
pub record CameShipped {H : Type 0} (hosted : H → HostState) (made : H → H → Ask → ℕ → Answer → Type 0)
    (words : List (List ℕ)) (answer : Status) (start now : H) (source source' : SourceState)
    (sink sink' : SinkState) : Type 0 where
  pub names : List (List ℕ)
  pub does : Doing
  pub shipped : AreShipped names does
  pub came : Came hosted made (λ script. program_of script names does)
      (command_of words) answer start now source source' sink sink'

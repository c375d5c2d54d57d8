-- What the words behind the program's name ask for.
use Rattle.std.specs.Prelude.{◌≡◌, ℕ, List, [], ◌∷◌, Option, Some, None, option_map, codes, if◌then◌else◌}
use Rattle.text_model.specs.Names.{same_word}
use Rattle.plain_machine.specs.Drill.{is_run, drill_of}
use Rattle.command_words.specs.SessionWords.{session_of}
use Rattle.command_words.specs.declared.commands.Command.{Command}
use Rattle.command_words.specs.declared.commands.Command.TheVariants as command

-- the command that is this one word
abbrev pub command_alone : List ℕ → Option Command
command_alone word =
    if is_run (word ∷ []) then Some command.Run else
    if same_word word (codes "record") then Some command.Record else
    if same_word word (codes "replay") then Some command.Replay else
    if same_word word (codes "check") then Some command.Check else
    if same_word word (codes "view") then Some command.View else None

-- the command that the words are, if they are one
abbrev pub command_of : List (List ℕ) → Option Command
command_of (word ∷ []) = command_alone word
command_of (word ∷ number ∷ []) = option_map command.Drill (drill_of (word ∷ number ∷ []))
command_of words = option_map command.Session (session_of words)

-- the words are `record` alone
abbrev pub IsRecord : List (List ℕ) → Type 0
IsRecord words = command_of words ≡ Some command.Record

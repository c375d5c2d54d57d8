-- The text of exchanges: a line for each, and behind the last one a line `script` and a script; or claimed
-- lines first.
use Rattle.std.specs.Prelude.{ℕ, ◌+◌, ◌/◌, ◌%◌, nat_lt, if◌then◌else◌, List, [], ◌∷◌, ◌++◌, length}
use Rattle.std.specs.Prelude.{codes, decimal, flat_map}
use Rattle.plain_machine.specs.Lines.{shown_int}
use Rattle.plain_machine.specs.Exchanges.{Ask, Answer, Exchange, Spawn, Read, AskEnd, Send, Close, Kill}
use Rattle.plain_machine.specs.Exchanges.{Started, Refused, Bytes, Nothing, End, Code, Signal, Running}
use Rattle.plain_machine.specs.Exchanges.{Sent, Broken, Closed, Killed, Failed}

-- BYTES: two lower-case hexadecimal digits for each
abbrev pub hex_digit : ℕ → ℕ
hex_digit n = if nat_lt n 10 then 48 + n else 87 + n

abbrev pub hex_byte : ℕ → List ℕ
hex_byte b = hex_digit (b / 16) ∷ hex_digit (b % 16) ∷ []

abbrev pub hex : List ℕ → List ℕ
hex bytes = flat_map hex_byte bytes

-- an argument of a program; a dash stands for no bytes
abbrev pub word : List ℕ → List ℕ
word [] = codes "-"
word (b ∷ bytes) = hex (b ∷ bytes)

-- a blank and an argument
abbrev pub led_word : List ℕ → List ℕ
led_word bytes = 32 ∷ word bytes

abbrev pub led_words : List (List ℕ) → List ℕ
led_words words = flat_map led_word words

-- LINES
abbrev pub ask_words : Ask → List ℕ
ask_words (Spawn program args) = codes "spawn " ++ (hex program ++ led_words args)
ask_words (Read child) = codes "read " ++ decimal child
ask_words (AskEnd child) = codes "end " ++ decimal child
ask_words (Send child bytes) = codes "send " ++ (decimal child ++ (32 ∷ hex bytes))
ask_words (Close child) = codes "close " ++ decimal child
ask_words (Kill child) = codes "kill " ++ decimal child

abbrev pub answer_words : Answer → List ℕ
answer_words (Started child) = codes "started " ++ decimal child
answer_words Refused = codes "refused"
answer_words (Bytes bytes) = codes "bytes " ++ hex bytes
answer_words Nothing = codes "nothing"
answer_words End = codes "end"
answer_words (Code code) = codes "code " ++ shown_int code
answer_words Signal = codes "signal"
answer_words Running = codes "running"
answer_words Sent = codes "sent"
answer_words Broken = codes "broken"
answer_words Closed = codes "closed"
answer_words Killed = codes "killed"
answer_words Failed = codes "failed"

abbrev pub line : Exchange → List ℕ
line x = ask_words x.ask ++ (codes " -> " ++ (answer_words x.answer ++ 10 ∷ []))

abbrev pub journal : List Exchange → List ℕ
journal list = flat_map line list

abbrev pub session : List Exchange → (script : List ℕ) → List ℕ
session list script = journal list ++ (codes "script\n" ++ script)

-- how many bytes a session may have, and a transcript
abbrev pub longest_session : ℕ
longest_session = 268435456

-- CLAIMED LINES, behind a line with the number of their bytes
abbrev pub claim : (claimed : List ℕ) → List ℕ
claim claimed = codes "lines " ++ (decimal (length claimed) ++ 10 ∷ claimed)

abbrev pub transcript : List Exchange → (claimed script : List ℕ) → List ℕ
transcript list claimed script = journal list ++ (claim claimed ++ (codes "script\n" ++ script))

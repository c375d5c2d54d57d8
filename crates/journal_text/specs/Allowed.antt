-- Which answers an ask may have, and which exchanges have lines.
use Rattle.std.specs.Prelude.{◌≡◌, ℕ, ◌+◌, ◌^◌, ◌<◌, ◌≤◌, ◌==◌, Bool, not, IsTrue, ℤ, pos, negsuc, List}
use Rattle.std.specs.Prelude.{[], ◌∷◌, length, IsUtf8}
use Rattle.std.specs.List.{AllByRecursion, list_all}
use Rattle.plain_machine.specs.Exchanges.{Ask, Answer, Exchange, Spawn, Read, AskEnd, Send, Close, Kill}
use Rattle.plain_machine.specs.Exchanges.{Started, Refused, Bytes, Nothing, End, Code, Signal, Running}
use Rattle.plain_machine.specs.Exchanges.{Sent, Broken, Closed, Killed, Failed, started_by, most_read}

-- ANSWERS
-- a child that is started has the next number
abbrev pub IsSpawned : (next : ℕ) → Answer → Type 0
IsSpawned next (Started child) = child ≡ next
IsSpawned next Refused = Unit {0}
IsSpawned next _ = ⊥

-- a read gives 1 to `most_read` bytes
abbrev pub IsRead : Answer → Type 0
IsRead (Bytes bytes) = (1 ≤ length bytes) × (length bytes ≤ most_read)
IsRead Nothing = Unit {0}
IsRead End = Unit {0}
IsRead Failed = Unit {0}
IsRead _ = ⊥

abbrev pub IsEnd : Answer → Type 0
IsEnd (Code code) = Unit {0}
IsEnd Signal = Unit {0}
IsEnd Running = Unit {0}
IsEnd Failed = Unit {0}
IsEnd _ = ⊥

abbrev pub IsSent : Answer → Type 0
IsSent Sent = Unit {0}
IsSent Broken = Unit {0}
IsSent _ = ⊥

abbrev pub IsClosed : Answer → Type 0
IsClosed Closed = Unit {0}
IsClosed _ = ⊥

abbrev pub IsKilled : Answer → Type 0
IsKilled Killed = Unit {0}
IsKilled Failed = Unit {0}
IsKilled _ = ⊥

-- an ask may be answered so, where the next child has this number
abbrev pub IsAnswerTo : (next : ℕ) → Ask → Answer → Type 0
IsAnswerTo next (Spawn program args) answer = IsSpawned next answer
IsAnswerTo next (Read child) answer = IsRead answer
IsAnswerTo next (AskEnd child) answer = IsEnd answer
IsAnswerTo next (Send child bytes) answer = IsSent answer
IsAnswerTo next (Close child) answer = IsClosed answer
IsAnswerTo next (Kill child) answer = IsKilled answer

-- the number of the next child after an exchange
abbrev pub next_after : (next : ℕ) → Exchange → ℕ
next_after next x = next + length (started_by x.answer)

-- each ask has an answer that it may have, and children are numbered in order
abbrev pub AreAnswered : (next : ℕ) → List Exchange → Type 0
AreAnswered next [] = Unit {0}
AreAnswered next (x ∷ list) = IsAnswerTo next x.ask x.answer × AreAnswered (next_after next x) list

-- LINES: what is written by the table can be told from every other exchange
abbrev pub AreBytes : List ℕ → Type 0
AreBytes bytes = AllByRecursion (λ b. b < 256) bytes

abbrev pub has_no_zero : List ℕ → Bool
has_no_zero bytes = list_all (λ b. not (b == 0)) bytes

-- the bytes of a text without the character 0
abbrev pub IsText : List ℕ → Type 0
IsText bytes = AreBytes bytes × IsUtf8 bytes × IsTrue (has_no_zero bytes)

abbrev pub IsAskLine : Ask → Type 0
IsAskLine (Spawn program args) = (1 ≤ length program) × IsText program × AllByRecursion IsText args
IsAskLine (Read child) = child < 2 ^ 32
IsAskLine (AskEnd child) = child < 2 ^ 32
IsAskLine (Send child bytes) = (child < 2 ^ 32) × (1 ≤ length bytes) × AreBytes bytes
IsAskLine (Close child) = child < 2 ^ 32
IsAskLine (Kill child) = child < 2 ^ 32

-- a code of 32 bits
abbrev pub IsCode : ℤ → Type 0
IsCode (pos n) = n < 2 ^ 31
IsCode (negsuc n) = n < 2 ^ 31

abbrev pub IsAnswerLine : Answer → Type 0
IsAnswerLine (Started child) = child < 2 ^ 32
IsAnswerLine (Bytes bytes) = AreBytes bytes
IsAnswerLine (Code code) = IsCode code
IsAnswerLine _ = Unit {0}

pub record IsLine (next : ℕ) (x : Exchange) : Type 0 where
  pub asked : IsAskLine x.ask
  pub answered : IsAnswerLine x.answer
  pub allowed : IsAnswerTo next x.ask x.answer

-- each exchange has a line, and children are numbered in order
abbrev pub AreLines : (next : ℕ) → List Exchange → Type 0
AreLines next [] = Unit {0}
AreLines next (x ∷ list) = IsLine next x × AreLines (next_after next x) list

abbrev pub IsJournal : List Exchange → Type 0
IsJournal list = AreLines 0 list

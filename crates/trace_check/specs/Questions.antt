-- What a step asks, and what that meets in the journal.
use Rattle.std.specs.Prelude.{◌≡◌, ◌⊎◌, ℕ, Bool, true, false, map, string_bytes, Option, Some, None}
use Rattle.std.specs.Prelude.{Result, Ok, Err}
use Rattle.std.specs.Borrow.{Bor}
use Rattle.plain_machine.specs.Exchanges.{Ask, Spawn, Read, AskEnd, Send, Close, Kill, Answer, Exchange}
use Rattle.plain_machine.specs.Run.{same_ask}
use Rattle.host_link.specs.declared.asking.Answer.{Answer as Written}
use Rattle.host_link.specs.Meaning.{answer_of}
use Rattle.trace_check.specs.Answers.{may_end, may_kill, may_read}
use Rattle.trace_check.specs.declared.asks.Question.{Question}
use Rattle.trace_check.specs.declared.asks.Question.TheVariants as question
use Rattle.trace_check.specs.declared.turn.Done.{Done}
use Rattle.trace_check.specs.declared.turn.Done.TheVariants as done

abbrev pub asked : Question → Ask
asked (question.Spawn command) =
    Spawn (string_bytes command.now.program) (map string_bytes command.now.words.items)
asked (question.Read child) = Read child
asked (question.End child) = AskEnd child
asked (question.Send child bytes) = Send child bytes.now
asked (question.Close child) = Close child
asked (question.Kill child) = Kill child

-- a process is asked about its output, or about its end once that has ended
abbrev pub asked_about : (drained : Bool) → (child : ℕ) → Ask
asked_about false child = Read child
asked_about true child = AskEnd child

-- which answers a question allows; those to a start, a text or a close are tested where they are taken
abbrev pub allows : Question → Answer → Bool
allows (question.Spawn command) = λ answer. true
allows (question.Read child) = may_read
allows (question.End child) = may_end
allows (question.Send child bytes) = λ answer. true
allows (question.Close child) = λ answer. true
allows (question.Kill child) = may_kill

-- no answer to it is next: the journal is used up, or has another ask, or an answer that isn't allowed
abbrev pub Misses : Ask → (may : Answer → Bool) → (next : Option Exchange) → Done → Type 0
Misses ask may next done.Waits = next ≡ None
Misses ask may next done.Off =
    (x : Exchange) × (next ≡ Some x) × ((same_ask ask x.ask ≡ false) ⊎ (may x.answer ≡ false))
Misses ask may next done.Alone = ⊥
Misses ask may next done.Answered = ⊥

-- by the exchange that the journal has next
abbrev pub Meets : Ask → (may : Answer → Bool) → (next : Option Exchange) → Result (Bor Written) Done → Type 0
Meets ask may next (Ok answer) = (x : Exchange) × (next ≡ Some x) × (same_ask ask x.ask ≡ true) ×
    (may x.answer ≡ true) × (x.answer ≡ answer_of answer.now)
Meets ask may next (Err missed) = Misses ask may next missed

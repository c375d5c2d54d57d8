-- What asks, answers and exchanges of the code stand for.
use Rattle.std.specs.Prelude.{ℕ, List, map}
use Rattle.plain_machine.specs.Exchanges as model
use Rattle.ek_types.specs.declared.list.ListOf.{ListOf}
use Rattle.ek_types.specs.Listing.{items_of}
use Rattle.host_link.specs.declared.asking.Ask.{Ask}
use Rattle.host_link.specs.declared.asking.Ask.TheVariants as ask
use Rattle.host_link.specs.declared.asking.Answer.{Answer}
use Rattle.host_link.specs.declared.asking.Answer.TheVariants as answer
use Rattle.host_link.specs.declared.asking.Exchange.{Exchange}

abbrev pub words_of : ListOf (ListOf ℕ) → List (List ℕ)
words_of list = map items_of (items_of list)

abbrev pub ask_of : Ask → model.Ask
ask_of (ask.Spawn program args) = model.Spawn (items_of program) (words_of args)
ask_of (ask.Read child) = model.Read child
ask_of (ask.End child) = model.AskEnd child
ask_of (ask.Send child bytes) = model.Send child (items_of bytes)
ask_of (ask.Close child) = model.Close child
ask_of (ask.Kill child) = model.Kill child

abbrev pub answer_of : Answer → model.Answer
answer_of (answer.Started child) = model.Started child
answer_of answer.Refused = model.Refused
answer_of (answer.Bytes bytes) = model.Bytes (items_of bytes)
answer_of answer.Nothing = model.Nothing
answer_of answer.End = model.End
answer_of (answer.Code code) = model.Code code
answer_of answer.Signal = model.Signal
answer_of answer.Running = model.Running
answer_of answer.Sent = model.Sent
answer_of answer.Broken = model.Broken
answer_of answer.Closed = model.Closed
answer_of answer.Killed = model.Killed
answer_of answer.Failed = model.Failed

abbrev pub exchange_of : Exchange → model.Exchange
exchange_of x = record { ask = ask_of x.ask; answer = answer_of x.answer }

abbrev pub exchanges_of : ListOf Exchange → List model.Exchange
exchanges_of list = map exchange_of (items_of list)

use Rattle.std.proofs.Common.{refl}
use Rattle.host_link.specs.Meaning.{answer_of}
use Rattle.kernel_state.specs.Meaning.{state_of}
use Rattle.kernel_state.proofs.Answering.{may_be_told, answer_taken}
use Rattle.kernel_state.proofs.told.take_answer.Goals as goal

pub take_answer-requires-clause-told : goal.take_answer-requires-clause-told
take_answer-requires-clause-told c = may_be_told (state_of c.args.kernel.now) c.args.p (answer_of c.args.answer.now) c.requires.allowed

pub returns-clause-ok : goal.returns-clause-ok
returns-clause-ok c =
    answer_taken (state_of c.args.kernel.now) c.take_answer.new.table c.args.p (answer_of c.args.answer.now) c.in_ok-heard.heard
    (record { bytes = c.in_ok-heard.heard.bytes; entry = c.entry_of.result }) refl c.entry_of.ensures.entering c.in_ok-heard.ensures.ok

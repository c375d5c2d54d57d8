use Rattle.handler_run.proofs.Answering.{bytes_read}
use Rattle.handler_run.proofs.taken.got_of.Goals as goal

pub returns-in-Bytes-clause-read : goal.returns-in-Bytes-clause-read
returns-in-Bytes-clause-read c = bytes_read c.args.answer.now c.len.result c.in-Bytes.bytes c.in-Bytes.is c.len.ensures c.requires

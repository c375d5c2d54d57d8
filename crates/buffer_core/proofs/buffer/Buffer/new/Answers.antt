use Rattle.buffer_core.proofs.buffer.Buffer.new.Goals as goal

pub returns-clause-good : goal.returns-clause-good
returns-clause-good c = λ pool. rw (c.new.ensures.characters pool, c.new-3.ensures) c.new_buffers_are_good.ensures

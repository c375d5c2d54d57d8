use Rattle.std.proofs.Common.{sym, subst}
use Rattle.text_model.specs.Commit.{Buffer}
use Rattle.machine_laws.specs.Good.{Good}
use Rattle.buffer_core.specs.contracts.buffer.Buffer.{the_view}
use Rattle.buffer_core.specs.Meaning.{Stored, buffer_of}
use Rattle.buffer_core.proofs.buffer.Buffer.undo_enable.Goals as goal

pub returns-then-on-clause-undo : goal.returns-then-on-clause-undo
returns-then-on-clause-undo c = λ pool good.
    let old : Buffer = buffer_of pool (the_view c.self.inside) in
    let as_seen : Good old = subst (λ (b : Stored). Good (buffer_of pool b)) (sym c.self.view_is) good in
    rw (← c.self.view_is, c.enable.ensures.state) (c.recording_keeps_boundaries.ensures old as_seen).2

pub returns-else-on-clause-undo : goal.returns-else-on-clause-undo
returns-else-on-clause-undo c = λ pool good.
    let old : Buffer = buffer_of pool (the_view c.self.inside) in
    let as_seen : Good old = subst (λ (b : Stored). Good (buffer_of pool b)) (sym c.self.view_is) good in
    rw (← c.self.view_is, c.disable.ensures.state) (c.recording_keeps_boundaries.ensures old as_seen).1

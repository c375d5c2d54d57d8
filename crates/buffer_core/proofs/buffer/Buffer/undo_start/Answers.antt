use Rattle.std.proofs.Common.{sym, subst}
use Rattle.text_model.specs.Undo.{Undo, started}
use Rattle.text_model.specs.Commit.{Buffer}
use Rattle.text_model.proofs.Cases.{by_test}
use Rattle.machine_laws.specs.Boundaries.{KeepsBoundaries}
use Rattle.machine_laws.specs.Good.{Good}
use Rattle.buffer_core.specs.contracts.buffer.Buffer.{the_view}
use Rattle.buffer_core.specs.Meaning.{Stored, buffer_of}
use Rattle.buffer_core.proofs.Laws.{keeps_itself}
use Rattle.buffer_core.proofs.buffer.Buffer.undo_start.Goals as goal

pub returns-clause-undo : goal.returns-clause-undo
returns-clause-undo c = λ pool good.
    let old : Buffer = buffer_of pool (the_view c.self.inside) in
    let as_seen : Good old = subst (λ (b : Stored). Good (buffer_of pool b)) (sym c.self.view_is) good in
    rw (← c.self.view_is, c.start.ensures.state) (by_test (λ (u : Undo). KeepsBoundaries old (record old { undo = u })) old.undo.on (started old.undo) old.undo
    (λ on. (c.recording_keeps_boundaries.ensures old as_seen).0) (λ off. keeps_itself old as_seen))

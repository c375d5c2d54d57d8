use Rattle.std.proofs.Common.{sym, subst}
use Rattle.text_model.specs.Commit.{Buffer}
use Rattle.machine_laws.specs.Boundaries.{KeepsBoundaries}
use Rattle.prop_intervals.specs.Edits.{edit_of}
use Rattle.buffer_core.specs.Meaning.{buffer_of}
use Rattle.buffer_core.proofs.Laws.{on_ok}
use Rattle.buffer_core.proofs.buffer.Buffer.reprop.Goals as goal

pub returns-clause-undo : goal.returns-clause-undo
returns-clause-undo c = λ pool lies ordered good.
    let old : Buffer = buffer_of pool c.args.self.now in
    let keeps = c.changing_properties_keeps_boundaries.ensures (edit_of c.args.edit.now) c.args.from c.args.to old c.requires.order ordered good in
    on_ok c.reset_properties.result (λ e. subst (λ (b : Buffer). KeepsBoundaries old b) (sym e) keeps) (c.reset_properties.ensures.ok pool lies)

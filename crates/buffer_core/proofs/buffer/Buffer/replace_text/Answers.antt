use Rattle.std.proofs.Common.{sym, ap, ◌∙◌}
use Rattle.text_model.specs.Commit.{no_pending}
use Rattle.prop_intervals.specs.Sets.{together}
use Rattle.buffer_core.specs.Meaning.{site_of}
use Rattle.buffer_core.proofs.Sites.{dropped_site, replaced_insertion}
use Rattle.buffer_core.proofs.UndoLemmas.{holds_refused}
use Rattle.buffer_core.proofs.buffer.Buffer.replace_text.Goals as goal

pub returns-in_ok-insert-clause-ok : goal.returns-in_ok-insert-clause-ok
returns-in_ok-insert-clause-ok c =
    dropped_site c.insert.new.pool _ c.insert.new.self c.drop_pending-then-not-are_empty.new.self c.insert.new.marks c.self-then-not-are_empty.view_is c.drop_pending-then-not-are_empty.ensures.state
    ∙ ap no_pending c.in_ok-insert.ensures.ok
    ∙ sym (replaced_insertion c.args.id c.args.from c.args.to (together c.args.with.now) c.args.all (site_of c.args.pool.now c.args.self.now c.args.marks.now) (sym c.are_empty.ensures ∙ c.if-not-are_empty.true))

pub returns-in_err-delete-clause-err : goal.returns-in_err-delete-clause-err
returns-in_err-delete-clause-err c = holds_refused c.from_residual.result c.in_err-delete.ensures.err

pub returns-in_err-insert-clause-err : goal.returns-in_err-insert-clause-err
returns-in_err-insert-clause-err c = holds_refused c.from_residual-in_err-insert.result c.in_err-insert.ensures.err

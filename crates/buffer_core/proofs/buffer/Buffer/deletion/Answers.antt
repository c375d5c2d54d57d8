use Rattle.std.proofs.Common.{◌≡◌, ◌++◌, [], ◌∷◌, false, All, map, ap, subst, sym, ◌∙◌}
use Rattle.std.specs.Prelude.{◌&&◌, not, ◌==◌}
use Rattle.std.specs.List.{zip, enumerate_from}
use Rattle.text_model.specs.Properties.{part}
use Rattle.text_model.specs.Marks.{Marks}
use Rattle.text_model.specs.Undo.{Deleted, pushed_all}
use Rattle.text_model.specs.Commit.{deletion_records, fresh_group}
use Rattle.gap_text.specs.Text.{characters}
use Rattle.undo_list.specs.Records.{rec_of}
use Rattle.buffer_core.specs.Meaning.{Stored, site_of, CanBeUndone}
use Rattle.buffer_core.proofs.Recorded.{pushed_all-off, deletion_undoable}
use Rattle.buffer_core.proofs.Sites.{records_by}
use Rattle.buffer_core.proofs.buffer.Buffer.deletion.Goals as goal

pub returns-then-not-is_on-clause-records : goal.returns-then-not-is_on-clause-records
returns-then-not-is_on-clause-records c = λ u on.
    let off : u.on ≡ false = on ∙ sym (ap (λ (b : Stored). b.undo.state.on) c.self.view_is) ∙ sym c.is_on.ensures ∙ c.if-not-is_on.true in
    pushed_all-off (map rec_of c.new.result.items) u off ∙ sym (pushed_all-off (deletion_records c.args.id c.args.from c.args.to (site_of c.args.pool.now c.args.self.now c.args.marks.now)) u off)

pub returns-clause-records : goal.returns-clause-records
returns-clause-records c = λ u on.
    let old : Stored = record { text = c.self.inside.text; sets = c.self.inside.props; begin = c.self.inside.bounds.start; end = c.self.inside.bounds.end; point = c.self.inside.bounds.point; modified = c.self.inside.modified; undo = c.self.inside.undo } in
    let piece : c.in_ok-piece.piece ≡ part c.args.from c.args.to (zip (characters c.args.pool.now c.self.inside.text) c.self.inside.props) =
    c.in_ok-piece.ensures ∙ ap (λ (b : Stored). part c.args.from c.args.to (zip (characters c.args.pool.now b.text) b.sets)) (sym c.self.view_is) in
    let records : map rec_of c.in_ok-before.before.items ++ Deleted c.in_ok-piece.piece c.args.from ∷ [] ≡ deletion_records c.args.id c.args.from c.args.to (site_of c.args.pool.now old c.args.marks.now) =
    ap (λ rs. rs ++ Deleted c.in_ok-piece.piece c.args.from ∷ []) c.in_ok-before.ensures ∙ records_by c.args.id c.args.from c.args.to c.in_ok-piece.piece _ _ _ _ piece (ap (λ (m : Marks). m.markers) c.marks.view_is) in
    ap (λ rs. pushed_all rs u) records ∙ ap (λ (b : Stored). pushed_all (deletion_records c.args.id c.args.from c.args.to (site_of c.args.pool.now b c.args.marks.now)) u) c.self.view_is

pub returns-clause-undoable : goal.returns-clause-undoable
returns-clause-undoable c =
    subst (λ rs. All CanBeUndone (rs ++ Deleted c.in_ok-piece.piece c.args.from ∷ [])) (sym c.in_ok-before.ensures)
    (deletion_undoable (fresh_group c.self.inside.undo.state.entries && not (c.self.inside.bounds.point == c.args.from)) c.self.inside.bounds.point c.in_ok-piece.piece c.args.from c.args.id c.args.from c.args.to (enumerate_from 0 c.marks.inside.markers))

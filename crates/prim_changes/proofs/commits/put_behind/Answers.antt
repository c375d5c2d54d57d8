use Rattle.std.proofs.Common.{◌≡◌, ◌+◌, ◌∙◌, length, ap}
use Rattle.editor_model.specs.Editor.{Editor, change_buffer}
use Rattle.editor_model.specs.TextCalls.{point_at}
use Rattle.prop_intervals.specs.Sets.{together}
use Rattle.buffer_table.specs.Kept.{editor_of}
use Rattle.prim_changes.proofs.Twice.{put_moved}
use Rattle.prim_changes.proofs.commits.put_behind.Goals as goal

pub returns-clause-ok : goal.returns-clause-ok
returns-clause-ok c =
    let id = c.args.id in
    let between : Editor = editor_of c.replace.new.self in
    let behind = c.args.from + length (together c.args.pieces.now) in
    let there : c.in-Some.behind ≡ behind = c.in-Some.ensures in
    c.goto_place.ensures
    ∙ ap (λ p. change_buffer id (point_at p) between) there
    ∙ ap (λ e. change_buffer id (point_at behind) e) c.in_ok-replace.ensures.ok
    ∙ put_moved (editor_of c.args.editor.now) id c.args.from c.args.to (together c.args.pieces.now) c.args.all

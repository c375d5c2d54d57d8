use Rattle.std.proofs.Common.{◌≡◌, ◌∙◌, ap, length, false, arith}
use Rattle.editor_model.specs.Editor.{Editor, is_live, buffer_at, change_site, change_buffer}
use Rattle.text_model.specs.Commit.{Site}
use Rattle.editor_model.specs.Commits.{put_site}
use Rattle.editor_model.specs.TextCalls.{narrowed, widened}
use Rattle.prop_intervals.specs.Sets.{together}
use Rattle.buffer_table.specs.Kept.{editor_of}
use Rattle.prim_changes.proofs.Committing.{widened_size, narrowed_back, put_in_widened}
use Rattle.prim_changes.proofs.Twice.{lives_still}
use Rattle.prim_changes.proofs.commits.put_widened.Goals as goal

pub put_with_point-requires-clause-live : goal.put_with_point-requires-clause-live
put_with_point-requires-clause-live c =
    ap (λ (x : Editor). is_live x c.args.id) c.widen.ensures ∙ lives_still (editor_of c.args.editor.now) c.args.id (λ (site : Site). record site { buffer = widened site.buffer }) c.requires.live

pub put_with_point-requires-clause-range : goal.put_with_point-requires-clause-range
put_with_point-requires-clause-range c =
    let e = editor_of c.args.editor.now in
    let size : length (buffer_at (editor_of c.widen.new.self) c.args.id).text ≡ length (buffer_at e c.args.id).text =
    ap (λ (x : Editor). length (buffer_at x c.args.id).text) c.widen.ensures ∙ widened_size e c.args.id c.requires.live in
    omega (arith, c.requires.range)

pub narrow-requires-clause-live : goal.narrow-requires-clause-live
narrow-requires-clause-live c =
    ap (λ (x : Editor). is_live x c.args.id) (c.in-Err.ensures.err ∙ c.widen.ensures) ∙ lives_still (editor_of c.args.editor.now) c.args.id (λ (site : Site). record site { buffer = widened site.buffer }) c.requires.live

pub narrow-requires-clause-range : goal.narrow-requires-clause-range
narrow-requires-clause-range c =
    let e = editor_of c.args.editor.now in
    let size : length (buffer_at (editor_of c.put_with_point.new.editor) c.args.id).text ≡ length (buffer_at e c.args.id).text =
    ap (λ (x : Editor). length (buffer_at x c.args.id).text) (c.in-Err.ensures.err ∙ c.widen.ensures) ∙ widened_size e c.args.id c.requires.live in
    omega (arith, c.bounds-portion.ensures.within)

pub returns-in-Ok-clause-ok : goal.returns-in-Ok-clause-ok
returns-in-Ok-clause-ok c =
    let e = editor_of c.args.editor.now in
    c.in-Ok.ensures.ok
    ∙ ap (change_site c.args.id (put_site c.args.id c.args.from c.args.to (together c.args.pieces.now) c.args.all c.args.point_after false)) c.widen.ensures
    ∙ put_in_widened e c.args.id c.args.from c.args.to (together c.args.pieces.now) c.args.all c.args.point_after

pub returns-in-Err-clause-err : goal.returns-in-Err-clause-err
returns-in-Err-clause-err c =
    let e = editor_of c.args.editor.now in
    let b = c.bounds-portion.result in
    c.narrow.ensures
    ∙ ap (change_buffer c.args.id (narrowed b.start b.end)) (c.in-Err.ensures.err ∙ c.widen.ensures)
    ∙ narrowed_back e c.args.id b.start b.end c.requires.live c.bounds-portion.ensures.start c.bounds-portion.ensures.end (omega (arith, b.point_after_start, c.bounds-portion.ensures.point)) (omega (arith, b.point_before_end, c.bounds-portion.ensures.point))

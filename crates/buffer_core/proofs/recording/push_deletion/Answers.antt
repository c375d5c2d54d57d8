use Rattle.std.proofs.Common.{map, ap, sym, ◌∙◌}
use Rattle.text_model.specs.Undo.{Deleted, pushed, pushed_all}
use Rattle.undo_list.specs.Records.{rec_of}
use Rattle.buffer_core.specs.Recording.{with_text}
use Rattle.buffer_core.proofs.Recorded.{pushed_all-push}
use Rattle.buffer_core.proofs.recording.push_deletion.Goals as goal

pub returns-in-Some : goal.returns-in-Some
returns-in-Some c =
    let before = map rec_of c.args.deletion.before.items in
    c.push_reserved.ensures.state ∙ ap (pushed (Deleted c.in-Some.piece c.args.from)) c.push_all.ensures.state
    ∙ sym (pushed_all-push before (Deleted c.in-Some.piece c.args.from) c.args.undo.now.state) ∙ ap (λ t. pushed_all (with_text before t c.args.from) c.args.undo.now.state) (sym c.in-Some.is)

pub returns-in-None : goal.returns-in-None
returns-in-None c =
    let before = map rec_of c.args.deletion.before.items in
    c.push_all.ensures.state ∙ ap (λ t. pushed_all (with_text before t c.args.from) c.args.undo.now.state) (sym c.in-None.is)

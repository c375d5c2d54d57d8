use Rattle.std.proofs.Common.{refl, ap, ◌∙◌}
use Rattle.editor_model.specs.Editor.{Editor}
use Rattle.plain_machine.specs.Calls.{with_editor}
use Rattle.buffer_table.specs.Kept.{editor_of}
use Rattle.kernel_state.specs.Meaning.{state_of}
use Rattle.kernel_state.specs.Starting.{put_end}
use Rattle.kernel_state.proofs.Starts.{mark_put}
use Rattle.kernel_state.proofs.starting.make_mark.Goals as goal

pub returns-clause-state : goal.returns-clause-state
returns-clause-state c =
    let made = c.make_marker_reserved-mark in
    let between = editor_of made.new.self in
    c.put_mark.ensures
    ∙ ap (λ (e : Editor). with_editor e (state_of c.args.kernel.now))
    (mark_put (editor_of c.args.kernel.now.editor) between (put_end made.result c.args.buffer between) made.result c.args.buffer made.ensures.number made.ensures.editor refl)

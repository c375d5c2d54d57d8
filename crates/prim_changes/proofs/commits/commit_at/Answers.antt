use Rattle.std.proofs.Common.{List, ◌≡◌, ◌∙◌, ℕ, refl, subst, sym, ap}
use Rattle.std.specs.Prelude.{Option, Some, None}
use Rattle.std.proofs.lemmas.Result.{IfOk-weaker}
use Rattle.editor_model.specs.Values.{Fault}
use Rattle.editor_model.specs.Editor.{Editor, buffer_at}
use Rattle.text_model.specs.Commit.{Buffer}
use Rattle.text_model.specs.Properties.{Cell}
use Rattle.editor_model.specs.Answers as answers
use Rattle.editor_model.specs.Commits.{commit, commit_of, commit_tests, changed, outcome}
use Rattle.editor_model.specs.Answers.{first_fault}
use Rattle.ek_call.specs.Meaning.{view}
use Rattle.buffer_table.specs.Kept.{editor_of}
use Rattle.prim_changes.specs.declared.change.What.{What}
use Rattle.prim_changes.specs.declared.change.Committed.{Committed}
use Rattle.prim_changes.specs.Meaning.{Commits, IsFailed, committed_of, what_of}
use Rattle.prim_changes.proofs.commits.commit_at.Goals as goal

-- a commit that was made is no failure, whatever was changed
done_unfailed : (old new : Buffer) (from to : ℕ) (what : answers.What) → IsFailed (outcome old new from to what) → ⊥
done_unfailed old new from to (answers.Put piece all point_after widen mark) failed = failed
done_unfailed old new from to (answers.Props edit) failed = failed
done_unfailed old new from to (answers.UndoGroups n) failed = failed

-- a commit that failed leaves the editor as it was
still_of : (fault : Option Fault) (old new : Editor) (c : answers.Change) → IsFailed (commit_of fault old new c).committed → (commit_of fault old new c).editor ≡ old
still_of (Some f) old new c failed = refl
still_of None old new c failed = absurd (done_unfailed (buffer_at old c.buffer) (buffer_at new c.buffer) c.from c.to c.what failed)

failed_still : (e new : Editor) (committed : answers.Committed) (c : answers.Change) → record { editor = new; committed = committed } ≡ commit e c → IsFailed committed → new ≡ e
failed_still e new committed c same failed =
    ap (λ (x : answers.Commit). x.editor) same
    ∙ still_of (first_fault (commit_tests e c.buffer c.what)) e (changed e c.buffer c.from c.to c.what) c (subst (λ (x : answers.Commit). IsFailed x.committed) same failed)

pub returns-in-Put-clause-ok : goal.returns-in-Put-clause-ok
returns-in-Put-clause-ok c =
    let e = editor_of c.args.editor.now in
    let new = editor_of c.commit_put.new.editor in
    let change = c.args.change.now in
    let meant : answers.Change = record { buffer = change.buffer; from = c.args.from; to = c.args.to; what = what_of change.what; reply = view change.reply } in
    let done = subst (λ (w : What). Commits c.commit_put.result e new (commit e (record { buffer = change.buffer; from = c.args.from; to = c.args.to; what = what_of w; reply = view change.reply }))) (sym c.in-Put.is)
    (subst (λ (t : List Cell). Commits c.commit_put.result e new (commit e (record { buffer = change.buffer; from = c.args.from; to = c.args.to; what = answers.Put t c.in-Put.all c.in-Put.point_after c.in-Put.widen c.in-Put.mark; reply = view change.reply }))) c.as_slice-pieces.ensures (c.commit_put.ensures (view change.reply))) in
    c.committed.ensures.ok e new (commit e meant) done

pub returns-in-Put-clause-refused : goal.returns-in-Put-clause-refused
returns-in-Put-clause-refused c =
    let e = editor_of c.args.editor.now in
    let new = editor_of c.commit_put.new.editor in
    let change = c.args.change.now in
    let meant : answers.Change = record { buffer = change.buffer; from = c.args.from; to = c.args.to; what = what_of change.what; reply = view change.reply } in
    let done = subst (λ (w : What). Commits c.commit_put.result e new (commit e (record { buffer = change.buffer; from = c.args.from; to = c.args.to; what = what_of w; reply = view change.reply }))) (sym c.in-Put.is)
    (subst (λ (t : List Cell). Commits c.commit_put.result e new (commit e (record { buffer = change.buffer; from = c.args.from; to = c.args.to; what = answers.Put t c.in-Put.all c.in-Put.point_after c.in-Put.widen c.in-Put.mark; reply = view change.reply }))) c.as_slice-pieces.ensures (c.commit_put.ensures (view change.reply))) in
    IfOk-weaker c.committed.result (λ (x : Committed). record { editor = new; committed = committed_of x } ≡ commit e meant) (λ (x : Committed). IsFailed (committed_of x) → new ≡ e)
    (λ x same failed. failed_still e new (committed_of x) meant same failed)
    (c.committed.ensures.ok e new (commit e meant) done)

pub returns-in-Put-clause-err : goal.returns-in-Put-clause-err
returns-in-Put-clause-err c =
    let e = editor_of c.args.editor.now in
    let new = editor_of c.commit_put.new.editor in
    let change = c.args.change.now in
    let meant : answers.Change = record { buffer = change.buffer; from = c.args.from; to = c.args.to; what = what_of change.what; reply = view change.reply } in
    let done = subst (λ (w : What). Commits c.commit_put.result e new (commit e (record { buffer = change.buffer; from = c.args.from; to = c.args.to; what = what_of w; reply = view change.reply }))) (sym c.in-Put.is)
    (subst (λ (t : List Cell). Commits c.commit_put.result e new (commit e (record { buffer = change.buffer; from = c.args.from; to = c.args.to; what = answers.Put t c.in-Put.all c.in-Put.point_after c.in-Put.widen c.in-Put.mark; reply = view change.reply }))) c.as_slice-pieces.ensures (c.commit_put.ensures (view change.reply))) in
    c.committed.ensures.err e new (commit e meant) done

pub returns-in-Props-clause-ok : goal.returns-in-Props-clause-ok
returns-in-Props-clause-ok c =
    let e = editor_of c.args.editor.now in
    let new = editor_of c.commit_props.new.editor in
    let change = c.args.change.now in
    let meant : answers.Change = record { buffer = change.buffer; from = c.args.from; to = c.args.to; what = what_of change.what; reply = view change.reply } in
    let done = subst (λ (w : What). Commits c.commit_props.result e new (commit e (record { buffer = change.buffer; from = c.args.from; to = c.args.to; what = what_of w; reply = view change.reply }))) (sym c.in-Props.is) (c.commit_props.ensures (view change.reply)) in
    c.committed-in-Props.ensures.ok e new (commit e meant) done

pub returns-in-Props-clause-refused : goal.returns-in-Props-clause-refused
returns-in-Props-clause-refused c =
    let e = editor_of c.args.editor.now in
    let new = editor_of c.commit_props.new.editor in
    let change = c.args.change.now in
    let meant : answers.Change = record { buffer = change.buffer; from = c.args.from; to = c.args.to; what = what_of change.what; reply = view change.reply } in
    let done = subst (λ (w : What). Commits c.commit_props.result e new (commit e (record { buffer = change.buffer; from = c.args.from; to = c.args.to; what = what_of w; reply = view change.reply }))) (sym c.in-Props.is) (c.commit_props.ensures (view change.reply)) in
    IfOk-weaker c.committed-in-Props.result (λ (x : Committed). record { editor = new; committed = committed_of x } ≡ commit e meant) (λ (x : Committed). IsFailed (committed_of x) → new ≡ e)
    (λ x same failed. failed_still e new (committed_of x) meant same failed)
    (c.committed-in-Props.ensures.ok e new (commit e meant) done)

pub returns-in-Props-clause-err : goal.returns-in-Props-clause-err
returns-in-Props-clause-err c =
    let e = editor_of c.args.editor.now in
    let new = editor_of c.commit_props.new.editor in
    let change = c.args.change.now in
    let meant : answers.Change = record { buffer = change.buffer; from = c.args.from; to = c.args.to; what = what_of change.what; reply = view change.reply } in
    let done = subst (λ (w : What). Commits c.commit_props.result e new (commit e (record { buffer = change.buffer; from = c.args.from; to = c.args.to; what = what_of w; reply = view change.reply }))) (sym c.in-Props.is) (c.commit_props.ensures (view change.reply)) in
    c.committed-in-Props.ensures.err e new (commit e meant) done

pub returns-in-UndoGroups-clause-ok : goal.returns-in-UndoGroups-clause-ok
returns-in-UndoGroups-clause-ok c =
    let e = editor_of c.args.editor.now in
    let new = editor_of c.commit_undo.new.editor in
    let change = c.args.change.now in
    let meant : answers.Change = record { buffer = change.buffer; from = c.args.from; to = c.args.to; what = what_of change.what; reply = view change.reply } in
    let done = subst (λ (w : What). Commits c.commit_undo.result e new (commit e (record { buffer = change.buffer; from = c.args.from; to = c.args.to; what = what_of w; reply = view change.reply }))) (sym c.in-UndoGroups.is) (c.commit_undo.ensures (view change.reply)) in
    c.committed-in-UndoGroups.ensures.ok e new (commit e meant) done

pub returns-in-UndoGroups-clause-refused : goal.returns-in-UndoGroups-clause-refused
returns-in-UndoGroups-clause-refused c =
    let e = editor_of c.args.editor.now in
    let new = editor_of c.commit_undo.new.editor in
    let change = c.args.change.now in
    let meant : answers.Change = record { buffer = change.buffer; from = c.args.from; to = c.args.to; what = what_of change.what; reply = view change.reply } in
    let done = subst (λ (w : What). Commits c.commit_undo.result e new (commit e (record { buffer = change.buffer; from = c.args.from; to = c.args.to; what = what_of w; reply = view change.reply }))) (sym c.in-UndoGroups.is) (c.commit_undo.ensures (view change.reply)) in
    IfOk-weaker c.committed-in-UndoGroups.result (λ (x : Committed). record { editor = new; committed = committed_of x } ≡ commit e meant) (λ (x : Committed). IsFailed (committed_of x) → new ≡ e)
    (λ x same failed. failed_still e new (committed_of x) meant same failed)
    (c.committed-in-UndoGroups.ensures.ok e new (commit e meant) done)

pub returns-in-UndoGroups-clause-err : goal.returns-in-UndoGroups-clause-err
returns-in-UndoGroups-clause-err c =
    let e = editor_of c.args.editor.now in
    let new = editor_of c.commit_undo.new.editor in
    let change = c.args.change.now in
    let meant : answers.Change = record { buffer = change.buffer; from = c.args.from; to = c.args.to; what = what_of change.what; reply = view change.reply } in
    let done = subst (λ (w : What). Commits c.commit_undo.result e new (commit e (record { buffer = change.buffer; from = c.args.from; to = c.args.to; what = what_of w; reply = view change.reply }))) (sym c.in-UndoGroups.is) (c.commit_undo.ensures (view change.reply)) in
    c.committed-in-UndoGroups.ensures.err e new (commit e meant) done

use Rattle.std.proofs.Common.{◌<◌, length, ap, ◌∙◌, arith}
use Rattle.text_model.specs.Undo.{trial}
use Rattle.text_model.specs.Commit.{undo_each}
use Rattle.buffer_core.specs.Meaning.{site_of}
use Rattle.buffer_core.proofs.BlockLemmas.{no_change, then_changed}
use Rattle.buffer_core.proofs.KeptMargins.{there_first, there_still, there_refused}
use Rattle.buffer_core.proofs.UndoLemmas.{on_err, all_left, stays_first, inside_at, undoable_at, undone_on, none_left, undone_stays, refused_stays}
use Rattle.buffer_core.proofs.buffer.Buffer.undo_each.Goals as goal

pub undo_one-requires-clause-lies : goal.undo_one-requires-clause-lies
undo_one-requires-clause-lies c = c.loop-i.invariant.0

pub undo_one-requires-clause-inside : goal.undo_one-requires-clause-inside
undo_one-requires-clause-inside c = inside_at c.loop-i.self.begin c.loop-i.self.end c.args.records.now.state.entries c.loop-i.i c.loop-i.invariant.3

pub undo_one-requires-clause-undoable : goal.undo_one-requires-clause-undoable
undo_one-requires-clause-undoable c = undoable_at c.args.records.now.state.entries c.loop-i.i c.requires.undoable

pub undo_one-requires-clause-marks : goal.undo_one-requires-clause-marks
undo_one-requires-clause-marks c = c.loop-i.invariant.1

pub loop-i-init : goal.loop-i-init
loop-i-init c =
    let es = c.args.records.now.state.entries in
    let first = site_of c.args.pool.now c.args.self.now c.args.marks.now in
    (c.requires.lies, c.requires.marks, no_change c.args.self.now.text.blocks c.args.pool.now, ap (trial c.args.self.now.begin c.args.self.now.end) (all_left es) ∙ c.requires.inside, ap (λ l. undo_each c.args.id l first) (all_left es), stays_first es first, omega arith, there_first es first)

pub loop-i-preserved : goal.loop-i-preserved
loop-i-preserved c =
    let e = c.in_ok-undo_one.ensures in
    let es = c.args.records.now.state.entries in
    let within : c.loop-i.i < length es = omega (arith, c.loop-i-test.true, c.len-i-end.ensures.exact) in
    let on = undone_on c.args.id c.loop-i.i es (site_of c.loop-i.pool c.loop-i.self c.loop-i.marks) (site_of c.undo_one.new.pool c.undo_one.new.self c.undo_one.new.marks) _
    within c.requires.undoable c.loop-i.invariant.3 e.site c.loop-i.invariant.4 in
    let stays = undone_stays c.args.id c.loop-i.i es (site_of c.args.pool.now c.args.self.now c.args.marks.now) (site_of c.loop-i.pool c.loop-i.self c.loop-i.marks) (site_of c.undo_one.new.pool c.undo_one.new.self c.undo_one.new.marks)
    within c.loop-i.invariant.5 e.site in
    let there = there_still c.args.id c.loop-i.i es (site_of c.args.pool.now c.args.self.now c.args.marks.now) (site_of c.loop-i.pool c.loop-i.self c.loop-i.marks) (site_of c.undo_one.new.pool c.undo_one.new.self c.undo_one.new.marks)
    within c.requires.undoable c.loop-i.invariant.7 e.site in
    (e.lies, e.marks, then_changed c.args.self.now.text.blocks c.loop-i.self.text.blocks c.undo_one.new.self.text.blocks c.args.pool.now c.loop-i.pool c.undo_one.new.pool c.loop-i.invariant.2 e.blocks, on.0, on.1, stays, omega (arith, c.loop-i.invariant.6, e.cells), there)

pub returns-clause-site : goal.returns-clause-site
returns-clause-site c = none_left c.args.id c.loop-i.i c.args.records.now.state.entries _ _ (omega (arith, c.loop-i-test.false, c.len-i-end.ensures.exact)) c.loop-i.invariant.4

pub returns-in_err-undo_one-clause-err : goal.returns-in_err-undo_one-clause-err
returns-in_err-undo_one-clause-err c =
    refused_stays c.from_residual.result c.loop-i.i c.args.records.now.state.entries (site_of c.args.pool.now c.args.self.now c.args.marks.now) (site_of c.loop-i.pool c.loop-i.self c.loop-i.marks) (site_of c.undo_one.new.pool c.undo_one.new.self c.undo_one.new.marks)
    (omega (arith, c.loop-i-test.true, c.len-i-end.ensures.exact)) c.loop-i.invariant.5 c.in_err-undo_one.ensures.change c.in_err-undo_one.ensures.err

pub returns-in_err-undo_one-clause-cells : goal.returns-in_err-undo_one-clause-cells
returns-in_err-undo_one-clause-cells c = omega (arith, c.loop-i.invariant.6, c.in_err-undo_one.ensures.cells)

pub returns-in_err-undo_one-clause-margins : goal.returns-in_err-undo_one-clause-margins
returns-in_err-undo_one-clause-margins c = λ front behind room between.
    on_err c.from_residual.result _
    (there_refused c.args.records.now.state.entries c.loop-i.i (site_of c.args.pool.now c.args.self.now c.args.marks.now) (site_of c.loop-i.pool c.loop-i.self c.loop-i.marks) (site_of c.undo_one.new.pool c.undo_one.new.self c.undo_one.new.marks)
    c.loop-i.invariant.7 c.in_err-undo_one.ensures.err front behind room between)

pub returns-clause-cells : goal.returns-clause-cells
returns-clause-cells c = c.loop-i.invariant.6

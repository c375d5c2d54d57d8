use Rattle.std.proofs.Common.{ap, ◌∙◌, arith}
use Rattle.text_model.specs.Commit.{Site, undo_each}
use Rattle.buffer_core.specs.Meaning.{Stored, site_of}
use Rattle.buffer_core.specs.Undoing.{StaysButForPoint}
use Rattle.buffer_core.proofs.UndoLemmas.{pending_site, stands_again}
use Rattle.buffer_core.proofs.buffer.Buffer.undo_in_place.Goals as goal

pub go_back-requires : goal.go_back-requires
go_back-requires c =
    let stays : StaysButForPoint (site_of c.args.pool.now c.pass.new.self c.args.marks.now) (site_of c.undo_each.new.pool c.undo_each.new.self c.undo_each.new.marks) = c.in-Err.ensures.err c.requires.one.0 c.requires.one.1 in
    let same = ap (λ (s : Site). s.buffer.end) stays ∙ ap (λ (b : Stored). b.end) c.pass.ensures.rest in
    let here = ap (λ (b : Stored). b.end) c.self.view_is in
    let stored = c.bounds-bounds.ensures.stored in
    omega (arith, same, here, stored.end)

pub returns-in-Ok-clause-ok : goal.returns-in-Ok-clause-ok
returns-in-Ok-clause-ok c =
    c.in-Ok.ensures.site ∙ ap (undo_each c.args.id c.args.records.now.state.entries) (pending_site c.args.plan.now.last c.args.pool.now c.args.self.now c.pass.new.self c.args.marks.now c.pass.ensures.rest c.pass.ensures.state)

pub returns-in-Err-clause-err : goal.returns-in-Err-clause-err
returns-in-Err-clause-err c =
    let before : Stored = c.args.self.now in
    stands_again c.args.plan.now.last c.args.pool.now c.undo_each.new.pool before c.pass.new.self c.undo_each.new.self c.go_back.new.self c.args.marks.now c.undo_each.new.marks
    (pending_site c.args.plan.now.last c.args.pool.now before c.pass.new.self c.args.marks.now c.pass.ensures.rest c.pass.ensures.state)
    (c.in-Err.ensures.err c.requires.one.0 c.requires.one.1)
    (c.go_back.ensures.rest
    ∙ ap (λ (b : Stored). record c.undo_each.new.self { begin = b.begin; end = b.end; point = b.point; modified = b.modified; undo = c.go_back.new.self.undo }) c.self.view_is)
    (c.go_back.ensures.state
    ∙ ap (λ n. record c.undo_each.new.self.undo.state { pending_below = n }) (c.pending_below-pending.ensures ∙ ap (λ (b : Stored). b.undo.state.pending_below) c.self.view_is))

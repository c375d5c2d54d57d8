use Rattle.std.proofs.Common.{◌≡◌, ◌-◌, length, take, drop, ap, sym, ◌∙◌, arith}
use Rattle.gap_text.specs.Text.{characters}
use Rattle.buffer_core.specs.Margins.{SameMargins}
use Rattle.buffer_core.specs.Meaning.{Stored}
use Rattle.buffer_core.proofs.KeptMargins.{failed_margins, between_back, went_back}
use Rattle.buffer_core.proofs.Runs.{length_part}
use Rattle.buffer_core.proofs.Sizes.{text_size}
use Rattle.buffer_core.proofs.buffer.Buffer.undo_or_go_back.Goals as goal

pub go_back_to-requires-clause-order : goal.go_back_to-requires-clause-order
go_back_to-requires-clause-order c =
    let b = c.in_ok-before.before in
    let old : length (characters c.args.pool.now c.args.self.now.text) ≡ length c.args.self.now.sets = text_size c.args.pool.now c.args.self.now.text c.args.self.now.sets c.requires.lies c.bounds-bounds.ensures.stored.size in
    let new : length (characters c.undo_each.new.pool c.undo_each.new.self.text) ≡ length c.undo_each.new.self.sets = text_size c.undo_each.new.pool c.undo_each.new.self.text c.undo_each.new.self.sets c.in-Err.ensures.lies c.bounds-left.ensures.stored.size in
    let same = failed_margins c.args.pool.now c.undo_each.new.pool c.args.self.now c.pass.new.self c.undo_each.new.self c.args.records.now.state.entries b.margins.front b.margins.behind
    c.pass.ensures.rest old new c.in-Err.ensures.margins c.in_ok-before.ensures.order c.in_ok-before.ensures.between in
    omega (arith, same.room, new)

pub go_back_to-requires-clause-size : goal.go_back_to-requires-clause-size
go_back_to-requires-clause-size c =
    let b = c.in_ok-before.before in
    let old : length (characters c.args.pool.now c.args.self.now.text) ≡ length c.args.self.now.sets = text_size c.args.pool.now c.args.self.now.text c.args.self.now.sets c.requires.lies c.bounds-bounds.ensures.stored.size in
    let part : length b.text.items ≡ length c.args.self.now.sets - b.margins.behind - b.margins.front =
    ap length c.in_ok-before.ensures.text ∙ length_part b.margins.front (length c.args.self.now.sets - b.margins.behind) (characters c.args.pool.now c.args.self.now.text) (omega (arith, c.in_ok-before.ensures.order)) (omega (arith, old)) in
    let sets : length c.args.self.now.sets ≡ length b.props = ap (λ (s : Stored). length s.sets) c.in_ok-before.ensures.rest in
    omega (arith, c.in_ok-before.ensures.order, part, sets)

pub returns-in-Err-clause-err : goal.returns-in-Err-clause-err
returns-in-Err-clause-err c =
    let b = c.in_ok-before.before in
    let old : length (characters c.args.pool.now c.args.self.now.text) ≡ length c.args.self.now.sets = text_size c.args.pool.now c.args.self.now.text c.args.self.now.sets c.requires.lies c.bounds-bounds.ensures.stored.size in
    let new : length (characters c.undo_each.new.pool c.undo_each.new.self.text) ≡ length c.undo_each.new.self.sets = text_size c.undo_each.new.pool c.undo_each.new.self.text c.undo_each.new.self.sets c.in-Err.ensures.lies c.bounds-left.ensures.stored.size in
    let same : SameMargins b.margins.front b.margins.behind (characters c.args.pool.now c.args.self.now.text) (characters c.undo_each.new.pool c.undo_each.new.self.text) =
    failed_margins c.args.pool.now c.undo_each.new.pool c.args.self.now c.pass.new.self c.undo_each.new.self c.args.records.now.state.entries b.margins.front b.margins.behind
    c.pass.ensures.rest old new c.in-Err.ensures.margins c.in_ok-before.ensures.order c.in_ok-before.ensures.between in
    went_back c.args.pool.now c.go_back_to.new.pool c.args.self.now c.go_back_to.new.self b.props b.bounds.start b.bounds.end b.bounds.point b.modified b.undo c.args.marks.now
    (c.go_back_to.ensures.text
    ∙ between_back b.margins.front b.margins.behind (characters c.args.pool.now c.args.self.now.text) (characters c.undo_each.new.pool c.undo_each.new.self.text) b.text.items
    (omega (arith, old, c.in_ok-before.ensures.order)) same
    (c.in_ok-before.ensures.text ∙ ap (λ n. drop b.margins.front (take (n - b.margins.behind) (characters c.args.pool.now c.args.self.now.text))) (sym old)))
    c.go_back_to.ensures.rest c.in_ok-before.ensures.rest c.in_ok-before.ensures.undo

use Rattle.std.proofs.Common.{◌≤◌, length, sym, arith}
use Rattle.std.proofs.lemmas.List.{length-take-le}
use Rattle.gap_text.specs.Text.{codes, characters}
use Rattle.gap_text.proofs.Texts.{lent_front, part_grows}
use Rattle.gap_text.proofs.text.Text.copy_out.Goals as goal

pub extend_codes-requires : goal.extend_codes-requires
extend_codes-requires c =
    let few : c.min-count.result ≤ length c.stretch-lent.result.now = omega (arith, c.min-count.ensures) in
    (lent_front (codes c.args.pool.now c.args.self.now) c.stretch-lent.result.now c.loop-at.at c.min-count.result c.requires.lies.codes c.stretch-lent.ensures.codes few).0

pub loop-at-preserved : goal.loop-at-preserved
loop-at-preserved c =
    let i = c.loop-at.invariant in
    let few : c.min-count.result ≤ length c.stretch-lent.result.now = omega (arith, c.min-count.ensures) in
    let read = (lent_front (codes c.args.pool.now c.args.self.now) c.stretch-lent.result.now c.loop-at.at c.min-count.result c.requires.lies.codes c.stretch-lent.ensures.codes few).1 in
    let text = characters c.args.pool.now c.args.self.now in (
      omega (arith, i.0),
      omega (arith, c.min-count.ensures, c.loop-at-test.true),
      rw (c.in_ok-extend_codes.ensures.ok, i.2, read) (sym (part_grows text c.args.from c.loop-at.at c.min-count.result i.0 (omega (arith, i.1, c.requires.range)))),
      omega (arith, i.3, length-take-le c.min-count.result c.stretch-lent.result.now few, c.in_ok-extend_codes.ensures.room),
    )

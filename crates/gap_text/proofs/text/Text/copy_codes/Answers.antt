use Rattle.std.proofs.Common.{◌≡◌, ◌+◌, ◌≤◌, ◌++◌, length, take, drop, ap, ◌∙◌, arith}
use Rattle.std.proofs.lemmas.List.{take_all, take_at, length-append, length-drop, length-take-le}
use Rattle.gap_text.specs.Text.{codes}
use Rattle.ek_types.proofs.Readings.{length-read}
use Rattle.gap_text.proofs.Copying.{copies_on, source_stays, lent_within}
use Rattle.gap_text.proofs.text.Text.copy_codes.Goals as goal

pub stretch-lent-requires-clause-lies : goal.stretch-lent-requires-clause-lies
stretch-lent-requires-clause-lies c =
    (source_stays c.args.blocks.now (codes c.args.pool.now c.args.self.now) c.args.self.now c.args.pool.now c.loop-place.pool 0 c.loop-place.place c.loop-place.invariant.0 c.requires.apart c.requires.lies).lies

pub stretch-lent-requires-clause-range : goal.stretch-lent-requires-clause-range
stretch-lent-requires-clause-range c =
    let same = source_stays c.args.blocks.now (codes c.args.pool.now c.args.self.now) c.args.self.now c.args.pool.now c.loop-place.pool 0 c.loop-place.place c.loop-place.invariant.0 c.requires.apart c.requires.lies in
    omega (
      arith,
      ap length same.codes,
      length-read (codes c.loop-place.pool c.args.self.now) same.lies.codes,
      length-read (codes c.args.pool.now c.args.self.now) c.requires.lies.codes,
      c.len-size.ensures.characters c.args.pool.now c.requires.lies,
      c.loop-place-test.true,
    )

pub set_cells_at-requires-clause-range : goal.set_cells_at-requires-clause-range
set_cells_at-requires-clause-range c =
    let lent = c.stretch-lent.result.now in
    let n = c.min-count.result in
    let copied = c.copy_from_slice.new.self in
    let same = source_stays c.args.blocks.now (codes c.args.pool.now c.args.self.now) c.args.self.now c.args.pool.now c.loop-place.pool 0 c.loop-place.place c.loop-place.invariant.0 c.requires.apart c.requires.lies in
    let more : c.loop-place.place + length lent ≤ length (codes c.args.pool.now c.args.self.now) = lent_within c.args.self.now c.args.pool.now c.loop-place.pool c.loop-place.place lent same c.stretch-lent.ensures.codes c.loop-place.invariant.1 in
    let few : n ≤ length lent = omega (arith, c.min-count.ensures) in
    let size : length copied ≡ n = ap length c.copy_from_slice.ensures.after ∙ length-take-le n lent few in
    let part : take n (copied ++ drop n c.loop-place.held) ≡ copied = take_at copied (drop n c.loop-place.held) n size in
    omega (arith, ap length part, c.requires.room)

pub overflow_add-place : goal.overflow_add-place
overflow_add-place c =
    let lent = c.stretch-lent.result.now in
    let same = source_stays c.args.blocks.now (codes c.args.pool.now c.args.self.now) c.args.self.now c.args.pool.now c.loop-place.pool 0 c.loop-place.place c.loop-place.invariant.0 c.requires.apart c.requires.lies in
    let more : c.loop-place.place + length lent ≤ length (codes c.args.pool.now c.args.self.now) = lent_within c.args.self.now c.args.pool.now c.loop-place.pool c.loop-place.place lent same c.stretch-lent.ensures.codes c.loop-place.invariant.1 in
    omega (arith, c.min-count.ensures, c.requires.room, c.requires.row.countable)

pub loop-place-preserved : goal.loop-place-preserved
loop-place-preserved c =
    let lent = c.stretch-lent.result.now in
    let n = c.min-count.result in
    let copied = c.copy_from_slice.new.self in
    let held = c.loop-place.held in
    let same = source_stays c.args.blocks.now (codes c.args.pool.now c.args.self.now) c.args.self.now c.args.pool.now c.loop-place.pool 0 c.loop-place.place c.loop-place.invariant.0 c.requires.apart c.requires.lies in
    let more : c.loop-place.place + length lent ≤ length (codes c.args.pool.now c.args.self.now) = lent_within c.args.self.now c.args.pool.now c.loop-place.pool c.loop-place.place lent same c.stretch-lent.ensures.codes c.loop-place.invariant.1 in
    let few : n ≤ length lent = omega (arith, c.min-count.ensures) in
    let size : length copied ≡ n = ap length c.copy_from_slice.ensures.after ∙ length-take-le n lent few in
    let part : take n (copied ++ drop n held) ≡ take n lent = take_at copied (drop n held) n size ∙ c.copy_from_slice.ensures.after in (
      copies_on c.args.blocks.now c.args.self.now c.args.pool.now c.loop-place.pool c.set_cells_at.new.pool c.loop-place.place n lent (take n (copied ++ drop n held)) c.loop-place.invariant.0
          c.requires.apart c.requires.lies c.loop-place.invariant.1 c.requires.room c.stretch-lent.ensures.codes few part c.set_cells_at.ensures.cells c.set_cells_at.ensures.row c.set_cells_at.ensures.pool,
      omega arith,
      omega (arith, length-append copied (drop n held), length-drop n held, c.loop-place.invariant.2, c.min-count.ensures),
    )

pub returns-clause-written : goal.returns-clause-written
returns-clause-written c =
    let cs = codes c.args.pool.now c.args.self.now in
    let n : length cs ≡ c.loop-place.place =
    omega (arith, length-read cs c.requires.lies.codes, c.len-size.ensures.characters c.args.pool.now c.requires.lies, c.loop-place-test.false, c.loop-place.invariant.1) in
    let z : 0 + c.loop-place.place ≡ c.loop-place.place = omega arith in
    rw n (rw z at c.loop-place.invariant.0.written ∙ take_all c.loop-place.place cs (omega arith))

use Rattle.std.proofs.Common.{◌≡◌, ◌+◌, ◌-◌, length, take, drop, ap, ◌∙◌, arith}
use Rattle.std.proofs.lemmas.List.{length-map, length-drop, length-take-le}
use Rattle.text_model.specs.Characters.{code}
use Rattle.gap_text.proofs.Moves.{writes}
use Rattle.gap_text.proofs.row.write.Goals as goal

pub loop-i-preserved : goal.loop-i-preserved
loop-i-preserved c =
    let codes = c.codes-codes.result.now in
    let i = c.loop-i.i in
    let n = c.min-count.result in
    let size : length codes ≡ length c.args.text.now.items = ap length c.codes-codes.ensures.codes ∙ length-map c.args.text.now.items code in
    let same : i + n - i ≡ n = omega arith in (
      writes c.args.blocks.now c.args.pool.now c.loop-i.pool c.set_cells_at.new.pool c.args.place codes i n (take (i + n - i) (drop i codes)) c.loop-i.invariant.0
          (omega (arith, c.requires.fits, c.min-count.ensures, size))
          (ap (λ k. length (take k (drop i codes))) same ∙ length-take-le n (drop i codes) (omega (arith, length-drop i codes, c.min-count.ensures)))
          (ap (λ k. take k (drop i codes)) same)
          c.set_cells_at.ensures.cells c.set_cells_at.ensures.row c.set_cells_at.ensures.pool,
      omega (arith, c.min-count.ensures),
    )

use Rattle.std.proofs.Common.{sym, ◌∙◌}
use Rattle.gap_text.proofs.Rows.{Holds, block_live, read_row}
use Rattle.gap_text.proofs.row.cell_at.Goals as goal

pub cell-requires-clause-live : goal.cell-requires-clause-live
cell-requires-clause-live c =
    let h : Holds c.args.blocks.now c.args.place c.index-blocks-place.result = record { is = c.index-blocks-place.is; range = c.requires.range } in
    block_live c.args.pool.now c.args.blocks.now c.args.place c.index-blocks-place.result h c.requires.live

pub returns : goal.returns
returns c =
    let h : Holds c.args.blocks.now c.args.place c.index-blocks-place.result = record { is = c.index-blocks-place.is; range = c.requires.range } in
    c.cell.ensures ∙ sym (read_row c.args.pool.now c.args.blocks.now c.args.place c.index-blocks-place.result h c.requires.live)

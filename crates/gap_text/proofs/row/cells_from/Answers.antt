use Rattle.std.proofs.Common.{◌%◌, ◌-◌, arith}
use Rattle.gap_text.proofs.Rows.{Holds, block_live, lent_row}
use Rattle.gap_text.proofs.row.cells_from.Goals as goal

pub cells-requires : goal.cells-requires
cells-requires c =
    let h : Holds c.args.blocks.now c.args.place c.index-blocks-place.result = record { is = c.index-blocks-place.is; range = c.requires.range } in
    block_live c.args.pool.now c.args.blocks.now c.args.place c.index-blocks-place.result h c.requires.live

pub returns-clause-cells : goal.returns-clause-cells
returns-clause-cells c =
    let h : Holds c.args.blocks.now c.args.place c.index-blocks-place.result = record { is = c.index-blocks-place.is; range = c.requires.range } in
    lent_row c.args.pool.now c.args.blocks.now c.cells.result.now c.args.place c.index-blocks-place.result (c.min-end.result - c.args.place % 256) h c.requires.live (omega arith) c.cells.ensures

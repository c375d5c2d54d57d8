use Rattle.std.proofs.Common.{arith}
use Rattle.gap_text.proofs.Rows.{Holds, block_live, over_one_block, live_after, absent_differs}
use Rattle.gap_text.proofs.row.set_cells_at.Goals as goal

pub set_cells-requires-clause-live : goal.set_cells-requires-clause-live
set_cells-requires-clause-live c =
    let h : Holds c.args.blocks.now c.args.place c.index-blocks-place.result = record { is = c.index-blocks-place.is; range = omega (arith, c.requires.some, c.requires.range) } in
    block_live c.args.pool.now c.args.blocks.now c.args.place c.index-blocks-place.result h c.requires.row.live

pub returns-clause-cells : goal.returns-clause-cells
returns-clause-cells c =
    let h : Holds c.args.blocks.now c.args.place c.index-blocks-place.result = record { is = c.index-blocks-place.is; range = omega (arith, c.requires.some, c.requires.range) } in
    over_one_block c.args.pool.now c.set_cells.new.self c.args.blocks.now c.args.values.now c.args.place c.index-blocks-place.result h c.requires.row.live c.requires.row.distinct c.requires.one_block
    c.set_cells.ensures.cells c.set_cells.ensures.others

pub returns-clause-row : goal.returns-clause-row
returns-clause-row c = record {
  live = live_after c.args.pool.now c.set_cells.new.self c.args.blocks.now c.index-blocks-place.result c.set_cells.ensures.is_live c.set_cells.ensures.others c.requires.row.live;
  distinct = c.requires.row.distinct;
  countable = c.requires.row.countable;
}

pub returns-clause-pool : goal.returns-clause-pool
returns-clause-pool c =
    let h : Holds c.args.blocks.now c.args.place c.index-blocks-place.result = record { is = c.index-blocks-place.is; range = omega (arith, c.requires.some, c.requires.range) } in
    record {
      others = λ number a. c.set_cells.ensures.others number (absent_differs c.args.blocks.now c.args.place c.index-blocks-place.result number h a);
      spare = c.set_cells.ensures.spare;
      count = c.set_cells.ensures.count;
    }

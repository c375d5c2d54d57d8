use Rattle.std.proofs.Common.{arith}
use Rattle.gap_text.proofs.Rows.{Holds, block_live, copy_row, live_after, absent_differs}
use Rattle.gap_text.proofs.row.copy_within_blocks.Goals as goal

pub copy_cells-requires-clause-source_live : goal.copy_cells-requires-clause-source_live
copy_cells-requires-clause-source_live c =
    let from : Holds c.args.blocks.now c.args.from c.index-blocks-from.result = record { is = c.index-blocks-from.is; range = omega (arith, c.requires.some, c.requires.source_range) } in
    block_live c.args.pool.now c.args.blocks.now c.args.from c.index-blocks-from.result from c.requires.row.live

pub copy_cells-requires-clause-target_live : goal.copy_cells-requires-clause-target_live
copy_cells-requires-clause-target_live c =
    let to : Holds c.args.blocks.now c.args.to c.index-blocks-to.result = record { is = c.index-blocks-to.is; range = omega (arith, c.requires.some, c.requires.target_range) } in
    block_live c.args.pool.now c.args.blocks.now c.args.to c.index-blocks-to.result to c.requires.row.live

pub returns-clause-cells : goal.returns-clause-cells
returns-clause-cells c =
    let from : Holds c.args.blocks.now c.args.from c.index-blocks-from.result = record { is = c.index-blocks-from.is; range = omega (arith, c.requires.some, c.requires.source_range) } in
    let to : Holds c.args.blocks.now c.args.to c.index-blocks-to.result = record { is = c.index-blocks-to.is; range = omega (arith, c.requires.some, c.requires.target_range) } in
    copy_row c.args.pool.now c.copy_cells.new.self c.args.blocks.now c.args.from c.args.to c.index-blocks-from.result c.index-blocks-to.result c.args.count from to
    c.requires.row.live c.requires.row.distinct c.requires.source c.requires.target c.copy_cells.ensures.cells c.copy_cells.ensures.others

pub returns-clause-row : goal.returns-clause-row
returns-clause-row c = record {
  live = live_after c.args.pool.now c.copy_cells.new.self c.args.blocks.now c.index-blocks-to.result c.copy_cells.ensures.target_is_live c.copy_cells.ensures.others c.requires.row.live;
  distinct = c.requires.row.distinct;
  countable = c.requires.row.countable;
}

pub returns-clause-pool : goal.returns-clause-pool
returns-clause-pool c =
    let to : Holds c.args.blocks.now c.args.to c.index-blocks-to.result = record { is = c.index-blocks-to.is; range = omega (arith, c.requires.some, c.requires.target_range) } in
    record {
      others = λ number a. c.copy_cells.ensures.others number (absent_differs c.args.blocks.now c.args.to c.index-blocks-to.result number to a);
      spare = c.copy_cells.ensures.spare;
      count = c.copy_cells.ensures.count;
    }

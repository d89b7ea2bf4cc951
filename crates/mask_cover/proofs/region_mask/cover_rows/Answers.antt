use Rattle.std.proofs.Common.{rules}
use Rattle.mask_cover.proofs.RowLemmas.{no_cells, next_cells}
use Rattle.mask_cover.proofs.region_mask.cover_rows.Goals as goal

pub loop-row-init : goal.loop-row-init
loop-row-init c = no_cells c.args.rows.now _ c.args.above c.args.w c.in_ok-bytes.bytes.items (search rules)

pub loop-row-preserved : goal.loop-row-preserved
loop-row-preserved c = next_cells c.args.rows.now _ c.args.above c.args.w c.loop-row.row c.loop-row.bytes.items c.cover_row.new.bytes.items c.loop-row.invariant c.in_ok-cover_row.ensures

use Rattle.mask_cover.specs.Steps.{HasCells}
use Rattle.mask_cover.proofs.region_mask.cover_rows.Given as goal

abbrev pub invariant-loop-row : goal.invariant-loop-row
invariant-loop-row l = HasCells l.rows l.fn.left l.above l.w l.row l.bytes.items

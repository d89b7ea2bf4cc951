use Rattle.std.proofs.Common.{to_z, w32}
use Rattle.region_rows.proofs.RowLoops.{next_row, last_row}
use Rattle.border_region.specs.Borders.{HasUnited}
use Rattle.border_region.proofs.border.StripBorder.add_rows.Goals as goal

pub loop-j-preserved : goal.loop-j-preserved
loop-j-preserved c =
    next_row (λ j. HasUnited c.args.wide.now j c.loop-j.self) (λ j. HasUnited c.args.wide.now j c.add_row.new.self) c.args.first c.args.end (to_z w32 c.loop-j.j-bits) c.ranges.first c.ranges.end c.loop-j.invariant c.loop-j-test.true c.in_ok-add_row.ensures

pub returns : goal.returns
returns c = last_row (λ j. HasUnited c.args.wide.now j c.loop-j.self) _ c.args.end (to_z w32 c.loop-j.j-bits) c.ranges.end c.loop-j.invariant c.loop-j-test.false

use Rattle.std.proofs.Common.{refl, to_z, w32}
use Rattle.region_rows.proofs.RowLoops.{next_row, last_row}
use Rattle.border_region.specs.Borders.{HasWidened}
use Rattle.border_region.proofs.border.Border.add_rows.Goals as goal

pub add_row-requires-clause-rows : goal.add_row-requires-clause-rows
add_row-requires-clause-rows c =
    let w = c.loop-j.invariant.rows in
    record {
      across = refl;
      down = refl;
      above = w.above;
      below = w.below;
      falling = w.falling;
      widths = rw (w.across, w.down) w.widths;
      grown = rw (w.across, w.down) w.grown;
    }

pub loop-j-preserved : goal.loop-j-preserved
loop-j-preserved c =
    let w = c.loop-j.invariant.rows in
    next_row (λ j. HasWidened c.args.region.now c.args.self.now.ellipse.rx c.args.self.now.ellipse.ry j c.loop-j.self) (λ j. HasWidened c.args.region.now c.args.self.now.ellipse.rx c.args.self.now.ellipse.ry j c.add_row.new.self) c.args.first c.args.end (to_z w32 c.loop-j.j-bits) c.ranges.first c.ranges.end c.loop-j.invariant c.loop-j-test.true (rw (w.across, w.down) at c.in_ok-add_row.ensures)

pub returns : goal.returns
returns c = last_row (λ j. HasWidened c.args.region.now c.args.self.now.ellipse.rx c.args.self.now.ellipse.ry j c.loop-j.self) _ c.args.end (to_z w32 c.loop-j.j-bits) c.ranges.end c.loop-j.invariant c.loop-j-test.false

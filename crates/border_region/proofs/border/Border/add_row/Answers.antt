use Rattle.std.proofs.Common.{refl, to_z-of_z}
use Rattle.region_rows.specs.Growths.{IsRowHolding}
use Rattle.ass_num.specs.Regions.{member}
use Rattle.region_rows.specs.Widened.{in_widened}
use Rattle.border_region.proofs.border.Border.add_row.Goals as goal

pub returns : goal.returns
returns c =
    let border = c.args.self.now in
    let w = c.requires.rows in
    let h : IsRowHolding (λ i. in_widened (member c.args.region.now.top c.args.region.now.rows) border.ellipse.rx border.ellipse.ry i c.args.j) c.as_slice-3.result.now = rw c.as_slice-3.ensures.value (rw (to_z-of_z c.ranges.j) at c.in_ok-find_row.ensures) in
    record {
      across = refl;
      down = refl;
      above = w.above;
      below = w.below;
      falling = w.falling;
      widths = w.widths;
      grown = c.in_ok-add.ensures (in_widened (member c.args.region.now.top c.args.region.now.rows) border.ellipse.rx border.ellipse.ry) c.args.j w.grown h;
    }

use Rattle.std.proofs.Common.{rules, ◌≡◌, refl, ◌≤ℤ◌, ◌<ℤ◌, ℤ, false, w32, to_z-of_z, FitsSigned}
use Rattle.ass_num.specs.Regions.{member}
use Rattle.region_rows.specs.Widened.{in_widened}
use Rattle.border_region.proofs.RowLemmas.{above_all, below_all}
use Rattle.border_region.proofs.border.widened_by_changes.Goals as goal

pub add_rows-requires-clause-rows : goal.add_rows-requires-clause-rows
add_rows-requires-clause-rows c =
    let f : FitsSigned w32 c.rows_around-rows.result.first = search rules in
    let e = c.in_ok-ellipse_of.ensures in
    let g = rw (to_z-of_z f) at c.new-2.ensures in
    let top = c.rows_around-rows.ensures.first in
    let none : (i j : ℤ) → j <ℤ c.rows_around-rows.result.first → in_widened (member c.args.region.now.top c.args.region.now.rows) c.args.rx c.args.ry i j ≡ false = λ i j l. above_all c.args.region.now c.args.rx c.args.ry i j (rw top at l) in
    rw (to_z-of_z f) (record {
      across = refl;
      down = refl;
      above = c.in_ok-frontier.ensures;
      below = c.in_ok-frontier-2.ensures;
      falling = e.falling;
      widths = rw (e.rx, e.ry) e.widths;
      grown = rw (e.rx, e.ry) (g (in_widened (member c.args.region.now.top c.args.region.now.rows) c.args.rx c.args.ry) none);
    })

pub returns-clause-samples : goal.returns-clause-samples
returns-clause-samples c = λ i j.
    let f : FitsSigned w32 c.rows_around-rows.result.end = search rules in
    let e = c.in_ok-ellipse_of.ensures in
    let s = rw (to_z-of_z f, e.rx, e.ry) at c.in_ok-add_rows.ensures in
    let end = c.rows_around-rows.ensures.end in
    let none : (i j : ℤ) → c.rows_around-rows.result.end ≤ℤ j → in_widened (member c.args.region.now.top c.args.region.now.rows) c.args.rx c.args.ry i j ≡ false = λ i j l. below_all c.args.region.now c.args.rx c.args.ry i j (rw end at l) in
    c.finish.ensures.samples (in_widened (member c.args.region.now.top c.args.region.now.rows) c.args.rx c.args.ry) c.rows_around-rows.result.end s.grown none i j

use Rattle.std.proofs.Common.{arith, ◌≡◌, ◌-ℤ◌, ℤ, pos, neg_ℤ, w32, to_z-of_z, FitsSigned}
use Rattle.std.proofs.lemmas.Int.{ints}
use Rattle.border_region.proofs.RowLemmas.{row_is, middle_below, middle_above}
use Rattle.border_region.proofs.merge.Merge.find_row.Goals as goal

pub add_side-requires-clause-middle : goal.add_side-requires-clause-middle
add_side-requires-clause-middle c =
    let low = c.requires.low in
    let high = c.requires.high in
    let e : pos 0 -ℤ c.args.j ≡ neg_ℤ c.args.j = omega (arith, ints) in
    let f : FitsSigned w32 (neg_ℤ c.args.j) = omega (arith, ints) in
    let seen = λ (i : ℤ). rw (to_z-of_z c.ranges.j) at (c.seen_row.ensures.seen i) in
    rw (to_z-of_z c.ranges.j, e, to_z-of_z f) (middle_above c.args.region.now c.as_slice-widths.result.now c.args.j c.seen_row.result.now c.widen_row.new.wide.items seen c.in_ok-widen_row.ensures)

pub add_side-requires-2-clause-middle : goal.add_side-requires-2-clause-middle
add_side-requires-2-clause-middle c =
    let seen = λ (i : ℤ). rw (to_z-of_z c.ranges.j) at (c.seen_row.ensures.seen i) in
    rw (to_z-of_z c.ranges.j) (λ i k s near. c.in_ok-add_side.ensures.keeps i (middle_below c.args.region.now c.as_slice-widths.result.now c.args.j c.seen_row.result.now c.widen_row.new.wide.items seen c.in_ok-widen_row.ensures i k s near))

pub returns : goal.returns
returns c =
    let low = c.requires.low in
    let high = c.requires.high in
    let e : pos 0 -ℤ c.args.j ≡ neg_ℤ c.args.j = omega (arith, ints) in
    let f : FitsSigned w32 (neg_ℤ c.args.j) = omega (arith, ints) in
    let seen = λ (i : ℤ). rw (to_z-of_z c.ranges.j) at (c.seen_row.ensures.seen i) in
    let above = rw (to_z-of_z c.ranges.j, e, to_z-of_z f) at c.in_ok-add_side.ensures in
    let below = rw (to_z-of_z c.ranges.j) at c.in_ok-add_side-2.ensures in
    row_is c.args.region.now c.args.ellipse.now.rx c.args.ellipse.now.ry c.as_slice-widths.result.now c.args.j c.seen_row.result.now c.widen_row.new.wide.items c.add_side.new.self.runs.items c.add_side-2.new.self.runs.items (rw c.as_slice-widths.ensures.value c.requires.widths) seen c.in_ok-widen_row.ensures above below

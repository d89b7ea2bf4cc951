use Rattle.std.proofs.Common.{arith, rules, refl, to_z-of_z, FitsSigned, pos, ◌+ℤ◌, ◌-ℤ◌, ◌≤ℤ◌, ◌<ℤ◌, w32, w64}
use Rattle.std.proofs.lemmas.Int.{ints}
use Rattle.ass_num.proofs.OrderLemmas.{lt_is, lt_not}
use Rattle.sample_region.proofs.CarryLemmas.{carried_on, carried_over, fits_before, fits_sample, from_positive, next_at, next_at_over, next_over, over_less}
use Rattle.sample_region.proofs.carried.next_row.Goals as goal

pub overflow_add-over : goal.overflow_add-over
overflow_add-over c =
    let o = next_over c.requires.0 c.args.live c.requires.1 in
    let o0 = o.0 in
    let o1 = o.1 in
    let fo : FitsSigned w64 c.args.live.over = search rules in
    let fs : FitsSigned w64 c.args.live.step_over = search rules in
    rw (to_z-of_z fo, to_z-of_z fs) (omega (arith, ints))

-- the rest stays below the divisor
pub returns-then-over-live-clause-carried : goal.returns-then-over-live-clause-carried
returns-then-over-live-clause-carried c = λ y g.
    let live = c.args.live in
    let o = next_over y live g in
    let o0 = o.0 in
    let o1 = o.1 in
    let o2 = o.2 in
    let o3 = o.3 in
    let k = from_positive live.divisor o3 in
    let fo : FitsSigned w64 live.over = search rules in
    let fs : FitsSigned w64 live.step_over = search rules in
    let fd : FitsSigned w64 live.divisor = search rules in
    let fa : FitsSigned w32 live.at = search rules in
    let ft : FitsSigned w32 live.step = search rules in
    let fr : FitsSigned w64 (live.over +ℤ live.step_over) = omega (arith, ints) in
    let less : (live.over +ℤ live.step_over) <ℤ live.divisor = lt_is (live.over +ℤ live.step_over) live.divisor (simp to_z-of_z at c.if-over-live.true) in
    let n = next_at y live less g in
    let n0 = n.0 in
    let n1 = n.1 in
    let fn : FitsSigned w32 (live.at +ℤ live.step) = omega (arith, ints) in
    simp to_z-of_z (carried_on y live (record live { at = live.at +ℤ live.step; over = live.over +ℤ live.step_over }) k.0 k.2 refl refl refl refl refl refl less g.1 g.0)

-- or the divisor is taken off once
pub returns-clause-carried : goal.returns-clause-carried
returns-clause-carried c = λ y g.
    let live = c.args.live in
    let o = next_over y live g in
    let o0 = o.0 in
    let o1 = o.1 in
    let o2 = o.2 in
    let o3 = o.3 in
    let k = from_positive live.divisor o3 in
    let fo : FitsSigned w64 live.over = search rules in
    let fs : FitsSigned w64 live.step_over = search rules in
    let fd : FitsSigned w64 live.divisor = search rules in
    let fa : FitsSigned w32 live.at = search rules in
    let ft : FitsSigned w32 live.step = search rules in
    let fr : FitsSigned w64 (live.over +ℤ live.step_over) = omega (arith, ints) in
    let more : live.divisor ≤ℤ (live.over +ℤ live.step_over) = lt_not (live.over +ℤ live.step_over) live.divisor (simp to_z-of_z at c.if-over-live.false) in
    let n = next_at_over y live more g in
    let n0 = n.0 in
    let n1 = n.1 in
    let fn : FitsSigned w32 (live.at +ℤ live.step) = omega (arith, ints) in
    let fm : FitsSigned w32 ((live.at +ℤ live.step) +ℤ pos 1) = omega (arith, ints) in
    let fe : FitsSigned w64 ((live.over +ℤ live.step_over) -ℤ live.divisor) = over_less y live more g in
    simp to_z-of_z (carried_over y live (record live { at = (live.at +ℤ live.step) +ℤ pos 1; over = (live.over +ℤ live.step_over) -ℤ live.divisor }) k.0 k.2 refl refl refl refl refl refl more g.1 g.0)

pub overflow_add-result : goal.overflow_add-result
overflow_add-result c =
    let y = c.requires.0 in
    let g = c.requires.1 in
    let live = c.args.live in
    let o = next_over y live g in
    let o0 = o.0 in
    let o1 = o.1 in
    let fo : FitsSigned w64 live.over = search rules in
    let fs : FitsSigned w64 live.step_over = search rules in
    let fd : FitsSigned w64 live.divisor = search rules in
    let fa : FitsSigned w32 live.at = search rules in
    let ft : FitsSigned w32 live.step = search rules in
    let fr : FitsSigned w64 (live.over +ℤ live.step_over) = omega (arith, ints) in
    let less : (live.over +ℤ live.step_over) <ℤ live.divisor = lt_is (live.over +ℤ live.step_over) live.divisor (simp to_z-of_z at c.if-over-live.true) in
    let n = next_at y live less g in
    simp to_z-of_z (fits_sample (live.at +ℤ live.step) n.0 n.1)

pub overflow_add-result-2 : goal.overflow_add-result-2
overflow_add-result-2 c =
    let y = c.requires.0 in
    let g = c.requires.1 in
    let live = c.args.live in
    let o = next_over y live g in
    let o0 = o.0 in
    let o1 = o.1 in
    let fo : FitsSigned w64 live.over = search rules in
    let fs : FitsSigned w64 live.step_over = search rules in
    let fd : FitsSigned w64 live.divisor = search rules in
    let fa : FitsSigned w32 live.at = search rules in
    let ft : FitsSigned w32 live.step = search rules in
    let fr : FitsSigned w64 (live.over +ℤ live.step_over) = omega (arith, ints) in
    let more : live.divisor ≤ℤ (live.over +ℤ live.step_over) = lt_not (live.over +ℤ live.step_over) live.divisor (simp to_z-of_z at c.if-over-live.false) in
    let n = next_at_over y live more g in
    simp to_z-of_z (fits_before (live.at +ℤ live.step) n.0 n.1)

pub overflow_add-result-3 : goal.overflow_add-result-3
overflow_add-result-3 c =
    let y = c.requires.0 in
    let g = c.requires.1 in
    let live = c.args.live in
    let o = next_over y live g in
    let o0 = o.0 in
    let o1 = o.1 in
    let fo : FitsSigned w64 live.over = search rules in
    let fs : FitsSigned w64 live.step_over = search rules in
    let fd : FitsSigned w64 live.divisor = search rules in
    let fa : FitsSigned w32 live.at = search rules in
    let ft : FitsSigned w32 live.step = search rules in
    let fr : FitsSigned w64 (live.over +ℤ live.step_over) = omega (arith, ints) in
    let more : live.divisor ≤ℤ (live.over +ℤ live.step_over) = lt_not (live.over +ℤ live.step_over) live.divisor (simp to_z-of_z at c.if-over-live.false) in
    let n = next_at_over y live more g in
    let fn : FitsSigned w32 (live.at +ℤ live.step) = fits_before (live.at +ℤ live.step) n.0 n.1 in
    simp to_z-of_z (fits_sample ((live.at +ℤ live.step) +ℤ pos 1) n.0 n.1)

pub overflow_sub-result : goal.overflow_sub-result
overflow_sub-result c =
    let y = c.requires.0 in
    let g = c.requires.1 in
    let live = c.args.live in
    let o = next_over y live g in
    let o0 = o.0 in
    let o1 = o.1 in
    let fo : FitsSigned w64 live.over = search rules in
    let fs : FitsSigned w64 live.step_over = search rules in
    let fd : FitsSigned w64 live.divisor = search rules in
    let fa : FitsSigned w32 live.at = search rules in
    let ft : FitsSigned w32 live.step = search rules in
    let fr : FitsSigned w64 (live.over +ℤ live.step_over) = omega (arith, ints) in
    let more : live.divisor ≤ℤ (live.over +ℤ live.step_over) = lt_not (live.over +ℤ live.step_over) live.divisor (simp to_z-of_z at c.if-over-live.false) in
    simp to_z-of_z (over_less y live more g)

use Rattle.std.proofs.Common.{rules, arith, ◌≡◌, ◌+ℤ◌, pos, ◌<ℤ◌, ◌≤ℤ◌, ◌≤◌, ◌<◌, length, vec_len, SFits, to_z, w64}
use Rattle.std.proofs.lemmas.Int.{ints, to_z-of_z}
use Rattle.line_layout.proofs.LimitLemmas.{Halving-none, Halving-down, Halving-up, Halving-all, Halving-above, gap-falls}
use Rattle.line_layout.proofs.breaks.least_limit.Goals as goal

pub loop-low-init : goal.loop-low-init
loop-low-init c =
    let n : vec_len c.args.places.now ≡ length c.args.places.now.items = search rules in
    let f : SFits w64 c.min-low.result = search rules in
    let h : SFits w64 c.widest_word.result = search rules in
    rw (to_z-of_z w64 c.min-low.result f, c.min-low.ensures.value, to_z-of_z w64 c.widest_word.result h, to_z-of_z w64 c.args.max c.ranges.max, c.len-count.ensures, n)
    (Halving-none c.args.widths.now c.args.spaces.now c.args.max c.widest_word.result c.args.places.now.items c.requires.paragraph c.widest_word.ensures c.requires.filled)

pub middle_of-middle-requires-clause-from_zero : goal.middle_of-middle-requires-clause-from_zero
middle_of-middle-requires-clause-from_zero c =
    let l : to_z w64 c.loop-low.low-bits <ℤ to_z w64 c.loop-low.high-bits = search (rules, ints) in
    Halving-above c.args.widths.now c.args.spaces.now _ _ _ c.widest_word.result _ c.requires.paragraph c.widest_word.ensures l c.loop-low.invariant

pub loop-low-smaller-then-len-count : goal.loop-low-smaller-then-len-count
loop-low-smaller-then-len-count c =
    let low = to_z w64 c.loop-low.low-bits in
    let high = to_z w64 c.loop-low.high-bits in
    let middle = c.middle_of-middle.result in
    let f : SFits w64 middle = search rules in
    let a = c.middle_of-middle.ensures.from_low in
    let b = c.middle_of-middle.ensures.below_high in
    rw (to_z-of_z w64 middle f) (gap-falls low high low middle (omega (arith, ints)) a (omega (arith, ints, b)) (omega (arith, ints, b)))

pub loop-low-preserved-then-len-count : goal.loop-low-preserved-then-len-count
loop-low-preserved-then-len-count c =
    let middle = c.middle_of-middle.result in
    let f : SFits w64 middle = search rules in
    let a = c.middle_of-middle.ensures.from_low in
    let b = c.middle_of-middle.ensures.below_high in
    let n : vec_len c.fill.new.places ≡ length c.fill.new.places.items = search rules in
    let m : length c.fill.new.places.items ≤ c.len-count.result = (let x = c.len.ensures in let y = c.if-len-count.true in omega (arith, n, x, y)) in
    rw (to_z-of_z w64 middle f)
    (Halving-down c.args.widths.now c.args.spaces.now _ _ (to_z w64 c.loop-low.high-bits) middle _ c.fill.new.places.items c.requires.paragraph a (omega (arith, ints, b)) (rw (to_z-of_z w64 middle f) at c.in_ok-fill.ensures) m c.loop-low.invariant)

pub overflow_add-low : goal.overflow_add-low
overflow_add-low c =
    let middle = c.middle_of-middle.result in
    let f : SFits w64 middle = search rules in
    let h : SFits w64 (to_z w64 c.loop-low.high-bits) = search rules in
    let b = c.middle_of-middle.ensures.below_high in
    rw (to_z-of_z w64 middle f) (omega (arith, ints, b, f, h))

pub loop-low-smaller : goal.loop-low-smaller
loop-low-smaller c =
    let low = to_z w64 c.loop-low.low-bits in
    let high = to_z w64 c.loop-low.high-bits in
    let middle = c.middle_of-middle.result in
    let f : SFits w64 middle = search rules in
    let h : SFits w64 high = search rules in
    let a = c.middle_of-middle.ensures.from_low in
    let b = c.middle_of-middle.ensures.below_high in
    let g : SFits w64 (middle +ℤ pos 1) = omega (arith, ints, b, f, h) in
    rw (to_z-of_z w64 middle f, to_z-of_z w64 (middle +ℤ pos 1) g) (gap-falls low high (middle +ℤ pos 1) high (omega (arith, ints, a)) (omega (arith, ints, b)) (omega (arith, ints)) (omega (arith, ints, a)))

pub loop-low-preserved : goal.loop-low-preserved
loop-low-preserved c =
    let high = to_z w64 c.loop-low.high-bits in
    let middle = c.middle_of-middle.result in
    let f : SFits w64 middle = search rules in
    let h : SFits w64 high = search rules in
    let a = c.middle_of-middle.ensures.from_low in
    let b = c.middle_of-middle.ensures.below_high in
    let g : SFits w64 (middle +ℤ pos 1) = omega (arith, ints, b, f, h) in
    let n : vec_len c.fill.new.places ≡ length c.fill.new.places.items = search rules in
    let m : c.len-count.result < length c.fill.new.places.items = (let x = c.len.ensures in let y = c.if-len-count.false in omega (arith, n, x, y)) in
    rw (to_z-of_z w64 middle f, to_z-of_z w64 (middle +ℤ pos 1) g)
    (Halving-up c.args.widths.now c.args.spaces.now _ (to_z w64 c.loop-low.low-bits) high middle _ c.fill.new.places.items c.requires.paragraph a b (rw (to_z-of_z w64 middle f) at c.in_ok-fill.ensures) m c.loop-low.invariant)

pub returns : goal.returns
returns c =
    let n : vec_len c.args.places.now ≡ length c.args.places.now.items = search rules in
    let l : to_z w64 c.loop-low.high-bits ≤ℤ to_z w64 c.loop-low.low-bits = search (rules, ints) in
    rw (to_z-of_z w64 c.args.max c.ranges.max, c.len-count.ensures, n) at
    (Halving-all c.args.widths.now c.args.spaces.now _ _ _ c.widest_word.result _ c.widest_word.ensures l c.loop-low.invariant)

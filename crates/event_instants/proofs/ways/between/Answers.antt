use Rattle.std.proofs.Common.{rules, ◌≡◌, refl, ◌-ℤ◌, ◌*ℤ◌, ℤ, ◌+ℤ◌, FitsSigned, to_z, of_z, to_z-of_z, w64, arith}
use Rattle.std.proofs.lemmas.Int.{ints}
use Rattle.event_instants.specs.Instants.{IsBetween}
use Rattle.event_instants.specs.Instants as rule
use Rattle.ass_num.specs.Floor.{floor_div}
use Rattle.event_instants.proofs.OnTheWay.{between_within, fits_between}
use Rattle.event_instants.proofs.ways.between.Goals as goal
use mir.Syntax.{w128}

gone_is : (c : goal.After-from) → c.div_floor-gone.result ≡ floor_div ((c.args.new -ℤ c.args.old) *ℤ c.args.part) c.args.whole
gone_is c =
    let e : c.difference.result ≡ c.args.new -ℤ c.args.old = rw (to_z-of_z c.ranges.new, to_z-of_z c.ranges.old) at c.difference.ensures.value in
    let fd : FitsSigned w128 c.difference.result = search rules in
    let product : FitsSigned w128 ((c.args.new -ℤ c.args.old) *ℤ c.args.part) = omega (arith, ints, c.requires.above, c.requires.below) in
    rw (to_z-of_z fd, to_z-of_z c.ranges.part, to_z-of_z c.ranges.whole, e, to_z-of_z product) at c.div_floor-gone.ensures.value

sum_is : (c : goal.After-from) → to_z w128 (of_z w128 c.from.result) +ℤ to_z w128 (of_z w128 c.div_floor-gone.result) ≡ rule.between c.args.old c.args.new c.args.part c.args.whole
sum_is c =
    let e : c.from.result ≡ c.args.old = rw (to_z-of_z c.ranges.old) at c.from.ensures in
    let ff : FitsSigned w128 c.from.result = search rules in
    let fg : FitsSigned w128 c.div_floor-gone.result = search rules in
    rw (to_z-of_z ff, to_z-of_z fg, e, gone_is c) refl

within : (c : goal.After-from) → IsBetween c.args.old c.args.new (rule.between c.args.old c.args.new c.args.part c.args.whole)
within c = between_within c.args.old c.args.new c.args.part c.args.whole c.requires.begun c.requires.not_past c.requires.way

narrow : (c : goal.After-from) → FitsSigned w64 (rule.between c.args.old c.args.new c.args.part c.args.whole)
narrow c = fits_between c.args.old c.args.new _ c.ranges.old c.ranges.new (within c)

wide : (z : ℤ) → FitsSigned w64 z → FitsSigned w128 z
wide z h = omega (arith, ints)

pub overflow_add-result : goal.overflow_add-result
overflow_add-result c = rw (sum_is c) (wide _ (narrow c))

pub overflow_cast-result : goal.overflow_cast-result
overflow_cast-result c = rw (sum_is c, to_z-of_z (wide _ (narrow c))) (narrow c)

pub returns-clause-value : goal.returns-clause-value
returns-clause-value c = rw (sum_is c, to_z-of_z (wide _ (narrow c)), to_z-of_z (narrow c)) refl

pub returns-clause-within : goal.returns-clause-within
returns-clause-within c = rw (sum_is c, to_z-of_z (wide _ (narrow c)), to_z-of_z (narrow c)) (within c)

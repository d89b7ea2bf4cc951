use Rattle.std.proofs.Common.{◌≡◌, refl, ℕ, ◌≤◌, ◌*◌, ◌^◌, pos, neg_ℤ, ℤ, ◌-ℤ◌, ◌*ℤ◌, ◌≤ℤ◌, FitsSigned, to_z, of_z, to_z-of_z, w64, arith}
use Rattle.std.proofs.lemmas.Int.{ints, clamps}
use Rattle.event_instants.specs.Instants.{IsBetween}
use Rattle.event_instants.specs.Instants as rule
use Rattle.event_instants.proofs.OnTheWay.{product_within}
use Rattle.event_instants.proofs.ways.on_the_way.Goals as goal
use mir.Syntax.{w128}

weight_is : (r : ℤ) (n : ℕ) → r ≡ pos n → n ≤ 65536 → to_z w64 (of_z w64 r) ≡ pos n
weight_is r n e order = let f : FitsSigned w64 (pos n) = omega (arith, ints) in rw (e, to_z-of_z f) refl

product : (c : goal.After-from-2) → (neg_ℤ (pos (65536 * 2 ^ 66)) ≤ℤ ((pos c.args.new -ℤ pos c.args.old) *ℤ c.args.part)) × (((pos c.args.new -ℤ pos c.args.old) *ℤ c.args.part) ≤ℤ pos (65536 * 2 ^ 66))
product c =
    product_within 65536 (2 ^ 66) (pos c.args.new -ℤ pos c.args.old) c.args.part
    (omega (arith, ints, c.requires.old, c.requires.new)) (omega (arith, ints, c.requires.old, c.requires.new))
    c.requires.begun c.requires.short

product_is : (c : goal.After-from-2) → (to_z w64 (of_z w64 c.from-2.result) -ℤ to_z w64 (of_z w64 c.from.result)) *ℤ to_z w128 (of_z w128 c.args.part) ≡ (pos c.args.new -ℤ pos c.args.old) *ℤ c.args.part
product_is c =
    rw (
      weight_is c.from-2.result c.args.new c.from-2.ensures c.requires.new,
      weight_is c.from.result c.args.old c.from.ensures c.requires.old,
      to_z-of_z c.ranges.part,
    )
    refl

pub between-requires-clause-above : goal.between-requires-clause-above
between-requires-clause-above c = rw (product_is c) (let t = (product c).0 in omega (arith, ints, t))

pub between-requires-clause-below : goal.between-requires-clause-below
between-requires-clause-below c = rw (product_is c) (let t = (product c).1 in omega (arith, ints, t))

value : (c : goal.After-between) → c.between.result ≡ rule.between (pos c.args.old) (pos c.args.new) c.args.part c.args.whole
value c =
    rw (
      weight_is c.from-2.result c.args.new c.from-2.ensures c.requires.new,
      weight_is c.from.result c.args.old c.from.ensures c.requires.old,
      to_z-of_z c.ranges.part,
      to_z-of_z c.ranges.whole,
    ) at c.between.ensures.value

within : (c : goal.After-between) → IsBetween (pos c.args.old) (pos c.args.new) c.between.result
within c =
    rw (weight_is c.from-2.result c.args.new c.from-2.ensures c.requires.new, weight_is c.from.result c.args.old c.from.ensures c.requires.old) at c.between.ensures.within

fits : (c : goal.After-between) → (pos 0 ≤ℤ c.between.result) × (c.between.result ≤ℤ pos 65536)
fits c =
    let t = within c in
    (omega (arith, ints, clamps, t.0), omega (arith, ints, clamps, t.1, c.requires.old, c.requires.new))

narrow : (c : goal.After-between) → to_z w64 (of_z w64 c.between.result) ≡ c.between.result
narrow c =
    let t = fits c in
    let f : FitsSigned w64 c.between.result = omega (arith, ints, t.0, t.1) in
    to_z-of_z f

pub overflow_cast-result : goal.overflow_cast-result
overflow_cast-result c = let t = fits c in rw (narrow c) (omega (arith, ints, t.0, t.1), omega (arith, ints, t.0, t.1))

pub returns-clause-value : goal.returns-clause-value
returns-clause-value c = let t = fits c in rw (narrow c, ← value c) (omega (arith, ints, t.0))

pub returns-clause-within : goal.returns-clause-within
returns-clause-within c =
    let t = fits c in
    let w = within c in
    rw (narrow c) (omega (arith, ints, clamps, t.0, w.0), omega (arith, ints, clamps, t.0, w.1))

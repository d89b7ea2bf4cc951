use Rattle.std.proofs.Common.{◌≡◌, ◌-ℤ◌, ◌*ℤ◌, ◌∙◌, ap, ap₂, FitsSigned, to_z, of_z, to_z-of_z, arith}
use Rattle.std.specs.Prelude.{unsigned_abs}
use Rattle.std.proofs.lemmas.Int.{ints}
use Rattle.cff_font.proofs.RealLemmas.{difference_within, widened_product}
use Rattle.cff_font.proofs.decimals.area_behind.Goals as goal
use mir.Syntax.{w128}

difference : (c : goal.After-from-4) →
    (to_z w128 (of_z w128 (to_z w128 (of_z w128 c.from.result) *ℤ to_z w128 (of_z w128 c.from-2.result))) -ℤ to_z w128 (of_z w128 (to_z w128 (of_z w128 c.from-3.result) *ℤ to_z w128 (of_z w128 c.from-4.result))))
    ≡ ((c.args.m.xx *ℤ c.args.m.yy) -ℤ (c.args.m.xy *ℤ c.args.m.yx))
difference c =
    let m = c.args.m in
    ap₂ (λ a b. a -ℤ b) (widened_product m.xx m.yy _ _ c.requires.xx c.requires.yy c.from.ensures c.from-2.ensures)
    (widened_product m.xy m.yx _ _ c.requires.xy c.requires.yx c.from-3.ensures c.from-4.ensures)

fits : (c : goal.After-from-4) → FitsSigned w128 ((c.args.m.xx *ℤ c.args.m.yy) -ℤ (c.args.m.xy *ℤ c.args.m.yx))
fits c =
    let m = c.args.m in
    let within = difference_within m.xx m.yy m.xy m.yx c.requires.xx c.requires.yy c.requires.xy c.requires.yx in
    omega (arith, ints, within.0, within.1)

pub overflow_sub-upright : goal.overflow_sub-upright
overflow_sub-upright c = rw (difference c) (fits c)

pub returns-clause-value : goal.returns-clause-value
returns-clause-value c = c.unsigned_abs.ensures.value ∙ ap unsigned_abs (ap (λ z. to_z w128 (of_z w128 z)) (difference c.before) ∙ to_z-of_z (fits c.before))

pub returns-clause-within : goal.returns-clause-within
returns-clause-within c =
    let m = c.args.m in
    let within = difference_within m.xx m.yy m.xy m.yx c.requires.xx c.requires.yy c.requires.xy c.requires.yx in
    rw (returns-clause-value c) (omega (arith, ints, within.0, within.1))

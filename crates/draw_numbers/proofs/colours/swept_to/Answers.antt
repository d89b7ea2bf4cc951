use Rattle.std.proofs.Common.{◌*◌, ◌^◌, pos, neg_ℤ, ℤ, ◌-ℤ◌, ◌*ℤ◌, ◌≤ℤ◌, FitsSigned, to_z-of_z, rules, arith}
use Rattle.std.proofs.lemmas.Int.{ints}
use Rattle.ass_num.specs.Limits.{IsWithin}
use Rattle.event_instants.proofs.OnTheWay.{product_within}
use Rattle.outline_points.specs.Limits.{max_length}
use Rattle.draw_numbers.proofs.colours.swept_to.Goals as goal
use mir.Syntax.{w128}

-- a way between two places, times what is gone of it
way_within : (left right gone : ℤ) → IsWithin max_length left → IsWithin max_length right → pos 0 ≤ℤ gone → gone ≤ℤ pos (2 ^ 64)
    → (neg_ℤ (pos (2 ^ 61 * 2 ^ 64)) ≤ℤ ((right -ℤ left) *ℤ gone)) × (((right -ℤ left) *ℤ gone) ≤ℤ pos (2 ^ 61 * 2 ^ 64))
way_within left right gone l r begun short =
    product_within (2 ^ 61) (2 ^ 64) (right -ℤ left) gone (omega (arith, ints, l.0, l.1, r.0, r.1)) (omega (arith, ints, l.0, l.1, r.0, r.1)) begun short

within : (c : goal.After-length_between-length) → (neg_ℤ (pos (2 ^ 126)) ≤ℤ ((c.args.right -ℤ c.args.left) *ℤ c.length_between-gone.result)) × (((c.args.right -ℤ c.args.left) *ℤ c.length_between-gone.result) ≤ℤ pos (2 ^ 126))
within c =
    let t = way_within c.args.left c.args.right c.length_between-gone.result c.requires.left c.requires.right c.length_between-gone.ensures.from_zero c.length_between-gone.ensures.below in
    let u = t.0 in let v = t.1 in
    (omega (arith, ints, u), omega (arith, ints, v))

pub between-requires-clause-above : goal.between-requires-clause-above
between-requires-clause-above c =
    let fd : FitsSigned w128 c.length_between-gone.result = search rules in
    rw (to_z-of_z c.ranges.right, to_z-of_z c.ranges.left, to_z-of_z fd) (within c).0

pub between-requires-clause-below : goal.between-requires-clause-below
between-requires-clause-below c =
    let fd : FitsSigned w128 c.length_between-gone.result = search rules in
    rw (to_z-of_z c.ranges.right, to_z-of_z c.ranges.left, to_z-of_z fd) (within c).1

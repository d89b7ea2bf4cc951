use Rattle.std.proofs.Common.{arith, ◌≤◌, unsigned_abs, ◌*ℤ◌, to_z-of_z, FitsSigned}
use Rattle.std.proofs.lemmas.Int.{fits_signed_from_abs}
use Rattle.sample_region.proofs.SignedLemmas.{product_between, from_abs}
use Rattle.sample_region.proofs.cut.multiplied.Goals as goal
use mir.Syntax.{w64}

pub returns-clause-value : goal.returns-clause-value
returns-clause-value c =
    let s : unsigned_abs (c.args.a *ℤ c.args.b) ≤ 1099511627776 = product_between c.args.a c.args.b 1048575 1048575 c.requires.low_a c.requires.high_a c.requires.low_b c.requires.high_b in
    let f : FitsSigned w64 (c.args.a *ℤ c.args.b) = fits_signed_from_abs w64 (c.args.a *ℤ c.args.b) (omega arith) in
    rw (to_z-of_z c.ranges.a, to_z-of_z c.ranges.b) (to_z-of_z f)

pub returns-clause-low : goal.returns-clause-low
returns-clause-low c =
    let s : unsigned_abs (c.args.a *ℤ c.args.b) ≤ 1099511627776 = product_between c.args.a c.args.b 1048575 1048575 c.requires.low_a c.requires.high_a c.requires.low_b c.requires.high_b in
    let f : FitsSigned w64 (c.args.a *ℤ c.args.b) = fits_signed_from_abs w64 (c.args.a *ℤ c.args.b) (omega arith) in
    rw (to_z-of_z c.ranges.a, to_z-of_z c.ranges.b, to_z-of_z f) ((from_abs (c.args.a *ℤ c.args.b) 1099511627775 s).0)

pub returns-clause-high : goal.returns-clause-high
returns-clause-high c =
    let s : unsigned_abs (c.args.a *ℤ c.args.b) ≤ 1099511627776 = product_between c.args.a c.args.b 1048575 1048575 c.requires.low_a c.requires.high_a c.requires.low_b c.requires.high_b in
    let f : FitsSigned w64 (c.args.a *ℤ c.args.b) = fits_signed_from_abs w64 (c.args.a *ℤ c.args.b) (omega arith) in
    rw (to_z-of_z c.ranges.a, to_z-of_z c.ranges.b, to_z-of_z f) ((from_abs (c.args.a *ℤ c.args.b) 1099511627775 s).1)

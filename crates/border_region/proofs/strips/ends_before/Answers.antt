use Rattle.std.proofs.Common.{arith, refl, rules, ◌-◌, FitsSigned, w32, to_z-of_z}
use Rattle.border_region.specs.Strips.{run_in}
use Rattle.border_region.proofs.StripLemmas.{ends_if}
use Rattle.border_region.proofs.strips.ends_before.Goals as goal

pub returns-then-n-eq0 : goal.returns-then-n-eq0
returns-then-n-eq0 c = λ m e. absurd (omega (arith, e, c.if-n-eq0.true))

pub returns : goal.returns
returns c =
    let f : FitsSigned w32 (run_in c.args.runs.now (c.args.n - 1)).to = search rules in
    rw (to_z-of_z f, to_z-of_z c.ranges.place) (ends_if c.args.runs.now c.args.n c.args.place _ (omega (arith, c.if-n-eq0.false)) refl)

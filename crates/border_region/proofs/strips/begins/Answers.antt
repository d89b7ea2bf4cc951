use Rattle.std.proofs.Common.{arith, rules, FitsSigned, w32, to_z-of_z}
use Rattle.border_region.specs.Strips.{run_in}
use Rattle.border_region.proofs.StripLemmas.{goes_on_above}
use Rattle.border_region.proofs.strips.begins.Goals as goal

-- Where one of the runs above goes on in this one, it is the first that doesn't end before it.
pub returns-then-p-above : goal.returns-then-p-above
returns-then-p-above c = λ q g.
    let f : FitsSigned w32 (run_in c.args.below.now c.args.n).from = search rules in
    let e = goes_on_above c.args.above.now q c.args.below.now c.args.n c.count_before-p.result c.requires.ascends (rw (to_z-of_z f) at c.count_before-p.ensures) g in
    let from = g.from in
    absurd (omega (arith, e, from, c.if-p-above.true))

pub returns-then-goes_on : goal.returns-then-goes_on
returns-then-goes_on c = (c.count_before-p.result, rw c.if-goes_on.true at c.goes_on.ensures)

pub returns : goal.returns
returns c = λ q g.
    let f : FitsSigned w32 (run_in c.args.below.now c.args.n).from = search rules in
    let e = goes_on_above c.args.above.now q c.args.below.now c.args.n c.count_before-p.result c.requires.ascends (rw (to_z-of_z f) at c.count_before-p.ensures) g in
    (rw c.if-goes_on.false at c.goes_on.ensures) (rw e at g)

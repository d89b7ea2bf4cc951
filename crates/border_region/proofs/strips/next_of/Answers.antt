use Rattle.std.proofs.Common.{arith, rules, FitsSigned, w32, to_z-of_z}
use Rattle.border_region.specs.Strips.{run_in}
use Rattle.border_region.proofs.StripLemmas.{goes_on_below}
use Rattle.border_region.proofs.strips.next_of.Goals as goal

-- Where the run goes on at all, it does so in the first one that doesn't end before it.
pub returns-then-n-below : goal.returns-then-n-below
returns-then-n-below c = λ m g.
    let f : FitsSigned w32 (run_in c.args.above.now c.args.p).from = search rules in
    let e = goes_on_below c.args.above.now c.args.p c.args.below.now m c.count_before-n.result c.requires.ascends (rw (to_z-of_z f) at c.count_before-n.ensures) g in
    let to = g.to in
    absurd (omega (arith, e, to, c.if-n-below.true))

pub returns-then-goes_on : goal.returns-then-goes_on
returns-then-goes_on c = rw c.if-goes_on.true at c.goes_on.ensures

pub returns : goal.returns
returns c = λ m g.
    let f : FitsSigned w32 (run_in c.args.above.now c.args.p).from = search rules in
    let e = goes_on_below c.args.above.now c.args.p c.args.below.now m c.count_before-n.result c.requires.ascends (rw (to_z-of_z f) at c.count_before-n.ensures) g in
    (rw c.if-goes_on.false at c.goes_on.ensures) (rw e at g)

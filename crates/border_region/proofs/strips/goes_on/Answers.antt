use Rattle.std.proofs.Common.{arith, rules, FitsSigned, w32, to_z-of_z}
use Rattle.std.proofs.lemmas.Int.{ints}
use Rattle.ass_num.proofs.OrderLemmas.{lt_is, lt_not}
use Rattle.border_region.specs.Strips.{run_in}
use Rattle.border_region.proofs.StripLemmas.{goes_on_if}
use Rattle.border_region.proofs.strips.goes_on.Goals as goal

pub returns-then-b-a : goal.returns-then-b-a
returns-then-b-a c = λ g.
    let f : FitsSigned w32 (run_in c.args.below.now c.args.n).to = search rules in
    let h : FitsSigned w32 (run_in c.args.above.now c.args.p).from = search rules in
    let l = lt_is (run_in c.args.below.now c.args.n).to (run_in c.args.above.now c.args.p).from (rw (to_z-of_z f, to_z-of_z h) at c.if-b-a.true) in
    let m = g.meet.0 in
    absurd (omega (arith, ints))

pub returns-then-a-b : goal.returns-then-a-b
returns-then-a-b c = λ g.
    let f : FitsSigned w32 (run_in c.args.above.now c.args.p).to = search rules in
    let h : FitsSigned w32 (run_in c.args.below.now c.args.n).from = search rules in
    let l = lt_is (run_in c.args.above.now c.args.p).to (run_in c.args.below.now c.args.n).from (rw (to_z-of_z f, to_z-of_z h) at c.if-a-b.true) in
    let m = g.meet.1 in
    absurd (omega (arith, ints))

pub returns-then-not-ends_before : goal.returns-then-not-ends_before
returns-then-not-ends_before c = λ g.
    let h : FitsSigned w32 (run_in c.args.below.now c.args.n).from = search rules in
    (rw (c.if-not-ends_before.true, to_z-of_z h) at c.ends_before.ensures) g.first_above

pub returns : goal.returns
returns c =
    let at : FitsSigned w32 (run_in c.args.above.now c.args.p).to = search rules in
    let af : FitsSigned w32 (run_in c.args.above.now c.args.p).from = search rules in
    let bt : FitsSigned w32 (run_in c.args.below.now c.args.n).to = search rules in
    let bf : FitsSigned w32 (run_in c.args.below.now c.args.n).from = search rules in
    goes_on_if c.args.above.now c.args.p c.args.below.now c.args.n c.ends_before-2.result c.requires.above c.requires.below
    (lt_not (run_in c.args.below.now c.args.n).to (run_in c.args.above.now c.args.p).from (rw (to_z-of_z bt, to_z-of_z af) at c.if-b-a.false), lt_not (run_in c.args.above.now c.args.p).to (run_in c.args.below.now c.args.n).from (rw (to_z-of_z at, to_z-of_z bf) at c.if-a-b.false))
    (rw (c.if-not-ends_before.false, to_z-of_z bf) at c.ends_before.ensures) (rw (to_z-of_z af) at c.ends_before-2.ensures)

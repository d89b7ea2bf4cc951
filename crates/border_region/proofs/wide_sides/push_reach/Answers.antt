use Rattle.std.proofs.Common.{arith, rules, refl, ◌-ℤ◌, pos, get_or, to_z-of_z, FitsSigned, w32}
use Rattle.std.proofs.lemmas.Int.{ints}
use Rattle.std.proofs.lemmas.List.{take_all}
use Rattle.border_region.proofs.ReachLemmas.{mapped_more}
use Rattle.border_region.proofs.wide_sides.push_reach.Goals as goal

pub loop-width-preserved : goal.loop-width-preserved
loop-width-preserved c =
    let k = c.loop-width.width-index in
    let near = c.requires.side in
    let least = c.requires.least k c.loop-width-test.true in
    let most = c.requires.most k c.loop-width-test.true in
    let fs : FitsSigned w32 c.args.side = c.ranges.side in
    let fw : FitsSigned w32 (get_or c.args.widths.now k (pos 0)) = search rules in
    let fd : FitsSigned w32 (c.args.side -ℤ get_or c.args.widths.now k (pos 0)) = omega (arith, ints) in
    let e = simp to_z-of_z at c.in_ok-push.ensures.items in
    let was = rw (to_z-of_z c.ranges.side) at c.loop-width.invariant in
    rw (to_z-of_z c.ranges.side) (mapped_more (λ w. c.args.side -ℤ w) c.args.wide.now.items c.loop-width.wide.items c.push.new.self.items c.args.widths.now k (c.args.side -ℤ get_or c.args.widths.now k (pos 0)) c.loop-width-test.true e refl was)

pub returns : goal.returns
returns c = rw (to_z-of_z c.ranges.side, take_all c.loop-width.width-index c.args.widths.now c.loop-width-test.false) at c.loop-width.invariant

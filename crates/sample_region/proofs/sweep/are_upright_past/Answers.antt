use Rattle.std.proofs.Common.{rules, to_z-of_z}
use Rattle.std.proofs.lemmas.List.{take_all}
use Rattle.sample_region.proofs.CarryLemmas.{no_live, upright_more}
use Rattle.sample_region.proofs.sweep.are_upright_past.Goals as goal

pub loop-live-preserved : goal.loop-live-preserved
loop-live-preserved c =
    let before = rw (to_z-of_z c.ranges.y) at c.loop-live.invariant in
    let this = rw (to_z-of_z c.ranges.y) at (c.is_upright_past.ensures (search rules)) in
    rw (to_z-of_z c.ranges.y) (upright_more c.args.y c.args.active.now c.loop-live.live-index no_live c.loop-live-test.true before this)

pub returns : goal.returns
returns c = λ _.
    let before = rw (to_z-of_z c.ranges.y) at c.loop-live.invariant in
    rw (take_all c.loop-live.live-index c.args.active.now c.loop-live-test.false) at before

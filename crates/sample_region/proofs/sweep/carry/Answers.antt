use Rattle.std.proofs.Common.{arith, ◌<◌, length}
use Rattle.sample_region.proofs.CarryLemmas.{moved_all, moved_edges, moved_more, moved_none, no_live}
use Rattle.sample_region.proofs.sweep.carry.Goals as goal

pub loop-live-init : goal.loop-live-init
loop-live-init c = moved_none c.args.active.now

pub next_row-requires : goal.next_row-requires
next_row-requires c =
    let count = c.loop-live.invariant.count in
    let within : c.loop-live.live-index < length c.args.active.now = omega arith in
    rw (c.loop-live.invariant.rest c.loop-live.live-index no_live (omega arith)) (c.requires c.loop-live.live-index no_live within)

pub loop-live-preserved : goal.loop-live-preserved
loop-live-preserved c = moved_more c.loop-live.live-index c.args.active.now c.loop-live.active c.next_row.result no_live (omega arith) c.next_row.ensures.edge c.next_row.ensures.carried c.loop-live.invariant

pub returns-clause-edges : goal.returns-clause-edges
returns-clause-edges c = moved_edges c.loop-live.live-index c.args.active.now c.loop-live.active c.loop-live.invariant

pub returns-clause-carried : goal.returns-clause-carried
returns-clause-carried c = λ y all. let count = c.loop-live.invariant.count in moved_all c.loop-live.live-index c.args.active.now c.loop-live.active y (omega arith) c.loop-live.invariant all

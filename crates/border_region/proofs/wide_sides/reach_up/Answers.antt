use Rattle.std.proofs.Common.{arith}
use Rattle.border_region.proofs.ReachLemmas.{above_all_rows}
use Rattle.border_region.proofs.wide_sides.reach_up.Goals as goal

pub returns : goal.returns
returns c = above_all_rows c.args.middle c.args.profile.now c.args.side.now c.loop-k.wide c.loop-k.k (omega (arith, c.loop-k-test.false)) c.loop-k.invariant.wide

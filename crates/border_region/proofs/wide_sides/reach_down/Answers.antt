use Rattle.std.proofs.Common.{arith}
use Rattle.border_region.proofs.ReachLemmas.{below_all_rows}
use Rattle.border_region.proofs.wide_sides.reach_down.Goals as goal

pub returns : goal.returns
returns c = below_all_rows c.args.middle c.args.profile.now c.args.side.now c.loop-done.wide c.loop-done.done (omega (arith, c.loop-done-test.false)) c.loop-done.invariant.wide

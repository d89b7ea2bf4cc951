-- The two bounds are those of the quotient that `div_euclid` gives.
use Rattle.std.proofs.Common.{rules}
use Rattle.ass_num.proofs.Floor.{floor_below, floor_above}
use Rattle.ass_num.proofs.floors.div_floor.Goals as goal

pub returns-clause-below : goal.returns-clause-below
returns-clause-below c = floor_below _ c.args.a c.args.b (search rules) c.requires

pub returns-clause-above : goal.returns-clause-above
returns-clause-above c = floor_above _ c.args.a c.args.b (search rules) c.requires

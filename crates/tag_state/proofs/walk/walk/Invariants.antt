use Rattle.std.proofs.Common.{◌-◌, length}
use Rattle.tag_state.specs.Walks.{IsAt}
use Rattle.tag_state.proofs.walk.walk.Given as goal

abbrev pub invariant-loop-place : goal.invariant-loop-place
invariant-loop-place l = IsAt l.script l.event l.elapsed l.items l.place l.pen l.sheet

abbrev pub decreases-loop-place : goal.decreases-loop-place
decreases-loop-place l = length l.items - l.place

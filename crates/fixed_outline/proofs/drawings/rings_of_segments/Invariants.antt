use Rattle.std.proofs.Common.{drop}
use Rattle.fixed_outline.specs.Figures.{IsWalked}
use Rattle.fixed_outline.proofs.drawings.rings_of_segments.Given as goal

abbrev pub invariant-loop-seg : goal.invariant-loop-seg
invariant-loop-seg l = IsWalked l.m l.shift l.segs l.rings l.ring.items l.vertex (drop l.seg-index l.segs)

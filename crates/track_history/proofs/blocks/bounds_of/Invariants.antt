use Rattle.std.proofs.Common.{take}
use Rattle.track_history.proofs.Bounds.{AreWithin}
use Rattle.track_history.proofs.blocks.bounds_of.Given as goal

abbrev pub invariant-all : goal.invariant-all
invariant-all l = AreWithin l.first l.last (take l.span-index l.spans)

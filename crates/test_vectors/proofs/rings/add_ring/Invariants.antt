use Rattle.std.proofs.Common.{All}
use Rattle.ass_num.specs.Limits.{IsOutlinePoint}
use Rattle.test_vectors.proofs.rings.add_ring.Given as goal

abbrev pub invariant-loop-word : goal.invariant-loop-word
invariant-loop-word l = All IsOutlinePoint l.points.items

use Rattle.ass_num.specs.Limits.{IsOutline}
use Rattle.test_vectors.proofs.rings.outline_of.Given as goal

abbrev pub invariant-loop-ring : goal.invariant-loop-ring
invariant-loop-ring l = IsOutline l.rings

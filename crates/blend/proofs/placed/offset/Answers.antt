use Rattle.std.proofs.Common.{arith}
use Rattle.std.proofs.lemmas.Int.{ints}
use Rattle.blend.proofs.placed.offset.Goals as goal

pub returns : goal.returns
returns c = omega (arith, ints)

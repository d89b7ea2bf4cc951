use Rattle.std.proofs.Common.{lit≤}
use Rattle.kernel_bench.proofs.letters.letter_region.Goals as goal

pub returns : goal.returns
returns c = c.in_ok-region.ensures.within 131072 (lit≤ tt)

-- `isqrt` gives the two bounds.
use Rattle.std.proofs.Common.{◌*◌, sym}
use Rattle.ass_num.proofs.Roots.{root_of_is}
use Rattle.ass_num.proofs.powers.root.Goals as goal

pub returns-clause-value : goal.returns-clause-value
returns-clause-value c = sym (root_of_is (c.args.x * 65536) c.isqrt.result c.isqrt.ensures.square_le c.isqrt.ensures.next_square_gt)

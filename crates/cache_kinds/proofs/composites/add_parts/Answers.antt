use Rattle.std.proofs.Common.{arith}
use Rattle.mask_keys.specs.Numbers.{part_numbers}
use Rattle.cache_kinds.proofs.MixedLemmas.{mixed_more}
use Rattle.cache_kinds.proofs.composites.add_parts.Goals as goal

pub loop-part-preserved : goal.loop-part-preserved
loop-part-preserved c =
    mixed_more part_numbers c.args.parts.now c.loop-part.part-index c.part-item.result c.part-item.result c.args.sum.now c.loop-part.sum c.add_part.new.sum (omega arith) c.part-item.is c.loop-part.invariant
    c.add_part.ensures

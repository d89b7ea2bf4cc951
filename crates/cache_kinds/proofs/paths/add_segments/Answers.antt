use Rattle.std.proofs.Common.{arith}
use Rattle.mask_keys.specs.Numbers.{seg_numbers}
use Rattle.cache_kinds.proofs.MixedLemmas.{mixed_more}
use Rattle.cache_kinds.proofs.paths.add_segments.Goals as goal

pub loop-seg-preserved : goal.loop-seg-preserved
loop-seg-preserved c =
    mixed_more seg_numbers c.args.segs.now c.loop-seg.seg-index c.seg-item.result c.seg-item.result c.args.sum.now c.loop-seg.sum c.add_segment.new.sum (omega arith) c.seg-item.is c.loop-seg.invariant
    c.add_segment.ensures

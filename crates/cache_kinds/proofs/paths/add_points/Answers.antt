use Rattle.std.proofs.Common.{refl, arith}
use Rattle.mask_keys.specs.Numbers.{point_numbers}
use Rattle.cache_kinds.proofs.MixedLemmas.{mixed_more}
use Rattle.cache_kinds.proofs.paths.add_points.Goals as goal

pub loop-point-preserved : goal.loop-point-preserved
loop-point-preserved c =
    mixed_more point_numbers c.args.points.now c.loop-point.point-index _ _ c.args.sum.now c.loop-point.sum c.add_point.new.sum (omega arith) refl c.loop-point.invariant
    c.add_point.ensures

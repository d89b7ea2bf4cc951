use Rattle.std.proofs.Common.{◌<◌, length, arith}
use Rattle.std.proofs.lemmas.Grind.{common_steps}
use Rattle.outline_points.proofs.Walks.{extent_whole}
use Rattle.outline_points.proofs.drawings.drawing_extent.Goals as goal

pub returns-clause-value : goal.returns-clause-value
returns-clause-value c =
    let some : 0 < length c.as_slice-segs.result.now = grind (arith, common_steps) in
    rw (extent_whole c.args.m.now c.args.path.now.segs c.as_slice-segs.result.now c.index-segs-0.result c.end_point-vertex.result c.scaled_point.result c.as_slice-segs.ensures some c.index-segs-0.is c.requires.path.begins c.end_point-vertex.ensures.value c.scaled_point.ensures.value) at c.extent_from.ensures.value

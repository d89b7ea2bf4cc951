use Rattle.std.proofs.Common.{◌++◌, ◌∙◌, sym, ap, subst}
use Rattle.ass_num.specs.Paths.{IsSegment}
use Rattle.outline_points.specs.Drawings.{segment_points}
use Rattle.std.proofs.lemmas.List.Elements.{All-nil}
use Rattle.ass_num.specs.Limits.{IsPointWithin}
use Rattle.outline_points.specs.Limits.{max_length}
use Rattle.outline_points.proofs.Walks.{extent_more}
use Rattle.outline_points.proofs.drawings.extent_from.Goals as goal

pub loop-seg-preserved : goal.loop-seg-preserved
loop-seg-preserved c = (
  c.end_point-vertex.ensures.within c.loop-seg.invariant.0 (subst IsSegment (sym c.seg-item.is) (c.requires.segments c.loop-seg.seg-index c.seg-item.result c.loop-seg-test.true)),
  c.clear.ensures.items,
  extent_more c.args.m.now c.loop-seg.vertex c.end_point-vertex.result c.loop-seg.largest c.largest_from-largest.result c.args.segs.now c.loop-seg.seg-index c.seg-item.result
      c.as_slice.result.now c.loop-seg-test.true c.seg-item.is c.end_point-vertex.ensures.value
      (c.as_slice.ensures.value ∙ c.in_ok-points.ensures.added ∙ ap (λ ps. ps ++ segment_points c.args.m.now c.loop-seg.vertex c.seg-item.result) c.loop-seg.invariant.1)
      c.largest_from-largest.ensures.value ∙ c.loop-seg.invariant.2,
  c.largest_from-largest.ensures.within c.loop-seg.invariant.3 (rw c.as_slice.ensures.value (c.in_ok-points.ensures.within (rw c.loop-seg.invariant.1 (All-nil (IsPointWithin max_length))))),
)

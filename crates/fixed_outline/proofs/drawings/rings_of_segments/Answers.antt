use Rattle.std.proofs.Common.{sym, subst, to_z-of_z, FitsSigned, rules, w64}
use Rattle.ass_num.specs.Limits.{IsPointWithin}
use Rattle.outline_points.specs.Limits.{max_length}
use Rattle.ass_num.specs.Paths.{IsSegment}
use Rattle.fixed_outline.proofs.FigureLemmas.{walked_more, walked_all, open_within}
use Rattle.fixed_outline.proofs.drawings.rings_of_segments.Goals as goal

pub loop-seg-preserved : goal.loop-seg-preserved
loop-seg-preserved c =
    let was = rw (to_z-of_z c.ranges.shift) at c.loop-seg.invariant in
    let ft : FitsSigned w64 c.args.m.now.turn = search rules in
    let added = rw (c.new-turn.ensures, to_z-of_z ft, to_z-of_z c.ranges.shift) at c.in_ok-begin_segment.ensures.added in
    rw (to_z-of_z c.ranges.shift)
    (walked_more c.args.m.now c.args.shift c.args.segs.now c.loop-seg.rings c.begin_segment.new.rings c.loop-seg.ring.items c.begin_segment.new.ring.items c.in_ok-ring.ring.items
    c.loop-seg.vertex c.end_point-vertex.result c.loop-seg.seg-index c.seg-item.result c.loop-seg-test.true c.seg-item.is was added c.in_ok-begin_segment.ensures.ring c.in_ok-ring.ensures.added c.end_point-vertex.ensures.value
    (c.in_ok-ring.ensures.within (open_within (IsPointWithin max_length) c.seg-item.result c.loop-seg.ring.items c.begin_segment.new.ring.items c.in_ok-begin_segment.ensures.ring was.points))
    (c.end_point-vertex.ensures.within was.vertex (subst IsSegment (sym c.seg-item.is) (c.requires.path.held c.loop-seg.seg-index c.seg-item.result c.loop-seg-test.true)))
    (c.in_ok-begin_segment.ensures.within was.within))

pub returns-clause-value : goal.returns-clause-value
returns-clause-value c =
    let was = rw (to_z-of_z c.ranges.shift) at c.loop-seg.invariant in
    let ft : FitsSigned w64 c.args.m.now.turn = search rules in
    let added = rw (c.new-turn.ensures, to_z-of_z ft, to_z-of_z c.ranges.shift) at c.in_ok-finish.ensures.added in
    walked_all c.args.m.now c.args.shift c.args.segs.now c.loop-seg.rings c.finish.new.rings c.loop-seg.ring.items c.loop-seg.vertex c.loop-seg.seg-index c.loop-seg-test.false was added

pub returns-clause-within : goal.returns-clause-within
returns-clause-within c = c.in_ok-finish.ensures.within c.loop-seg.invariant.within

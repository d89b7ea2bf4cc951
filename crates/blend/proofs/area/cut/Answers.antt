use Rattle.std.proofs.Common.{w64}
use Rattle.std.proofs.lemmas.Int.{to_z-of_z}
use Rattle.blend.proofs.AreaLemmas.{between-held, cut-both}
use Rattle.blend.proofs.area.cut.Goals as goal

pub returns-clause-both : goal.returns-clause-both
returns-clause-both c = λ i j.
    cut-both c.args.area _ c.args.x1 c.args.y1 c.args.x2 c.args.y2 i j
    (between-held c.args.area.left c.args.area.right c.held-left.result c.held.result i c.args.x1 c.args.x2 _ _
    (to_z-of_z w64 c.args.x1 c.ranges.x1) (to_z-of_z w64 c.args.x2 c.ranges.x2)
    c.held-left.ensures.low c.held.ensures.low c.held.ensures.high c.held-left.ensures.same c.held.ensures.same)
    (between-held c.args.area.top c.args.area.bottom c.held-top.result c.held-2.result j c.args.y1 c.args.y2 _ _
    (to_z-of_z w64 c.args.y1 c.ranges.y1) (to_z-of_z w64 c.args.y2 c.ranges.y2)
    c.held-top.ensures.low c.held-2.ensures.low c.held-2.ensures.high c.held-top.ensures.same c.held-2.ensures.same)

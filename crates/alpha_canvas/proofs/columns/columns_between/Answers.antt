use Rattle.std.proofs.Common.{w64}
use Rattle.std.proofs.lemmas.Int.{to_z-of_z}
use Rattle.blend.proofs.AreaLemmas.{between-held}
use Rattle.alpha_canvas.proofs.columns.columns_between.Goals as goal

pub returns-clause-both : goal.returns-clause-both
returns-clause-both c = λ i.
    between-held c.args.left c.args.right c.column_near-low.result c.column_near.result i c.args.from c.args.to _ _
    (to_z-of_z w64 c.args.from c.ranges.from) (to_z-of_z w64 c.args.to c.ranges.to)
    c.column_near-low.ensures.low c.column_near.ensures.low c.column_near.ensures.high c.column_near-low.ensures.same c.column_near.ensures.same

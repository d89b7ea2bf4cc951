use Rattle.std.proofs.Common.{sym, ◌∙◌, arith, pos, false}
use Rattle.outline_points.specs.declared.glyph_point.GlyphPoint.{GlyphPoint}
use Rattle.sfnt_glyphs.proofs.Placed.{placed-next, placed-far, placed-all}
use Rattle.sfnt_glyphs.proofs.points.placed_points.Goals as goal

abbrev none : GlyphPoint
none = record { x = pos 0; y = pos 0; is_on = false }

pub loop-point-preserved : goal.loop-point-preserved
loop-point-preserved c =
    rw c.in_ok-push-in-Some.ensures.ok
    (placed-next c.args.placing.now c.args.points.now c.loop-point.placed c.loop-point.point-index none c.in-Some.next c.loop-point-test.true c.in-Some.ensures ∙ c.loop-point.invariant)

pub returns-in-None : goal.returns-in-None
returns-in-None c =
    sym (placed-far c.args.placing.now c.args.points.now c.loop-point.placed c.loop-point.point-index none c.loop-point-test.true c.in-None.ensures) ∙ c.loop-point.invariant

pub returns : goal.returns
returns c = sym (placed-all c.args.placing.now c.args.points.now c.loop-point.placed c.loop-point.point-index (omega arith)) ∙ c.loop-point.invariant

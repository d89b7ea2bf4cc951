use Rattle.std.proofs.Common.{sym, ◌∙◌, arith, rules}
use Rattle.sfnt_glyphs.proofs.Placed.{cut-next, cut-all}
use Rattle.sfnt_glyphs.proofs.drawing.cut_contours.Goals as goal

pub loop-size-preserved : goal.loop-size-preserved
loop-size-preserved c =
    rw (c.in_ok-push.ensures.ok, c.split_at.ensures.front, c.split_at.ensures.back)
    (cut-next c.args.sizes.now c.loop-size.contours c.loop-size.rest.now c.loop-size.size-index c.min.result c.loop-size-test.true (search rules) ∙ c.loop-size.invariant)

pub returns : goal.returns
returns c = sym (cut-all c.args.sizes.now c.loop-size.contours c.loop-size.rest.now c.loop-size.size-index (omega arith)) ∙ c.loop-size.invariant

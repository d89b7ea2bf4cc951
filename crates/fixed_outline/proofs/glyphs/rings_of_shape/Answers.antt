use Rattle.std.proofs.Common.{◌∙◌, Some, None}
use Rattle.std.proofs.lemmas.Result.{IfOk-weaker}
use Rattle.fixed_outline.proofs.ShapeLemmas.{bitmap_at, pixels_is, shape_contours, shape_pixels}
use Rattle.fixed_outline.proofs.glyphs.rings_of_shape.Goals as goal

pub quads-requires : goal.quads-requires
quads-requires c = bitmap_at c.args.font.now.glyphs c.args.glyph c.in-Some.pixels.now c.requires.font.glyphs c.requires.glyph (rw c.in-Some.is at c.pixels_at.ensures)

pub returns-in-Some-clause-value : goal.returns-in-Some-clause-value
returns-in-Some-clause-value c =
    IfOk-weaker c.quads.result _ _
    (λ rings value g is.
    value ∙ shape_pixels c.args.style.now.matrix c.args.style.now.bold c.args.font.now.bold_step g.shape c.in-Some.pixels.now
    (pixels_is c.args.font.now.glyphs c.args.glyph g (Some c.in-Some.pixels.now) is (rw c.in-Some.is at c.pixels_at.ensures)))
    c.quads.ensures.value

pub returns-in-None-clause-value : goal.returns-in-None-clause-value
returns-in-None-clause-value c =
    IfOk-weaker c.contours_drawn.result _ _
    (λ rings value g is.
    value g is ∙ shape_contours c.args.style.now.matrix c.args.style.now.bold c.args.font.now.bold_step g.shape
    (pixels_is c.args.font.now.glyphs c.args.glyph g None is (rw c.in-None.is at c.pixels_at.ensures)))
    c.contours_drawn.ensures.value

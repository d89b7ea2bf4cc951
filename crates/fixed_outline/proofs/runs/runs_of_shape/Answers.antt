use Rattle.std.proofs.Common.{◌∙◌, Some, None, ap}
use Rattle.std.proofs.lemmas.Result.{IfOk-weaker}
use Rattle.ass_num.specs.Winding.{winding}
use Rattle.fixed_outline.proofs.ShapeLemmas.{bitmap_at, pixels_is, shape_contours, shape_pixels}
use Rattle.fixed_outline.proofs.runs.runs_of_shape.Goals as goal

pub runs-requires-clause-bitmap : goal.runs-requires-clause-bitmap
runs-requires-clause-bitmap c = bitmap_at c.args.font.now.glyphs c.args.glyph c.in-Some.pixels.now c.requires.font.glyphs c.requires.glyph (rw c.in-Some.is at c.pixels_at.ensures)

pub returns-in-Some-clause-winding : goal.returns-in-Some-clause-winding
returns-in-Some-clause-winding c =
    IfOk-weaker c.runs.result _ _
    (λ rings value g is i k.
    value i k ∙ ap (λ rs. winding rs i k) (shape_pixels c.args.style.now.matrix c.args.style.now.bold c.args.font.now.bold_step g.shape c.in-Some.pixels.now
    (pixels_is c.args.font.now.glyphs c.args.glyph g (Some c.in-Some.pixels.now) is (rw c.in-Some.is at c.pixels_at.ensures))))
    c.runs.ensures.winding

pub returns-in-None-clause-winding : goal.returns-in-None-clause-winding
returns-in-None-clause-winding c =
    IfOk-weaker c.contours_drawn.result _ _
    (λ rings value g is i k.
    ap (λ rs. winding rs i k) (value g is ∙ shape_contours c.args.style.now.matrix c.args.style.now.bold c.args.font.now.bold_step g.shape
    (pixels_is c.args.font.now.glyphs c.args.glyph g None is (rw c.in-None.is at c.pixels_at.ensures))))
    c.contours_drawn.ensures.value

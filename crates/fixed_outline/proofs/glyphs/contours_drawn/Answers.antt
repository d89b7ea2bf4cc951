use Rattle.std.proofs.Common.{◌≡◌, ◌++◌, ◌∙◌, ap, FitsSigned, to_z-of_z, rules, w64}
use Rattle.std.specs.List.{All}
use Rattle.std.proofs.lemmas.List.Elements.{All-same, All-nil}
use Rattle.ass_num.specs.Limits.{IsOutlinePoint}
use Rattle.bdf_font.specs.Pixels.{contours_in, strokes_in}
use Rattle.outline_points.specs.CubicContours.{stroke_rings}
use Rattle.fixed_outline.proofs.ShapeLemmas.{contours_are, points_at, strokes_are, strokes_held}
use Rattle.fixed_outline.proofs.glyphs.contours_drawn.Goals as goal

pub add_contours-requires-clause-contours : goal.add_contours-requires-clause-contours
add_contours-requires-clause-contours c = points_at c.args.font.now.glyphs c.args.glyph c.in_ok-contours.contours c.requires.font.glyphs c.requires.glyph c.in_ok-contours.ensures

pub add_stroke_rings-requires-clause-contours : goal.add_stroke_rings-requires-clause-contours
add_stroke_rings-requires-clause-contours c = strokes_held c.args.font.now.glyphs c.args.glyph c.in_ok-strokes.strokes c.requires.font.glyphs c.requires.glyph c.in_ok-strokes.ensures

pub returns-clause-value : goal.returns-clause-value
returns-clause-value c g is =
    let m = c.args.style.now.matrix in
    let bold = c.args.style.now.bold in
    let font = c.args.font.now in
    let fs : FitsSigned w64 c.from-step.result = search rules in
    let step : c.from-step.result ≡ font.bold_step = search rules in
    let contours : c.in_ok-contours.contours ≡ contours_in g.shape = contours_are font.glyphs c.args.glyph g c.in_ok-contours.contours is c.in_ok-contours.ensures in
    let strokes : c.in_ok-strokes.strokes ≡ strokes_in g.shape = strokes_are font.glyphs c.args.glyph g c.in_ok-strokes.strokes is c.in_ok-strokes.ensures in
    let first = rw (to_z-of_z fs, c.new-rings.ensures, step, contours) at c.in_ok-add_contours.ensures.added in
    let second = rw (to_z-of_z fs, step, strokes) at c.in_ok-add_stroke_rings.ensures.added in
    second ∙ ap (λ rings. rings ++ stroke_rings m bold font.bold_step (strokes_in g.shape)) first

pub returns-clause-within : goal.returns-clause-within
returns-clause-within c =
    c.in_ok-add_stroke_rings.ensures.within (c.in_ok-add_contours.ensures.within (All-same (All IsOutlinePoint) c.new-rings.result _ c.new-rings.ensures (All-nil (All IsOutlinePoint))))

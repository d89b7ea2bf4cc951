use Rattle.std.proofs.Common.{◌≤◌, ◌∙◌, length, sym, to_z-of_z, rules}
use Rattle.std.proofs.lemmas.List.Elements.{All-get_or}
use Rattle.outline_points.specs.CubicContours.{IsGlyphStroke}
use Rattle.fixed_outline.proofs.StrokeRings.{strokes-next, strokes-all}
use Rattle.fixed_outline.proofs.strokes.add_strokes.Goals as goal

pub loop-stroke-preserved : goal.loop-stroke-preserved
loop-stroke-preserved c =
    let m = c.args.style.now.matrix in
    let contour = c.args.contour.now in
    let k = c.loop-stroke.stroke-index in
    let added = rw (to_z-of_z c.ranges.shift) at c.in_ok-add_stroke.ensures.added in
    let was = rw (to_z-of_z c.ranges.shift) at c.loop-stroke.invariant.0 in (
      rw (to_z-of_z c.ranges.shift) (strokes-next m c.args.shift contour k _ c.loop-stroke.from c.stroke_end-from.result c.loop-stroke.ring.items c.add_stroke.new.ring.items c.loop-stroke-test.true
          c.stroke_end-from.ensures.value added ∙ was),
      λ near. c.in_ok-add_stroke.ensures.within (c.loop-stroke.invariant.1 near),
      c.stroke_end-from.ensures.within (All-get_or IsGlyphStroke contour k _ c.loop-stroke-test.true c.requires.contour),
    )

pub returns-clause-added : goal.returns-clause-added
returns-clause-added c =
    let was = rw (to_z-of_z c.ranges.shift) at c.loop-stroke.invariant.0 in
    let whole : length c.args.contour.now ≤ c.loop-stroke.stroke-index = search rules in
    sym (strokes-all c.args.style.now.matrix c.args.shift c.args.contour.now c.loop-stroke.stroke-index c.loop-stroke.from c.loop-stroke.ring.items whole) ∙ was

use Rattle.std.proofs.Common.{◌++◌, ◌∷◌, [], ◌∙◌, map, ap, subst, sym, to_z-of_z}
use Rattle.std.proofs.lemmas.List.Elements.{All-push}
use Rattle.ass_num.specs.Limits.{IsOutlinePoint}
use Rattle.outline_points.specs.CubicContours.{IsGlyphStroke, stroke_points}
use Rattle.outline_points.specs.Placing.{outline_point}
use Rattle.outline_points.specs.declared.stroke.Stroke.{Stroke}
use Rattle.ass_num.specs.declared.geometry.Point.{Point}
use Rattle.fixed_outline.proofs.strokes.add_stroke.Goals as goal

pub stroke_point-requires-in-Curve-2-clause-point : goal.stroke_point-requires-in-Curve-2-clause-point
stroke_point-requires-in-Curve-2-clause-point c = (subst IsGlyphStroke c.in-Curve.is c.requires.stroke).0

pub stroke_point-requires-in-Curve-3-clause-point : goal.stroke_point-requires-in-Curve-3-clause-point
stroke_point-requires-in-Curve-3-clause-point c = (subst IsGlyphStroke c.in-Curve.is c.requires.stroke).1

pub stroke_point-requires-in-Curve-4-clause-point : goal.stroke_point-requires-in-Curve-4-clause-point
stroke_point-requires-in-Curve-4-clause-point c = (subst IsGlyphStroke c.in-Curve.is c.requires.stroke).2

pub returns-in_ok-push-in-Line-clause-added : goal.returns-in_ok-push-in-Line-clause-added
returns-in_ok-push-in-Line-clause-added c =
    let m = c.args.style.now.matrix in
    let place : Point → Point = outline_point c.args.style.now.turn.angle in
    let at = rw (to_z-of_z c.ranges.shift) at c.stroke_point.ensures.value in
    rw c.args.style.now.same_turn at (c.in_ok-push-in-Line.ensures.items ∙ ap (λ p. c.args.ring.now.items ++ p ∷ []) (c.outline_point.ensures.value ∙ ap place at)
    ∙ ap (λ (s : Stroke). c.args.ring.now.items ++ map place (stroke_points m c.args.shift c.args.from s)) (sym c.in-Line.is))

pub returns-in_ok-push-in-Line-clause-within : goal.returns-in_ok-push-in-Line-clause-within
returns-in_ok-push-in-Line-clause-within c near =
    rw c.in_ok-push-in-Line.ensures.items (All-push IsOutlinePoint c.args.ring.now.items c.outline_point.result near c.outline_point.ensures.within)

pub returns-in-Curve-clause-added : goal.returns-in-Curve-clause-added
returns-in-Curve-clause-added c =
    let first = rw (to_z-of_z c.ranges.shift) at c.stroke_point-in-Curve.ensures.value in
    let second = rw (to_z-of_z c.ranges.shift) at c.stroke_point-in-Curve-2.ensures.value in
    let third = rw (to_z-of_z c.ranges.shift) at c.stroke_point-in-Curve-3.ensures.value in
    let fourth = rw (to_z-of_z c.ranges.shift) at c.stroke_point-in-Curve-4.ensures.value in
    rw c.in-Curve.is (rw (first, second, third, fourth, c.args.style.now.same_turn) at c.add_cubic_curve.ensures.added)

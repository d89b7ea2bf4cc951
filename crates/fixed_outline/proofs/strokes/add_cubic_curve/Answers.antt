use Rattle.std.proofs.Common.{◌≡◌, ℕ, ◌-◌, ◌++◌, ◌∷◌, [], ◌∙◌, map, ap, sym, arith}
use Rattle.std.specs.List.{range_with_len}
use Rattle.std.proofs.lemmas.List.Elements.{All-push}
use Rattle.std.proofs.lemmas.Simd.{map-map}
use Rattle.ass_num.specs.Limits.{IsOutlinePoint}
use Rattle.ass_num.specs.declared.geometry.Point.{Point}
use Rattle.outline_points.proofs.Walks.{curve_more}
use Rattle.outline_points.specs.CubicContours.{point_of_cubic}
use Rattle.outline_points.specs.Placing.{outline_point}
use Rattle.fixed_outline.proofs.strokes.add_cubic_curve.Goals as goal

pub loop-u-preserved : goal.loop-u-preserved
loop-u-preserved c =
    let place : Point → Point = outline_point c.args.turn.now.angle in
    let at : ℕ → Point = point_of_cubic c.args.a c.args.b c.args.c c.args.d c.cubic_steps-n.result in (
      curve_more (λ u. place (at u)) c.args.ring.now.items c.loop-u.ring.items c.push.new.self.items 1 c.loop-u.u (omega arith) c.loop-u.invariant.0
          (c.in_ok-push.ensures.items ∙ ap (λ p. c.loop-u.ring.items ++ p ∷ []) (c.outline_point.ensures.value ∙ ap place c.point_of_cubic.ensures.value)),
      λ near. rw c.in_ok-push.ensures.items (All-push IsOutlinePoint c.loop-u.ring.items c.outline_point.result (c.loop-u.invariant.1 near) c.outline_point.ensures.within),
    )

pub returns-clause-added : goal.returns-clause-added
returns-clause-added c =
    let place : Point → Point = outline_point c.args.turn.now.angle in
    let n = c.cubic_steps-n.result in
    let at : ℕ → Point = point_of_cubic c.args.a c.args.b c.args.c c.args.d n in
    let e : c.loop-u.u - 1 ≡ n = omega arith in
    c.loop-u.invariant.0 ∙ ap (λ k. c.args.ring.now.items ++ map (λ (u : ℕ). place (at u)) (range_with_len 1 k)) e
    ∙ ap (λ ps. c.args.ring.now.items ++ ps) (sym (map-map place at (range_with_len 1 n)))
    ∙ ap (λ (k : ℕ). c.args.ring.now.items ++ map place (map (point_of_cubic c.args.a c.args.b c.args.c c.args.d k) (range_with_len 1 k))) c.cubic_steps-n.ensures.value

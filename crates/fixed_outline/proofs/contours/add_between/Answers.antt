use Rattle.std.proofs.Common.{◌++◌, ◌∷◌, [], ◌∙◌, map, ap, sym, to_z-of_z}
use Rattle.std.proofs.lemmas.List.Elements.{All-push}
use Rattle.ass_num.specs.Limits.{IsOutlinePoint}
use Rattle.outline_points.specs.Placing.{outline_point}
use Rattle.fixed_outline.proofs.ContourLemmas.{between_on, between_off}
use Rattle.fixed_outline.proofs.contours.add_between.Goals as goal

pub returns-then-here-clause-added : goal.returns-then-here-clause-added
returns-then-here-clause-added c =
    let m = c.args.style.now.matrix in
    let at = rw (to_z-of_z c.ranges.shift) at c.contour_point-b.ensures.value in
    rw c.args.style.now.same_turn at (c.in_ok-push.ensures.items ∙ ap (λ p. c.args.ring.now.items ++ p ∷ []) (c.outline_point.ensures.value ∙ ap (outline_point c.args.style.now.turn.angle) at)
    ∙ ap (λ ps. c.args.ring.now.items ++ map (outline_point c.args.style.now.turn.angle) ps) (sym (between_on m c.args.shift c.args.before c.args.here c.args.behind c.if-here.true)))

pub returns-clause-added : goal.returns-clause-added
returns-clause-added c =
    let m = c.args.style.now.matrix in
    let at = rw (to_z-of_z c.ranges.shift) at c.contour_point-b.ensures.value in
    let first = rw (to_z-of_z c.ranges.shift) at c.contour_point.ensures.value in
    let second = rw (to_z-of_z c.ranges.shift) at c.contour_point-2.ensures.value in
    let curve = between_off m c.args.shift c.args.before c.args.here c.args.behind c.curve_end-a.result c.contour_point-b.result c.curve_end-c.result c.contour_point.result c.contour_point-2.result
    c.if-here.false at first second c.curve_end-a.ensures.value c.curve_end-c.ensures.value in
    rw c.args.style.now.same_turn at (c.in_ok-add_curve.ensures.added ∙ ap (λ ps. c.args.ring.now.items ++ map (outline_point c.args.style.now.turn.angle) ps) curve)

pub returns-then-here-clause-within : goal.returns-then-here-clause-within
returns-then-here-clause-within c near = rw c.in_ok-push.ensures.items (All-push IsOutlinePoint c.args.ring.now.items c.outline_point.result near c.outline_point.ensures.within)

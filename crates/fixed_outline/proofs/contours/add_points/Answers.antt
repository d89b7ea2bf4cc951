use Rattle.std.proofs.Common.{◌≡◌, ℕ, ◌++◌, ◌∙◌, length, map, flat_map, ap, sym, to_z-of_z, rules}
use Rattle.std.specs.List.{range_with_len}
use Rattle.ass_num.proofs.ListLemmas.{flat_more}
use Rattle.ass_num.specs.declared.geometry.Point.{Point}
use Rattle.outline_points.specs.Contours.{point_at, points_at}
use Rattle.outline_points.specs.Placing.{outline_point}
use Rattle.fixed_outline.proofs.ContourLemmas.{between_at, map-flat_map}
use Rattle.fixed_outline.proofs.contours.add_points.Goals as goal

pub loop-i-preserved : goal.loop-i-preserved
loop-i-preserved c =
    let m = c.args.style.now.matrix in
    let shift = c.args.shift in
    let contour = c.args.contour.now in
    let place : Point → Point = outline_point m.turn in
    let added = rw (to_z-of_z c.ranges.shift) at c.in_ok-add_between.ensures.added in
    let was = rw (to_z-of_z c.ranges.shift) at c.loop-i.invariant.0 in
    let same = between_at m shift contour c.loop-i.i c.point_at-before.result c.point_at-here.result c.point_at-behind.result
    (c.point_at-before.ensures ∙ ap (point_at contour) c.place_before.ensures.value) c.point_at-here.ensures (c.point_at-behind.ensures ∙ ap (point_at contour) c.place_behind.ensures.value) in (
      rw (to_z-of_z c.ranges.shift) (flat_more (λ i. map place (points_at m shift contour i)) c.args.ring.now.items c.loop-i.ring.items c.add_between.new.ring.items c.loop-i.i was
          (added ∙ ap (λ ps. c.loop-i.ring.items ++ map place ps) same)),
      λ near. c.in_ok-add_between.ensures.within (c.loop-i.invariant.1 near),
    )

pub returns-clause-added : goal.returns-clause-added
returns-clause-added c =
    let m = c.args.style.now.matrix in
    let shift = c.args.shift in
    let contour = c.args.contour.now in
    let place : Point → Point = outline_point m.turn in
    let was = rw (to_z-of_z c.ranges.shift) at c.loop-i.invariant.0 in
    let e : c.loop-i.i ≡ length contour = search rules in
    was ∙ ap (λ n. c.args.ring.now.items ++ flat_map (λ (i : ℕ). map place (points_at m shift contour i)) (range_with_len 0 n)) e
    ∙ ap (λ ps. c.args.ring.now.items ++ ps) (sym (map-flat_map place (points_at m shift contour) (range_with_len 0 (length contour))))

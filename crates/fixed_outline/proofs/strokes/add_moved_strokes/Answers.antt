use Rattle.std.proofs.Common.{◌≤◌, ◌++◌, ◌∷◌, [], ◌∙◌, length, take, ap, sym, append_assoc, subst, to_z-of_z, rules}
use Rattle.std.specs.List.{All}
use Rattle.std.proofs.lemmas.List.{map_more, take_all}
use Rattle.std.proofs.lemmas.List.Elements.{All-get_or}
use Rattle.outline_points.specs.CubicContours.{IsGlyphStroke, stroke_ring, moved_stroke_rings}
use Rattle.fixed_outline.proofs.strokes.add_moved_strokes.Goals as goal

pub loop-k-preserved : goal.loop-k-preserved
loop-k-preserved c =
    let m = c.args.style.now.matrix in
    let shift = c.args.shift in
    let contours = c.args.contours.now in
    let added = rw (to_z-of_z c.ranges.shift) at c.in_ok-add_stroke_ring.ensures.added in
    let was = rw (to_z-of_z c.ranges.shift) at c.loop-k.invariant.0 in
    let here = stroke_ring m shift c.get.result.now in (
      rw (to_z-of_z c.ranges.shift) (added ∙ ap (λ rs. rs ++ here ∷ []) was
          ∙ append_assoc c.args.rings.now (moved_stroke_rings m shift (take c.loop-k.k contours)) (here ∷ [])
          ∙ ap (λ ring. c.args.rings.now ++ (moved_stroke_rings m shift (take c.loop-k.k contours) ++ stroke_ring m shift ring ∷ [])) c.get.ensures
          ∙ ap (λ rs. c.args.rings.now ++ rs) (sym (map_more (stroke_ring m shift) contours c.loop-k.k [] (search rules)))),
      λ outline. c.in_ok-add_stroke_ring.ensures.within (c.loop-k.invariant.1 outline),
    )

pub add_stroke_ring-requires-clause-contour : goal.add_stroke_ring-requires-clause-contour
add_stroke_ring-requires-clause-contour c =
    subst (All IsGlyphStroke) (sym c.get.ensures) (All-get_or (All IsGlyphStroke) c.args.contours.now c.loop-k.k [] (search rules) c.requires.contours)

pub returns-clause-added : goal.returns-clause-added
returns-clause-added c =
    let was = rw (to_z-of_z c.ranges.shift) at c.loop-k.invariant.0 in
    let past : length c.args.contours.now ≤ c.loop-k.k = search rules in
    was ∙ ap (λ cs. c.args.rings.now ++ moved_stroke_rings c.args.style.now.matrix c.args.shift cs) (take_all c.loop-k.k c.args.contours.now past)

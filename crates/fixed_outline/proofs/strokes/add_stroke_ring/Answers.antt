use Rattle.std.proofs.Common.{◌++◌, ◌∷◌, [], ◌∙◌, ap, to_z-of_z}
use Rattle.std.specs.List.{All}
use Rattle.std.proofs.lemmas.List.Elements.{All-push, All-same, All-nil}
use Rattle.ass_num.specs.Limits.{IsOutlinePoint}
use Rattle.fixed_outline.proofs.StrokeRings.{ring_added}
use Rattle.fixed_outline.proofs.strokes.add_stroke_ring.Goals as goal

pub returns-clause-added : goal.returns-clause-added
returns-clause-added c =
    ring_added c.args.style.now.matrix c.args.shift c.args.contour.now c.clear.new.self.items c.add_strokes.new.ring.items c.args.rings.now c.push.new.self c.clear.ensures.items
    (rw (to_z-of_z c.ranges.shift) at c.in_ok-add_strokes.ensures.added) (c.in_ok-push.ensures.ok ∙ ap (λ r. c.args.rings.now ++ r ∷ []) c.as_slice.ensures.value)

pub returns-clause-within : goal.returns-clause-within
returns-clause-within c outline =
    rw c.in_ok-push.ensures.ok (All-push (All IsOutlinePoint) c.args.rings.now c.as_slice.result.now outline
    (All-same IsOutlinePoint c.as_slice.result.now c.add_strokes.new.ring.items c.as_slice.ensures.value
    (c.in_ok-add_strokes.ensures.within (All-same IsOutlinePoint c.clear.new.self.items [] c.clear.ensures.items (All-nil IsOutlinePoint)))))

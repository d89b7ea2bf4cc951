use Rattle.std.proofs.Common.{to_z-of_z, ◌++◌, ◌∷◌, [], ◌∙◌, ap}
use Rattle.std.specs.List.{All}
use Rattle.std.proofs.lemmas.List.Elements.{All-push}
use Rattle.ass_num.specs.Limits.{IsOutlinePoint}
use Rattle.fixed_outline.proofs.style.add_quad.Goals as goal

pub returns-clause-added : goal.returns-clause-added
returns-clause-added c =
    c.in_ok-push.ensures.ok
    ∙ ap (λ r. c.args.rings.now ++ r ∷ []) (rw (to_z-of_z c.ranges.left, to_z-of_z c.ranges.top, to_z-of_z c.ranges.right, to_z-of_z c.ranges.bottom) at c.quad.ensures.value)

pub returns-clause-within : goal.returns-clause-within
returns-clause-within c outline = rw c.in_ok-push.ensures.ok (All-push (All IsOutlinePoint) c.args.rings.now c.quad.result outline c.quad.ensures.within)

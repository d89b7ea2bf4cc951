use Rattle.std.proofs.Common.{to_z-of_z, ◌++◌, ◌∷◌, [], ◌∙◌, ap, arith}
use Rattle.std.proofs.lemmas.Int.{ints}
use Rattle.fixed_outline.proofs.QuadLemmas.{box_same}
use Rattle.fixed_outline.proofs.boxes.box_outline.Goals as goal

pub returns-clause-value : goal.returns-clause-value
returns-clause-value c =
    c.in_ok-push.ensures.ok
    ∙ ap (λ rs. rs ++ (c.outline_point.result ∷ c.outline_point-2.result ∷ c.outline_point-3.result ∷ c.outline_point-4.result ∷ []) ∷ []) c.new-rings.ensures
    ∙ ap (λ r. r ∷ []) (box_same c.args.w c.args.h c.args.turn c.new-turn.result.angle _ _ _ _ (omega (arith, ints))
    c.outline_point.ensures.value (rw (to_z-of_z c.ranges.w) at c.outline_point-2.ensures.value)
    (rw (to_z-of_z c.ranges.w, to_z-of_z c.ranges.h) at c.outline_point-3.ensures.value) (rw (to_z-of_z c.ranges.h) at c.outline_point-4.ensures.value))

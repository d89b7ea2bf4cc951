use Rattle.std.proofs.Common.{◌≡◌, ◌++◌, ◌∷◌, [], ◌∙◌, ap, arith}
use Rattle.std.proofs.lemmas.List.Elements.{All-push}
use Rattle.ass_num.specs.Limits.{IsPointWithin}
use Rattle.outline_points.specs.Limits.{max_length}
use Rattle.outline_points.specs.Curves.{cubic_point}
use Rattle.outline_points.proofs.Walks.{curve_more}
use Rattle.outline_points.proofs.drawings.add_cubic.Goals as goal

pub loop-u-preserved : goal.loop-u-preserved
loop-u-preserved c = (
  curve_more (cubic_point c.args.a c.args.b c.args.c c.args.d) c.args.points.now.items c.loop-u.points.items c.push.new.self.items 1 c.loop-u.u (omega arith) c.loop-u.invariant.0
      (c.in_ok-push.ensures.items ∙ ap (λ p. c.loop-u.points.items ++ p ∷ []) c.cubic_point.ensures.value),
  λ near. rw c.in_ok-push.ensures.items (All-push (IsPointWithin max_length) c.loop-u.points.items c.cubic_point.result (c.loop-u.invariant.1 near) c.cubic_point.ensures.within),
)

pub returns-clause-added : goal.returns-clause-added
returns-clause-added c = let e : c.loop-u.u ≡ 17 = omega arith in rw e at c.loop-u.invariant.0

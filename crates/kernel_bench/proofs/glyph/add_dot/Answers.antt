use Rattle.std.proofs.Common.{All, [], ◌∷◌}
use Rattle.std.proofs.lemmas.List.Elements.{All-push, All-cons, All-nil}
use Rattle.ass_num.specs.Limits.{IsOutlinePoint}
use Rattle.ass_num.specs.declared.geometry.Point.{Point}
use Rattle.kernel_bench.proofs.glyph.add_dot.Goals as goal

four : (p q r s : Point) → IsOutlinePoint p → IsOutlinePoint q → IsOutlinePoint r → IsOutlinePoint s → All IsOutlinePoint (p ∷ q ∷ r ∷ s ∷ [])
four p q r s a b c d = All-cons IsOutlinePoint p (q ∷ r ∷ s ∷ []) a (All-cons IsOutlinePoint q (r ∷ s ∷ []) b (All-cons IsOutlinePoint r (s ∷ []) c (All-cons IsOutlinePoint s [] d (All-nil IsOutlinePoint))))

pub returns : goal.returns
returns c =
    rw c.in_ok-push.ensures.ok (All-push (All IsOutlinePoint) c.args.rings.now (c.point.result ∷ c.point-2.result ∷ c.point-3.result ∷ c.point-4.result ∷ []) c.requires (four c.point.result c.point-2.result c.point-3.result c.point-4.result c.point.ensures c.point-2.ensures c.point-3.ensures c.point-4.ensures))

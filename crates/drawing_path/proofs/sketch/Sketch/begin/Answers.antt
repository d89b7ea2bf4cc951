use Rattle.std.proofs.Common.{◌≡◌, ◌==◌, false, None, List, ◌++◌, length, map, sym, ap, ◌∙◌, subst}
use Rattle.std.proofs.Math.ListN.{drop_of_length-le}
use Rattle.std.proofs.lemmas.List.{append-nil}
use Rattle.ass_num.specs.declared.geometry.Seg.{Seg}
use Rattle.ass_num.specs.declared.geometry.Seg.TheVariants.{Move}
use Rattle.drawing_path.specs.Sketches.{IsSplinePlace}
use Rattle.drawing_path.proofs.SplineLemmas.{not_empty, no_spline}
use Rattle.drawing_path.proofs.sketch.Sketch.begin.Goals as goal

pub returns : goal.returns
returns c =
    let old = c.args.self.now.segs.items in
    let new = c.loop-point.self.segs.items in
    let points = c.args.points.now in
    let all : new ≡ old ++ map Move points = sym (ap (λ z. new ++ map Move z) (drop_of_length-le points c.loop-point-test.false) ∙ append-nil new) ∙ c.loop-point.invariant in
    let some : (length points == 0) ≡ false = sym c.is_empty.ensures ∙ c.if-is_empty.false in
    let P : List Seg → Type 0 = λ z. IsSplinePlace z None in
    record { path = all; place = subst P (sym all) (no_spline old points (not_empty points some)) }

use Rattle.std.proofs.Common.{◌≡◌, ℕ, ◌==◌, false, Option, List, ◌++◌, length, vec_len, sym, ap, ◌∙◌, subst, rules}
use Rattle.std.proofs.lemmas.List.{append-nil}
use Rattle.ass_num.specs.declared.geometry.Seg.{Seg}
use Rattle.drawing_path.specs.Paths.{cubics_of}
use Rattle.drawing_path.specs.Sketches.{IsSplinePlace}
use Rattle.drawing_path.proofs.SplineLemmas.{not_empty, continued_some, cubics_short, cubics_plain, place_kept}
use Rattle.drawing_path.proofs.sketch.Sketch.add_cubics.Goals as goal

pub returns : goal.returns
returns c =
    let old = c.args.self.now.segs.items in
    let new = c.loop-rest.self.segs.items in
    let points = c.args.points.now in
    let all : new ≡ old ++ cubics_of points = sym (ap (λ z. new ++ z) (cubics_short c.loop-rest.rest.now c.in_default.len_below) ∙ append-nil new) ∙ c.loop-rest.invariant.segs in
    let count : vec_len c.args.self.now.segs ≡ length old = search rules in
    let some : (length old == 0) ≡ false = ap (λ n. n == 0) (sym count) ∙ sym c.is_empty.ensures ∙ c.if-is_empty.false in
    let P : List Seg → Type 0 = λ z. IsSplinePlace z c.args.self.now.spline in
    let Q : Option ℕ → Type 0 = λ z. IsSplinePlace new z in
    record {
      path = all ∙ sym (continued_some old (cubics_of points) (not_empty old some));
      place = subst Q (sym c.loop-rest.invariant.spline) (subst P (sym all) (place_kept old (cubics_of points) c.args.self.now.spline (cubics_plain points) c.requires));
    }

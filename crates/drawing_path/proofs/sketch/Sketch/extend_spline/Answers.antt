use Rattle.std.proofs.Common.{ℕ, Option, ◌++◌, set, sym, ap, subst}
use Rattle.ass_num.specs.declared.geometry.Seg.TheVariants.{Spline}
use Rattle.drawing_path.specs.Sketches.{IsSplinePlace}
use Rattle.drawing_path.proofs.SplineLemmas.{spline_written}
use Rattle.drawing_path.proofs.sketch.Sketch.extend_spline.Goals as goal

pub returns-in_ok-extend : goal.returns-in_ok-extend
returns-in_ok-extend c =
    let path = c.args.self.now.segs.items in
    let P : Option ℕ → Type 0 = λ z. IsSplinePlace path z in
    let new = Spline c.extend.new.control c.in-Spline.field-1 in
    let Q : Option ℕ → Type 0 = λ z. IsSplinePlace (set path c.in-Some.place new) z in
    let both = spline_written path c.in-Some.place c.index_mut.result.now c.in-Spline.control c.in-Spline.field-1 (λ control closed. Spline (control ++ c.args.points.now) closed) c.extend.new.control c.in-Spline.field-1
    (subst P c.in-Some.is c.requires) c.index_mut.ensures.value c.in-Spline.is (ap (λ z. Spline z c.in-Spline.field-1) (sym c.in_ok-extend.ensures)) in
    record { path = both.0; place = subst Q (sym c.in-Some.is) both.1 }

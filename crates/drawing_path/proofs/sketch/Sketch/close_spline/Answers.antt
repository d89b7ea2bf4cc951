use Rattle.std.proofs.Common.{ℕ, true, Option, ◌++◌, take, set, sym, ap, subst}
use Rattle.ass_num.specs.declared.geometry.Seg.TheVariants.{Spline}
use Rattle.drawing_path.specs.Sketches.{IsSplinePlace}
use Rattle.drawing_path.proofs.SplineLemmas.{spline_written}
use Rattle.drawing_path.proofs.sketch.Sketch.close_spline.Goals as goal

pub returns-in_ok-close : goal.returns-in_ok-close
returns-in_ok-close c points =
    let path = c.args.self.now.segs.items in
    let P : Option ℕ → Type 0 = λ z. IsSplinePlace path z in
    let new = Spline c.close.new.control true in
    let Q : Option ℕ → Type 0 = λ z. IsSplinePlace (set path c.in-Some.place new) z in
    let both = spline_written path c.in-Some.place c.index_mut.result.now c.in-Spline.control c.in-Spline.closed (λ control _. Spline (control ++ take 3 control) true) c.close.new.control true
    (subst P c.in-Some.is c.requires) c.index_mut.ensures.value c.in-Spline.is (ap (λ z. Spline z true) (sym c.in_ok-close.ensures)) in
    record { path = both.0; place = subst Q (sym c.in-Some.is) both.1 }

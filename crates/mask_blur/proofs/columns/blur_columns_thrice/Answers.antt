use Rattle.std.proofs.Common.{◌≡◌, ◌+◌, ◌*◌, pos, ◌-ℤ◌, length, refl, arith}
use Rattle.std.proofs.lemmas.Int.{ints}
use Rattle.mask_blur.specs.Blur.{along_columns}
use Rattle.mask_blur.proofs.ShownLemmas.{shows_at}
use Rattle.mask_blur.proofs.columns.blur_columns_thrice.Goals as goal

pub returns : goal.returns
returns c = λ f x y shows.
    let r = c.args.means.now.radius in
    let w = length c.args.zeros.now in
    let h = c.args.h in
    let same : c.radius-r.result ≡ r = c.radius-r.ensures.value in
    let once = c.blur_columns.ensures f x y shows in
    let once_here = shows_at (along_columns r f) x (y -ℤ pos r) x (y -ℤ pos r) w (h + 2 * r) w (h + 2 * c.radius-r.result) c.blur_columns.new.to once refl refl refl (omega arith) in
    let twice = c.blur_columns-2.ensures (along_columns r f) x (y -ℤ pos r) once_here in
    let twice_here = shows_at (along_columns r (along_columns r f)) x ((y -ℤ pos r) -ℤ pos r) x ((y -ℤ pos r) -ℤ pos r) w (h + 2 * c.radius-r.result + 2 * r) w (h + 4 * c.radius-r.result) c.blur_columns-2.new.to twice refl refl refl (omega arith) in
    let thrice = c.blur_columns-3.ensures (along_columns r (along_columns r f)) x ((y -ℤ pos r) -ℤ pos r) twice_here in
    shows_at (along_columns r (along_columns r (along_columns r f))) x (((y -ℤ pos r) -ℤ pos r) -ℤ pos r) x (y -ℤ pos (3 * r)) w (h + 4 * c.radius-r.result + 2 * r) w (h + 6 * r) c.blur_columns-3.new.to thrice refl (omega (arith, ints)) refl (omega arith)

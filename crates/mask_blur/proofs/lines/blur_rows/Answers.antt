use Rattle.std.proofs.Common.{◌≡◌, ◌+◌, ◌*◌, pos, ◌-ℤ◌, length, refl, arith}
use Rattle.mask_blur.specs.Blur.{along_columns, along_rows}
use Rattle.mask_blur.proofs.ShownLemmas.{shows_at}
use Rattle.mask_blur.proofs.TileLemmas.{transposed_shows}
use Rattle.mask_blur.proofs.lines.blur_rows.Goals as goal

pub returns : goal.returns
returns c = λ f x y shows.
    let r = c.args.means.now.radius in
    let w = c.args.w in
    let h = length c.args.zeros.now in
    let once = transposed_shows f x y w h c.args.from.now c.transpose.new.to shows c.transpose.ensures in
    let blurred = c.blur_columns_thrice.ensures (λ u v. f v u) y x once in
    let width : w + 6 * c.radius.result ≡ w + 6 * r = omega (arith, c.radius.ensures.value) in
    let turned = shows_at _ y (x -ℤ pos (3 * r)) y (x -ℤ pos (3 * r)) h (w + 6 * r) h (w + 6 * c.radius.result) c.blur_columns_thrice.new.to blurred refl refl refl (omega arith) in
    let back = transposed_shows (along_columns r (along_columns r (along_columns r (λ u v. f v u)))) y (x -ℤ pos (3 * r)) h (w + 6 * c.radius.result) c.blur_columns_thrice.new.to c.transpose-2.new.to turned c.transpose-2.ensures in
    shows_at (along_rows r (along_rows r (along_rows r f))) (x -ℤ pos (3 * r)) y (x -ℤ pos (3 * r)) y (w + 6 * c.radius.result) h (w + 6 * r) h c.transpose-2.new.to back refl refl width refl

use Rattle.std.proofs.Common.{◌≡◌, ◌+◌, ◌*◌, pos, ◌-ℤ◌, length, take, drop, ◌∙◌, arith, rules}
use Rattle.std.proofs.lemmas.List.{take_at}
use Rattle.mask_blur.specs.Shown.{Shows}
use Rattle.mask_blur.specs.Blur.{along_rows, blurred}
use Rattle.mask_blur.proofs.blur.blurred_bytes.Goals as goal

pub returns-clause-blurred : goal.returns-clause-blurred
unfolding blurred
returns-clause-blurred c = λ f x y shows.
    let r = c.args.means.now.radius in
    let w = c.args.w in
    let h = c.args.h in
    let zeros = c.as_slice-zeros.result.now in
    let high : length (take h zeros) ≡ h = search rules in
    let n = c.radius-r.result in
    let width : w + 6 * n ≡ w + 6 * r = omega (arith, c.radius-r.ensures.value) in
    let long : length (take (w + 6 * n) zeros) ≡ w + 6 * n = search rules in
    let wide : length (take (w + 6 * n) zeros) ≡ w + 6 * r = long ∙ width in
    let start : Shows f x y w (length (take h zeros)) c.args.bytes.now = rw high shows in
    let rows = rw high at (c.blur_rows.ensures f x y start) in
    let here : Shows (along_rows r (along_rows r (along_rows r f))) (x -ℤ pos (3 * r)) y (length (take (w + 6 * n) zeros)) h c.blur_rows.new.spare = rw wide rows in
    let columns = rw wide at (c.blur_columns_thrice.ensures (along_rows r (along_rows r (along_rows r f))) (x -ℤ pos (3 * r)) y here) in
    let to = c.blur_columns_thrice.new.to in
    let count : length to ≡ c.in_ok-blurred.blurred.len = c.blur_columns_thrice.auto.to ∙ (c.blur_rows.auto.to ∙ c.as_mut_slice-to.ensures.len) in
    let whole = take_at to (drop (length to) c.in_ok-blurred.blurred.items) c.in_ok-blurred.blurred.len count in
    rw whole columns

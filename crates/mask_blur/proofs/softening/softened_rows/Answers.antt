use Rattle.std.proofs.Common.{◌≡◌, ◌+◌, ◌-◌, ◌*◌, pos, ◌-ℤ◌, length, take, drop, ◌∙◌, arith, rules}
use Rattle.std.proofs.lemmas.List.{length-take-le, take_at}
use Rattle.mask_blur.specs.Shown.{Shows}
use Rattle.mask_blur.specs.Softening.{softer}
use Rattle.mask_blur.proofs.SoftenedLemmas.{softened_rest}
use Rattle.mask_blur.proofs.softening.softened_rows.Goals as goal

pub returns-clause-softened : goal.returns-clause-softened
returns-clause-softened c = λ f x y shows.
    let w = c.args.w in
    let zeros : length c.as_slice-zeros.result.now ≡ w + 2 * c.args.n = search rules in
    let long : length (take w c.as_slice-zeros.result.now) ≡ w = length-take-le w c.as_slice-zeros.result.now (omega arith) in
    let from : Shows f x y (length (take w c.as_slice-zeros.result.now)) c.args.h c.args.bytes.now = rw long shows in
    let once = rw long at (c.soften_once.ensures.softer f x y from) in
    let to = c.soften_once.new.to in
    let count : length to ≡ c.in_ok-now.now.len = c.soften_once.auto.to ∙ c.as_mut_slice.ensures.len in
    let whole = take_at to (drop (length to) c.in_ok-now.now.items) c.in_ok-now.now.len count in
    softened_rest f x y w c.args.h (c.args.n - 1) c.args.n c.soften_on.new.now.items (omega arith) (c.soften_on.ensures.softened (softer f) (x -ℤ pos 1) (y -ℤ pos 1) (rw whole once))

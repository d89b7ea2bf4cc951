use Rattle.std.proofs.Common.{◌≡◌, ◌+◌, ◌*◌, pos, ◌-ℤ◌, length, drop, refl, ◌∙◌}
use Rattle.std.proofs.lemmas.List.{take_at}
use Rattle.mask_blur.specs.Softening.{softened}
use Rattle.mask_blur.proofs.FrameLemmas.{shows_cut}
use Rattle.mask_blur.proofs.strips.softened_strips.Goals as goal

pub returns-clause-softened : goal.returns-clause-softened
returns-clause-softened c = λ f x y shows.
    let n = c.args.n in
    let wide = c.args.w + 2 * n in
    let high = c.args.h + 2 * n in
    let to = c.frame.new.to in
    let count : length to ≡ c.in_ok-now.now.len = c.frame.auto.to ∙ c.as_mut_slice.ensures.len in
    let whole = take_at to (drop (length to) c.in_ok-now.now.items) c.in_ok-now.now.len count in
    let last = c.soften_framed.ensures.softened f (x -ℤ pos n) (y -ℤ pos n) (rw whole (c.frame.ensures.shown f x y shows)) in
    rw c.truncate.ensures.items (shows_cut (softened n f) (x -ℤ pos n) (y -ℤ pos n) wide high (high * wide) c.soften_framed.new.now.items refl last c.soften_framed.ensures.framed)

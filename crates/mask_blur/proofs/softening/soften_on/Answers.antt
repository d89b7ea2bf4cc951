use Rattle.std.proofs.Common.{◌≡◌, ◌+◌, ◌*◌, ◌≤◌, pos, ◌-ℤ◌, length, take, ap, ◌∙◌, arith}
use Rattle.std.proofs.lemmas.List.{length-take-le, with_items_is}
use Rattle.std.proofs.lemmas.Nat.{mul-le}
use Rattle.mask_blur.specs.Shown.{Shows}
use Rattle.mask_blur.specs.Softening.{softened}
use Rattle.mask_blur.proofs.SoftenedLemmas.{softened_none, softened_more}
use Rattle.mask_blur.proofs.softening.soften_on.Goals as goal

pub loop-k-init : goal.loop-k-init
loop-k-init c = (c.requires.now, c.requires.next, c.requires.before, λ j h. c.requires.behind j (omega arith), λ f x y shows. softened_none f x y c.args.w c.args.h c.args.now.now.items shows)

pub soften_once-requires-clause-rows : goal.soften_once-requires-clause-rows
soften_once-requires-clause-rows c =
    let k = c.loop-k.k in
    let n = c.args.n in
    let long : length (take (c.args.w + 2 * k) c.args.zeros.now) ≡ c.args.w + 2 * k = length-take-le (c.args.w + 2 * k) c.args.zeros.now (omega (arith, c.requires.count)) in
    let small : (c.args.h + 2 * k) * (c.args.w + 2 * k) ≤ (c.args.h + 2 * n) * (c.args.w + 2 * n) = mul-le (c.args.h + 2 * k) (c.args.w + 2 * k) (c.args.h + 2 * n) (c.args.w + 2 * n) (omega arith) (omega arith) in
    rw long (omega (arith, small, c.loop-k.invariant.0, ap length c.as_slice.ensures.value))

pub soften_once-requires-clause-room : goal.soften_once-requires-clause-room
soften_once-requires-clause-room c =
    let k = c.loop-k.k in
    let n = c.args.n in
    let long : length (take (c.args.w + 2 * k) c.args.zeros.now) ≡ c.args.w + 2 * k = length-take-le (c.args.w + 2 * k) c.args.zeros.now (omega (arith, c.requires.count)) in
    let small : (c.args.h + 2 * k + 2) * (c.args.w + 2 * k + 2) ≤ (c.args.h + 2 * n) * (c.args.w + 2 * n) = mul-le (c.args.h + 2 * k + 2) (c.args.w + 2 * k + 2) (c.args.h + 2 * n) (c.args.w + 2 * n) (omega arith) (omega arith) in
    rw long (omega (arith, small, c.loop-k.invariant.1 (omega arith), ap length c.as_mut_slice.ensures.value))

pub loop-k-preserved : goal.loop-k-preserved
loop-k-preserved c =
    let k = c.loop-k.k in
    let w = c.args.w + 2 * k in
    let h = c.args.h + 2 * k in
    let long : length (take w c.args.zeros.now) ≡ w = length-take-le w c.args.zeros.now (omega (arith, c.requires.count)) in
    let count : length c.soften_once.new.to ≡ c.loop-k.next.len = c.soften_once.auto.to ∙ c.as_mut_slice.ensures.len in
    let items : c.swap.new.x.items ≡ c.soften_once.new.to = rw c.swap.ensures.x_after (with_items_is c.loop-k.next c.soften_once.new.to count) in
    let now_count : length c.soften_once.new.to ≡ (c.args.w + 2 * c.args.n) * (c.args.h + 2 * c.args.n) = c.soften_once.auto.to ∙ ap length c.as_mut_slice.ensures.value ∙ c.loop-k.invariant.1 (omega arith) in (
      rw items now_count,
      λ some. rw c.swap.ensures.y_after c.loop-k.invariant.0,
      c.soften_once.ensures.before,
      λ j far. c.soften_once.ensures.behind j (omega (arith, long)),
      λ f x y shows.
          let was = c.loop-k.invariant.4 f x y shows in
          let from : Shows (softened k f) (x -ℤ pos k) (y -ℤ pos k) (length (take w c.args.zeros.now)) h c.as_slice.result.now = rw (long, c.as_slice.ensures.value) was in
          let is = rw long at (c.soften_once.ensures.softer (softened k f) (x -ℤ pos k) (y -ℤ pos k) from) in
          rw items (softened_more f x y c.args.w c.args.h k c.soften_once.new.to is),
    )

use Rattle.std.proofs.Common.{◌≡◌, ◌+◌, ◌-◌, ◌*◌, ◌≤◌, pos, ◌+ℤ◌, ◌-ℤ◌, length, ap, refl, ◌∙◌, arith}
use Rattle.std.proofs.lemmas.Int.{ints}
use Rattle.std.proofs.lemmas.Nat.{mul-le}
use Rattle.mask_blur.specs.Softening.{softer}
use Rattle.mask_blur.specs.Shown.{HasMaskRows}
use Rattle.mask_blur.proofs.PutLemmas.{length_part}
use Rattle.mask_blur.proofs.ShownLemmas.{rows_more, softer_boxed}
use Rattle.mask_blur.proofs.softening.soften_once.Goals as goal

pub loop-k-preserved : goal.loop-k-preserved
loop-k-preserved c = (
  c.soften_row.ensures.before,
  λ j h. c.soften_row.ensures.behind j (omega (arith, c.row_or_zeros-middle.ensures.count)),
  λ f x y shows.
      let w = length c.args.zeros.now in
      let k = c.loop-k.k in
      let v = (y -ℤ pos 1) +ℤ pos k in
      let above = c.row_or_zeros-above in
      let middle = c.row_or_zeros-middle in
      let below = c.row_or_zeros-below in
      let up : (y +ℤ pos k) -ℤ pos 2 ≡ v -ℤ pos 1 = omega (arith, ints) in
      let here : (y +ℤ pos k) -ℤ pos 1 ≡ v = omega (arith, ints) in
      let down : (y +ℤ pos k) -ℤ pos 0 ≡ v +ℤ pos 1 = omega (arith, ints) in
      let rows : (k + 1) * (w + 2) ≤ (c.args.h + 2) * (w + 2) = mul-le (k + 1) (w + 2) (c.args.h + 2) (w + 2) (omega arith) (omega arith) in
      let fits : k * (w + 2) + (w + 2) ≤ length c.loop-k.to = omega (arith, c.requires.room, rows) in
      let long : length c.soften_row.new.row ≡ k * (w + 2) + (w + 2) - k * (w + 2) = c.soften_row.auto.row ∙ length_part (k * (w + 2)) (k * (w + 2) + (w + 2)) c.loop-k.to fits in
      rows_more (softer f) (x -ℤ pos 1) (y -ℤ pos 1) v (w + 2) k (k * (w + 2)) _ c.loop-k.to c.soften_row.new.row (c.loop-k.invariant.2 f x y shows) (omega (arith, ints)) refl
      fits (omega (arith, long))
      (c.soften_row.ensures.softer f x v (λ t. rw middle.ensures.count (shows.outside.rows t))
      (λ i h. above.ensures.row f x y shows i (omega (arith, above.ensures.count)) ∙ ap (f (x +ℤ pos i)) up)
      (λ i h. middle.ensures.row f x y shows i (omega (arith, middle.ensures.count)) ∙ ap (f (x +ℤ pos i)) here)
      (λ i h. below.ensures.row f x y shows i (omega (arith, below.ensures.count)) ∙ ap (f (x +ℤ pos i)) down)),
)

pub returns-clause-softer : goal.returns-clause-softer
returns-clause-softer c = λ f x y shows.
    let rows : c.loop-k.k ≡ c.args.h + 2 = omega arith in
    let has : HasMaskRows (softer f) (x -ℤ pos 1) (y -ℤ pos 1) (length c.args.zeros.now + 2) (c.args.h + 2) c.loop-k.to = rw (← rows) (c.loop-k.invariant.2 f x y shows) in
    record { inside = has; outside = softer_boxed f x y (length c.args.zeros.now) c.args.h shows.outside }

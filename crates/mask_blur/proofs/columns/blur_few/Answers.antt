use Rattle.std.proofs.Common.{◌≡◌, ℕ, ◌+◌, ◌-◌, ◌*◌, ◌/◌, ◌<◌, ◌≤◌, pos, ◌+ℤ◌, ◌-ℤ◌, length, get_or, ap, refl, ◌∙◌, arith, rules}
use Rattle.std.proofs.lemmas.Nat.{mul-le}
use Rattle.ass_num.specs.Coverage.{sum_from}
use Rattle.ass_num.specs.Masks.{MaskValue, value_at}
use Rattle.mask_blur.specs.Blur.{along_columns}
use Rattle.mask_blur.specs.Shown.{Shows, HasMaskRows}
use Rattle.mask_blur.proofs.ColumnLemmas.{sums_none, column_step, column_bounds, column_mean}
use Rattle.mask_blur.proofs.MaskLemmas.{mask_shows}
use Rattle.mask_blur.proofs.LineLemmas.{filled_with}
use Rattle.mask_blur.proofs.PutLemmas.{length_part}
use Rattle.mask_blur.proofs.ShownLemmas.{rows_none, rows_more, along_columns_boxed}
use Rattle.mask_blur.proofs.columns.blur_few.Goals as goal

pub loop-k-init : goal.loop-k-init
loop-k-init c = λ f x y shows.
    let filled = c.fill.ensures.after (λ y e. e) in (
      (λ i h.
          let none = sums_none (f (x +ℤ pos i)) y c.args.h (2 * c.args.means.now.radius + 1) (shows.outside.columns (x +ℤ pos i)) in
          omega (arith, filled_with c.fill.new.self _ _ filled i (omega (arith, h)), c.radius-r.ensures.value, none)),
      rows_none (along_columns c.args.means.now.radius f) x (y -ℤ pos c.args.means.now.radius) (length c.args.zeros.now) c.args.to.now,
    )

pub slice_bounds-slide-end : goal.slice_bounds-slide-end
slice_bounds-slide-end c =
    let r = c.args.means.now.radius in
    let w = length c.args.zeros.now in
    let k = c.loop-k.k in
    let rows : (k + 1) * w ≤ (c.args.h + 2 * r) * w = mul-le (k + 1) w (c.args.h + 2 * r) w (omega (arith, c.radius-r.ensures.value)) (omega arith) in
    let fits : k * w + w ≤ length c.loop-k.to = omega (arith, c.requires.room, rows) in
    search rules

pub slide-requires-clause-window : goal.slide-requires-clause-window
slide-requires-clause-window c = λ i h.
    let r = c.args.means.now.radius in
    let w = length c.args.zeros.now in
    let k = c.loop-k.k in
    let enters = c.row_or_zeros-entering in
    let leaves = c.row_or_zeros-leaving in
    let rows : (k + 1) * w ≤ (c.args.h + 2 * r) * w = mul-le (k + 1) w (c.args.h + 2 * r) w (omega (arith, c.radius-r.ensures.value)) (omega arith) in
    let fits : k * w + w ≤ length c.loop-k.to = omega (arith, c.requires.room, rows) in
    let part = length_part (k * w) (k * w + w) c.loop-k.to fits in
    let m : MaskValue = record { x = pos 0; y = pos 0; w = w; h = c.args.h; bytes = c.args.from.now } in
    let shows : Shows (value_at m) (pos 0) (pos 0) w c.args.h c.args.from.now = mask_shows m in
    let column : i < w = omega (arith, part) in
    let last = leaves.ensures.row (value_at m) (pos 0) (pos 0) shows i column ∙ ap (λ n. value_at m (pos 0 +ℤ pos i) ((pos 0 +ℤ pos k) -ℤ pos (2 * n + 1))) c.radius-r.ensures.value in
    column_bounds m i k r (get_or c.loop-k.sums i 0) (get_or enters.result.now i 0) (get_or leaves.result.now i 0) (λ j. (c.type_inv.from j).fits)
    ((c.loop-k.invariant (value_at m) (pos 0) (pos 0) shows).0 i column) (enters.ensures.row (value_at m) (pos 0) (pos 0) shows i column) last

pub loop-k-preserved : goal.loop-k-preserved
loop-k-preserved c = λ f x y shows.
    let r = c.args.means.now.radius in
    let w = length c.args.zeros.now in
    let k = c.loop-k.k in
    let enters = c.row_or_zeros-entering in
    let leaves = c.row_or_zeros-leaving in
    let rows : (k + 1) * w ≤ (c.args.h + 2 * r) * w = mul-le (k + 1) w (c.args.h + 2 * r) w (omega (arith, c.radius-r.ensures.value)) (omega arith) in
    let fits : k * w + w ≤ length c.loop-k.to = omega (arith, c.requires.room, rows) in
    let long : length c.slide.new.to ≡ k * w + w - k * w = c.slide.auto.to ∙ length_part (k * w) (k * w + w) c.loop-k.to fits in
    let sums = λ (i : ℕ) (h : i < w).
    let last = leaves.ensures.row f x y shows i h ∙ ap (λ n. f (x +ℤ pos i) ((y +ℤ pos k) -ℤ pos (2 * n + 1))) c.radius-r.ensures.value in
    let step = column_step (f (x +ℤ pos i)) y k (2 * r + 1) r (get_or c.loop-k.sums i 0) (get_or enters.result.now i 0) (get_or leaves.result.now i 0)
    ((c.loop-k.invariant f x y shows).0 i h) (enters.ensures.row f x y shows i h) last in
    let is : get_or c.slide.new.sums i 0 ≡ sum_from (f (x +ℤ pos i)) ((y +ℤ pos (k + 1)) -ℤ pos (2 * r + 1)) (2 * r + 1) + r = omega (arith, step, c.slide.ensures.sums i (omega (arith, c.slide.auto.to, long))) in is in (
      sums,
      rows_more (along_columns r f) x (y -ℤ pos r) ((y -ℤ pos r) +ℤ pos k) w k (k * w) _ c.loop-k.to c.slide.new.to (c.loop-k.invariant f x y shows).1 refl refl
          fits (omega (arith, long))
          (λ i h. c.slide.ensures.means i (omega (arith, c.slide.auto.to)) ∙ ap (λ z. z / (2 * r + 1)) (sums i (omega (arith, long))) ∙ column_mean r (f (x +ℤ pos i)) y k),
    )

pub returns : goal.returns
returns c = λ f x y shows.
    let rows : c.loop-k.k ≡ c.args.h + 2 * c.args.means.now.radius = omega (arith, c.radius-r.ensures.value) in
    let has : HasMaskRows (along_columns c.args.means.now.radius f) x (y -ℤ pos c.args.means.now.radius) (length c.args.zeros.now) (c.args.h + 2 * c.args.means.now.radius) c.loop-k.to = rw (← rows) (c.loop-k.invariant f x y shows).1 in
    record { inside = has; outside = along_columns_boxed c.args.means.now.radius f x y (length c.args.zeros.now) c.args.h shows.outside }

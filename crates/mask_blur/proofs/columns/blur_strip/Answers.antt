use Rattle.std.proofs.Common.{◌≡◌, ℕ, ◌+◌, ◌*◌, ◌/◌, ◌<◌, ◌≤◌, pos, ◌+ℤ◌, ◌-ℤ◌, length, get_or, ap, refl, ◌∙◌, inl, inr, arith, rules}
use Rattle.std.proofs.lemmas.List.{get_or-replicate}
use Rattle.std.proofs.lemmas.Nat.{mul-le}
use Rattle.ass_num.specs.Coverage.{sum_from}
use Rattle.ass_num.specs.Masks.{MaskValue, value_at}
use Rattle.mask_blur.specs.Blur.{along_columns}
use Rattle.mask_blur.specs.Shown.{Shows}
use Rattle.mask_blur.proofs.ColumnLemmas.{sums_none, column_step, column_bounds, column_mean}
use Rattle.mask_blur.proofs.MaskLemmas.{mask_shows}
use Rattle.mask_blur.proofs.PutLemmas.{length_part}
use Rattle.mask_blur.proofs.TileLemmas.{strip-put}
use Rattle.mask_blur.proofs.columns.blur_strip.Goals as goal

pub loop-k-init : goal.loop-k-init
loop-k-init c = (
  refl,
  λ f x y shows. (
    (λ b h.
        let none = sums_none (f (x +ℤ pos (c.args.at + b))) y c.args.h (2 * c.args.means.now.radius + 1) (shows.outside.columns (x +ℤ pos (c.args.at + b))) in
        get_or-replicate 16 b c.radius-r.result 0 h ∙ (c.radius-r.ensures.value ∙ omega (arith, none))),
    λ j i i_less known. elim known [ inl t ↦ absurd (omega (arith, t.0)) | inr o ↦ o ],
  ),
)

pub slice_bounds-slide-end : goal.slice_bounds-slide-end
slice_bounds-slide-end c =
    let r = c.args.means.now.radius in
    let w = c.args.w in
    let k = c.loop-k.k in
    let rows : (k + 1) * w ≤ (c.args.h + 2 * r) * w = mul-le (k + 1) w (c.args.h + 2 * r) w (omega (arith, c.radius-r.ensures.value)) (omega arith) in
    let fits : k * w + c.args.at + 16 ≤ length c.loop-k.to = omega (arith, c.requires.room, c.requires.columns, rows) in
    search rules

pub slide-requires-clause-window : goal.slide-requires-clause-window
slide-requires-clause-window c = λ b b_less.
    let r = c.args.means.now.radius in
    let w = c.args.w in
    let k = c.loop-k.k in
    let i = c.args.at + b in
    let enters = c.part_or_zeros-entering in
    let leaves = c.part_or_zeros-leaving in
    let m : MaskValue = record { x = pos 0; y = pos 0; w = w; h = c.args.h; bytes = c.args.from.now } in
    let shows : Shows (value_at m) (pos 0) (pos 0) w c.args.h c.args.from.now = mask_shows m in
    let rows : (k + 1) * w ≤ (c.args.h + 2 * r) * w = mul-le (k + 1) w (c.args.h + 2 * r) w (omega (arith, c.radius-r.ensures.value)) (omega arith) in
    let fits : k * w + c.args.at + 16 ≤ length c.loop-k.to = omega (arith, c.requires.room, c.requires.columns, rows) in
    let part = length_part (k * w + c.args.at) (k * w + c.args.at + 16) c.loop-k.to fits in
    let within : b < 16 = omega (arith, part, b_less) in
    let last = leaves.ensures (value_at m) (pos 0) (pos 0) shows b within ∙ ap (λ n. value_at m (pos 0 +ℤ pos i) ((pos 0 +ℤ pos k) -ℤ pos (2 * n + 1))) c.radius-r.ensures.value in
    column_bounds m i k r (get_or c.loop-k.sums b 0) (get_or enters.result b 0) (get_or leaves.result b 0) (λ j. (c.type_inv.from j).fits)
    ((c.loop-k.invariant.1 (value_at m) (pos 0) (pos 0) shows).0 b within) (enters.ensures (value_at m) (pos 0) (pos 0) shows b within) last

pub loop-k-preserved : goal.loop-k-preserved
loop-k-preserved c =
    let r = c.args.means.now.radius in
    let w = c.args.w in
    let k = c.loop-k.k in
    let at = c.args.at in
    let enters = c.part_or_zeros-entering in
    let leaves = c.part_or_zeros-leaving in
    let rows : (k + 1) * w ≤ (c.args.h + 2 * r) * w = mul-le (k + 1) w (c.args.h + 2 * r) w (omega (arith, c.radius-r.ensures.value)) (omega arith) in
    let fits : k * w + at + 16 ≤ length c.loop-k.to = omega (arith, c.requires.room, c.requires.columns, rows) in
    let row = c.slide.new.to in
    let count : length c.loop-k.sums ≡ 16 = c.loop-k.invariant.0 in
    let long : length row ≡ 16 = c.slide.auto.to ∙ (length_part (k * w + at) (k * w + at + 16) c.loop-k.to fits ∙ omega arith) in (
      c.slide.auto.sums ∙ count,
      λ f x y shows.
          let sums = λ (b : ℕ) (h : b < 16).
          let last = leaves.ensures f x y shows b h ∙ ap (λ n. f (x +ℤ pos (at + b)) ((y +ℤ pos k) -ℤ pos (2 * n + 1))) c.radius-r.ensures.value in
          let step = column_step (f (x +ℤ pos (at + b))) y k (2 * r + 1) r (get_or c.loop-k.sums b 0) (get_or enters.result b 0) (get_or leaves.result b 0)
          ((c.loop-k.invariant.1 f x y shows).0 b h) (enters.ensures f x y shows b h) last in
          let is : get_or c.slide.new.sums b 0 ≡ sum_from (f (x +ℤ pos (at + b))) ((y +ℤ pos (k + 1)) -ℤ pos (2 * r + 1)) (2 * r + 1) + r = omega (arith, step, c.slide.ensures.sums b (omega (arith, c.slide.auto.to, long, h))) in is in (
            sums,
            λ j i i_less known.
                strip-put (λ u v. along_columns r f (x +ℤ pos v) ((y -ℤ pos r) +ℤ pos u)) w at k _ c.args.to.now c.loop-k.to row c.requires.columns fits long (omega arith)
                (λ b h. c.slide.ensures.means b (omega (arith, c.slide.auto.to, long, h)) ∙ ap (λ z. z / (2 * r + 1)) (sums b h) ∙ column_mean r (f (x +ℤ pos (at + b))) y k)
                (λ u v v_less was. (c.loop-k.invariant.1 f x y shows).1 u v v_less was)
                j i i_less known,
          ),
    )

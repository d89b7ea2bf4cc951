use Rattle.std.proofs.Common.{◌≡◌, ℕ, ◌+◌, ◌-◌, ◌*◌, ◌<◌, ◌≤◌, ℤ, pos, ◌+ℤ◌, ◌-ℤ◌, length, get_or, ap, ◌∙◌, inl, inr, arith}
use Rattle.std.proofs.lemmas.Int.{ints}
use Rattle.mask_blur.specs.Shown.{Shows}
use Rattle.mask_blur.specs.Softening.{neighbour_sum, softer}
use Rattle.mask_blur.proofs.FrameLemmas.{sum_below, softer_cell}
use Rattle.mask_blur.proofs.PutLemmas.{length_part}
use Rattle.mask_blur.proofs.TileLemmas.{tile-put}
use Rattle.mask_blur.proofs.strips.soften_step.Goals as goal

pub returns-clause-last_small : goal.returns-clause-last_small
returns-clause-last_small c = λ b h.
    let w = c.args.w in
    let k = c.args.k in
    let at = c.args.at in
    let fits : k * w + at + 16 ≤ length c.args.to.now = omega (arith, c.requires.to, c.requires.columns) in
    let part = length_part (k * w + at) (k * w + at + 16) c.args.to.now fits in
    omega (
      arith,
      c.soften_part.ensures.last b (omega (arith, part, h)),
      c.part_at-left.ensures b h,
      c.part_at-middle.ensures b h,
      c.part_at-right.ensures b h,
      (c.type_inv.from (k * w + at + w - 1 + b)).fits,
      (c.type_inv.from (k * w + at + w + b)).fits,
      (c.type_inv.from (k * w + at + w + 1 + b)).fits,
    )

pub returns-clause-both_small : goal.returns-clause-both_small
returns-clause-both_small c = λ b h.
    let w = c.args.w in
    let k = c.args.k in
    let at = c.args.at in
    let fits : k * w + at + 16 ≤ length c.args.to.now = omega (arith, c.requires.to, c.requires.columns) in
    let part = length_part (k * w + at) (k * w + at + 16) c.args.to.now fits in
    omega (
      arith,
      c.soften_part.ensures.both b (omega (arith, part, h)),
      c.soften_part.ensures.last b (omega (arith, part, h)),
      c.requires.last_small b h,
      c.part_at-left.ensures b h,
      c.part_at-middle.ensures b h,
      c.part_at-right.ensures b h,
      (c.type_inv.from (k * w + at + w - 1 + b)).fits,
      (c.type_inv.from (k * w + at + w + b)).fits,
      (c.type_inv.from (k * w + at + w + 1 + b)).fits,
    )

pub returns-clause-softened : goal.returns-clause-softened
returns-clause-softened c = λ h m before framed from_m below was.
    let w = c.args.w in
    let k = c.args.k in
    let at = c.args.at in
    let from = c.args.from.now in
    let left = c.part_at-left in
    let middle = c.part_at-middle in
    let right = c.part_at-right in
    let e = c.soften_part.ensures in
    let to = c.args.to.now in
    let row = c.soften_part.new.to in
    let fits : k * w + at + 16 ≤ length to = omega (arith, c.requires.to, c.requires.columns) in
    let part = length_part (k * w + at) (k * w + at + 16) to fits in
    let long : length row ≡ 16 = c.soften_part.auto.to ∙ (part ∙ omega arith) in
    let next = λ (f : ℤ → ℤ → ℕ) (x y : ℤ) (shows : Shows f x y w h from) (b : ℕ) (l : b < 16).
    let less : at + b < w = omega (arith, c.requires.columns, l) in
    let one : k * w + at + w - 1 + b ≡ k * w + w + (at + b) - 1 = omega (arith, less) in
    let two : k * w + at + w + b ≡ k * w + w + (at + b) = omega arith in
    let three : k * w + at + w + 1 + b ≡ k * w + w + (at + b) + 1 = omega arith in
    let sum : get_or c.soften_part.new.last b 0 ≡ neighbour_sum (λ u. f u (y +ℤ pos (k + 1))) (x +ℤ pos (at + b)) = e.last b (omega (arith, part, l))
    ∙ sum_below f x y w h m from shows framed k (at + b) (get_or left.result b 0) (get_or middle.result b 0) (get_or right.result b 0) below less
    (left.ensures b l ∙ ap (λ n. get_or from n 0) one) (middle.ensures b l ∙ ap (λ n. get_or from n 0) two) (right.ensures b l ∙ ap (λ n. get_or from n 0) three) in sum in
    let same : m + (k - m) ≡ k = omega (arith, from_m) in
    record {
      cells = λ f x y shows j i i_less known.
          let cell = λ (b : ℕ) (l : b < 16). softer_cell f y (x +ℤ pos (at + b)) k (get_or c.args.both.now b 0) (get_or c.args.last.now b 0) (get_or c.soften_part.new.last b 0) (get_or row b 0)
          (was.both_sums f x y shows b l) (was.last_sums f x y shows b l) (next f x y shows b l) (e.softened b (omega (arith, part, l))) in
          let put = tile-put (λ u v. softer f (x +ℤ pos v) (y +ℤ pos u)) w m at (k - m) (k * w + at + 16 - (k * w + at)) before to row c.requires.columns (rw same fits) long (omega arith) (rw same cell)
          (λ u v v_less old. was.cells f x y shows u v v_less (elim old [ inl t ↦ inl (t.0, omega (arith, t.1, from_m), t.2, t.3) | inr o ↦ inr o ]))
          j i i_less (elim known [ inl t ↦ inl (t.0, omega (arith, t.1, from_m), t.2, t.3) | inr o ↦ inr o ]) in
          rw same at put;
      last_sums = next;
      both_sums = λ f x y shows b l.
          let back : (y +ℤ pos (k + 1)) -ℤ pos 1 ≡ y +ℤ pos k = omega (arith, ints) in
          rw back (omega (arith, e.both b (omega (arith, part, l)), was.last_sums f x y shows b l, next f x y shows b l));
    }

-- How far the masks of regions and the sums of masks reach.
use Rattle.std.proofs.Common.{◌≡◌, ℕ, ◌+◌, ◌*◌, ◌/◌, ◌<◌, true, ◌⊎◌, inl, inr, ℤ, pos, neg_ℤ, ◌+ℤ◌, ◌<ℤ◌, ◌≤ℤ◌, List, length, get_or, subst, arith}
use Rattle.std.proofs.lemmas.Int.{ints, by_lt_z}
use Rattle.std.proofs.lemmas.List.Elements.{All-get_or}
use Rattle.std.specs.List.{All, Any}
use Rattle.ass_num.specs.Coverage.{PixelBox, box_of, InBox, IsCover, IsMovedPixel, samples_of}
use Rattle.ass_num.specs.Limits.{IsMaskWithin, IsRegionWithin}
use Rattle.ass_num.specs.Masks.{MaskValue, is_mask}
use Rattle.ass_num.specs.Regions.{member}
use Rattle.ass_num.specs.declared.region.Run.{Run}
use Rattle.ass_num.proofs.LimitLemmas.{member_near}
use Rattle.ass_num.proofs.MaskLemmas.{HasPixels, mask_cases, corner_in, far_corner_in}
use Rattle.mask_cover.proofs.CoverLemmas.{counted_sample}
use Rattle.mask_cover.proofs.ExtentLemmas.{corner}
use Rattle.mask_cover.specs.Sums.{IsMovedWithin, IsBoxOf}

-- a square around 0
abbrev square : ℕ → ℕ → PixelBox
square c s = record { x = neg_ℤ (pos c); y = neg_ℤ (pos c); w = s; h = s }

-- ---- masks of regions

pub cover_within : (top : ℤ) (rows : List (List Run)) (px py : ℕ) (m : MaskValue) → px < 16 → py < 16 → is_mask m ≡ true → IsCover (member top rows) px py m → (limit : ℕ) → IsRegionWithin limit top rows → IsMaskWithin (limit / 16 + 1) (2 * (limit / 16) + 3) m
cover_within top rows px py m small also is cover limit near = elim (mask_cases m is) [
  | inl none ↦ let x = none.x in let y = none.y in let w = none.w in let h = none.h in record { x = (omega (arith, ints), omega (arith, ints)); y = (omega (arith, ints), omega (arith, ints)); w = omega arith; h = omega arith }
  | inr some ↦
      let first = cover.box.least (square (limit / 16 + 1) (2 * (limit / 16) + 3)) inside m.x m.y (corner_in (box_of m) some.w some.h) in
      let last = cover.box.least (square (limit / 16 + 1) (2 * (limit / 16) + 3)) inside _ _ (far_corner_in (box_of m) some.w some.h) in
      let fl = first.left in let ft = first.top in let lr = last.right in let lb = last.bottom in
      record { x = (omega (arith, ints), omega (arith, ints)); y = (omega (arith, ints), omega (arith, ints)); w = omega (arith, ints); h = omega (arith, ints) }
]
  where
    inside : (x y : ℤ) → 0 < samples_of (member top rows) px py x y → InBox (square (limit / 16 + 1) (2 * (limit / 16) + 3)) x y
    inside x y some =
        let c = counted_sample (member top rows) px py x y some in
        let n = member_near limit top rows c.0 c.1 near c.2 in
        let al = c.3.low in let ah = c.3.high in let dl = c.4.low in let dh = c.4.high in
        let il = n.0.0 in let ih = n.0.1 in let jl = n.1.0 in let jh = n.1.1 in
        record { left = omega (arith, ints); right = omega (arith, ints); top = omega (arith, ints); bottom = omega (arith, ints) }

-- ---- sums of masks

module _ (parts : List (MaskValue × ℤ × ℤ)) (m : MaskValue) (is : is_mask m ≡ true) (box : IsBoxOf parts (box_of m)) (corner_most side shift : ℕ) (near : All (IsMovedWithin corner_most side shift) parts) where
  -- a part of the list
  part : (k : ℕ) (p : MaskValue × ℤ × ℤ) → k < length parts → get_or parts k p ≡ p → IsMovedWithin corner_most side shift p
  part k p less same = let P : MaskValue × ℤ × ℤ → Type 0 = λ z. IsMovedWithin corner_most side shift z in subst P same (All-get_or P parts k p less near)

  inside : (x y : ℤ) → Any (λ p. IsMovedPixel p x y) parts → InBox (square (corner_most + shift) (2 * (corner_most + shift) + side)) x y
  inside x y some =
      let w = part some.0 some.1 some.2 some.3 in
      let pixel = some.4 in
      let pl = pixel.left in let pr = pixel.right in let pt = pixel.top in let pb = pixel.bottom in
      let mx = w.mask.x in let my = w.mask.y in let mw = w.mask.w in let mh = w.mask.h in let dx = w.dx in let dy = w.dy in
      record { left = omega (arith, ints, mx.0, dx.0); right = omega (arith, ints, mx.1, dx.1); top = omega (arith, ints, my.0, dy.0); bottom = omega (arith, ints, my.1, dy.1) }

  -- a box that begins further on has no part
  no_part : HasPixels m → (pos (corner_most + shift) <ℤ m.x) ⊎ (pos (corner_most + shift) <ℤ m.y) → ⊥
  no_part some far =
      let here = box.least (record { x = pos 0; y = pos 0; w = 0; h = 0 }) (λ x y any. absurd (nowhere x y any)) m.x m.y (corner_in (box_of m) some.w some.h) in
      let l = here.left in let r = here.right in omega (arith, ints)
    where
      nowhere : (x y : ℤ) → Any (λ p. IsMovedPixel p x y) parts → ⊥
      nowhere x y any =
          let w = part any.0 any.1 any.2 any.3 in
          let pixel = any.4 in
          let pl = pixel.left in let pr = pixel.right in let pt = pixel.top in let pb = pixel.bottom in
          let wide : 0 < any.1.0.w = omega (arith, ints) in
          let high : 0 < any.1.0.h = omega (arith, ints) in
          let at = box.has (any.1.0.x +ℤ any.1.1) (any.1.0.y +ℤ any.1.2) (any.0, any.1, any.2, any.3, corner any.1.0 any.1.1 any.1.2 wide high) in
          let mx = w.mask.x in let my = w.mask.y in let dx = w.dx in let dy = w.dy in
          elim far [
            | inl right ↦ let l = at.left in omega (arith, ints, mx.1, dx.1)
            | inr low ↦ let t = at.top in omega (arith, ints, my.1, dy.1)
          ]

  pub sum_within : IsMaskWithin (corner_most + shift) (2 * (corner_most + shift) + side) m
  sum_within = elim (mask_cases m is) [
    | inl none ↦ let x = none.x in let y = none.y in let w = none.w in let h = none.h in record { x = (omega (arith, ints), omega (arith, ints)); y = (omega (arith, ints), omega (arith, ints)); w = omega arith; h = omega arith }
    | inr some ↦
        let first = box.least (square (corner_most + shift) (2 * (corner_most + shift) + side)) inside m.x m.y (corner_in (box_of m) some.w some.h) in
        let last = box.least (square (corner_most + shift) (2 * (corner_most + shift) + side)) inside _ _ (far_corner_in (box_of m) some.w some.h) in
        let fl = first.left in let ft = first.top in let lr = last.right in let lb = last.bottom in
        record {
          x = (omega (arith, ints), by_lt_z (pos (corner_most + shift)) m.x (λ (l : pos (corner_most + shift) <ℤ m.x). absurd (no_part some (inl l))) (λ (l : m.x ≤ℤ pos (corner_most + shift)). l));
          y = (omega (arith, ints), by_lt_z (pos (corner_most + shift)) m.y (λ (l : pos (corner_most + shift) <ℤ m.y). absurd (no_part some (inr l))) (λ (l : m.y ≤ℤ pos (corner_most + shift)). l));
          w = omega (arith, ints);
          h = omega (arith, ints);
        }
  ]

-- The mask of a region is its coverage.
use Rattle.std.proofs.Common.{◌≡◌, ℕ, zero, suc, ◌+◌, ◌*◌, ◌/◌, ◌%◌, ◌<◌, ◌≤◌, Bool, true, false, inl, inr, ⊎_elim, ℤ, pos, negsuc, ◌+ℤ◌, ◌-ℤ◌, ◌≤ℤ◌, ◌<ℤ◌, ltb, refl, sym, ap, ◌∙◌, subst, arith}
use Rattle.std.proofs.lemmas.Int.{ints, by_lt_z}
use Rattle.std.proofs.lemmas.Nat.{div-mul-add, mod-mul-add}
use Rattle.std.proofs.lemmas.Bool.{ltb-true, lt-ltb, cases_lt}
use Rattle.std.proofs.lemmas.List.FromFn.{get_or-map-range_with_len}
use Rattle.ass_num.specs.Coverage.{PixelBox, InBox, IsLeastBox, IsCover, box_of, counted, samples_of, coverage_byte, sum_from, first_sample}
use Rattle.ass_num.specs.Limits.{IsWithin, IsRegionWithin, max_sample}
use Rattle.ass_num.specs.Masks.{value_at}
use Rattle.ass_num.specs.Regions.{RegionValue, member}
use Rattle.ass_num.proofs.LimitLemmas.{member_near}
use Rattle.ass_num.proofs.MaskLemmas.{cell_below, value_inside, value_beside, value_over}
use Rattle.ass_num.proofs.SumLemmas.{some_positive}
use Rattle.mask_keys.specs.Boxes.{box_within, mask_in}
use Rattle.mask_keys.specs.Masks.{covered_mask, max_covered}
use Rattle.mask_keys.proofs.LeastLemmas.{box_within-least}

-- ---- the values of a formula's mask

pub offset_of : (x a : ℤ) (w : ℕ) → a ≤ℤ x → x <ℤ (a +ℤ pos w) → (i : ℕ) × (i < w) × (x ≡ a +ℤ pos i)
offset_of x a w l r = by_size (x -ℤ a) refl
  where
    by_size : (z : ℤ) → x -ℤ a ≡ z → (i : ℕ) × (i < w) × (x ≡ a +ℤ pos i)
    by_size (pos i) e = (i, omega (arith, ints), omega (arith, ints))
    by_size (negsuc i) e = absurd (omega (arith, ints))

mask_in-at : (b : PixelBox) (value : ℤ → ℤ → ℕ) (x y : ℤ) (i j : ℕ) → i < b.w → j < b.h → x ≡ b.x +ℤ pos i → y ≡ b.y +ℤ pos j → value_at (mask_in b value) x y ≡ value x y
unfolding mask_in
mask_in-at b value x y i j a c e f =
    let k : ℕ = j * b.w + i in
    let byte_of : ℕ → ℕ = λ k. value (b.x +ℤ pos (k % b.w)) (b.y +ℤ pos (k / b.w)) in
    let across : k % b.w ≡ i = mod-mul-add j b.w i a in
    let down : k / b.w ≡ j = div-mul-add j b.w i a in
    value_inside (mask_in b value) x y i j e f a c
    ∙ get_or-map-range_with_len byte_of 0 (b.w * b.h) k k 0 (cell_below i j b.w b.h a c) (omega arith)
    ∙ ap (λ z. value (b.x +ℤ pos z) (b.y +ℤ pos (k / b.w))) across ∙ ap (λ z. value (b.x +ℤ pos i) (b.y +ℤ pos z)) down
    ∙ ap (λ z. value z (b.y +ℤ pos j)) (sym e) ∙ ap (value x) (sym f)

pub mask_in-value : (b : PixelBox) (value : ℤ → ℤ → ℕ) → ((x y : ℤ) → 0 < value x y → InBox b x y) → (x y : ℤ) → value_at (mask_in b value) x y ≡ value x y
unfolding mask_in
mask_in-value b value held x y =
    ⊎_elim
    (λ (z : 0 < value x y).
    let m = held x y z in
    let i = offset_of x b.x b.w m.left m.right in
    let j = offset_of y b.y b.h m.top m.bottom in
    mask_in-at b value x y i.0 j.0 i.1 j.1 i.2 j.2)
    (λ (z : value x y ≤ 0).
    let none : value x y ≡ 0 = omega arith in
    by_lt_z x b.x
    (λ (l : x <ℤ b.x). value_beside (mask_in b value) x y (inl l) ∙ sym none)
    (λ (l : b.x ≤ℤ x). by_lt_z x (b.x +ℤ pos b.w)
    (λ (r : x <ℤ (b.x +ℤ pos b.w)). by_lt_z y b.y
    (λ (t : y <ℤ b.y). value_over (mask_in b value) x y (inl t) ∙ sym none)
    (λ (t : b.y ≤ℤ y). by_lt_z y (b.y +ℤ pos b.h)
    (λ (u : y <ℤ (b.y +ℤ pos b.h)).
    let i = offset_of x b.x b.w l r in
    let j = offset_of y b.y b.h t u in
    mask_in-at b value x y i.0 j.0 i.1 j.1 i.2 j.2)
    (λ (u : (b.y +ℤ pos b.h) ≤ℤ y). value_over (mask_in b value) x y (inr u) ∙ sym none)))
    (λ (r : (b.x +ℤ pos b.w) ≤ℤ x). value_beside (mask_in b value) x y (inr r) ∙ sym none)))
    (cases_lt 0 (value x y))

pub box_in : (b : PixelBox) (value : ℤ → ℤ → ℕ) → box_of (mask_in b value) ≡ b
unfolding mask_in
box_in b value = refl

-- ---- coverage

passes_sample : (has : ℤ → ℤ → Bool) (i j : ℤ) → 0 < counted has i j → has i j ≡ true
passes_sample has i j l = by_test (has i j) refl
  where
    by_test : (b : Bool) → has i j ≡ b → has i j ≡ true
    by_test true e = e
    by_test false e = let z : counted has i j ≡ 0 = rw e refl in absurd (omega arith)

pixel_near : (r : RegionValue) (px py : ℕ) → px < 16 → py < 16 → IsRegionWithin max_sample r.top r.rows → (x y : ℤ) → 0 < samples_of (member r.top r.rows) px py x y → IsWithin max_covered x × IsWithin max_covered y
unfolding samples_of
pixel_near r px py across down near x y some =
    let has : ℤ → ℤ → Bool = member r.top r.rows in
    let v = some_positive (λ j. sum_from (λ i. counted has i j) (first_sample px x) 16) (first_sample py y) 16 some in
    let u = some_positive (λ i. counted has i (first_sample py y +ℤ pos v.0)) (first_sample px x) 16 v.2 in
    let s = member_near max_sample r.top r.rows (first_sample px x +ℤ pos u.0) (first_sample py y +ℤ pos v.0) near (passes_sample has (first_sample px x +ℤ pos u.0) (first_sample py y +ℤ pos v.0) u.2) in
    let a = s.0.0 in
    let b = s.0.1 in
    let c = s.1.0 in
    let d = s.1.1 in
    let l = u.1 in
    let m = v.1 in
    ((omega (arith, ints), omega (arith, ints)), (omega (arith, ints), omega (arith, ints)))

byte_some : (n : ℕ) → 0 < coverage_byte n → 0 < n
byte_some zero l = absurd (omega arith)
byte_some (suc n) l = omega arith

pub covered_mask-covers : (r : RegionValue) (px py : ℕ) → px < 16 → py < 16 → IsRegionWithin max_sample r.top r.rows → IsCover (member r.top r.rows) px py (covered_mask px py r)
covered_mask-covers r px py across down near =
    let count : ℤ → ℤ → ℕ = λ x y. samples_of (member r.top r.rows) px py x y in
    let passes : ℤ → ℤ → Bool = λ x y. ltb 0 (count x y) in
    let b : PixelBox = box_within max_covered passes in
    let value : ℤ → ℤ → ℕ = λ x y. coverage_byte (count x y) in
    let least = box_within-least max_covered passes (λ x y h. pixel_near r px py across down near x y (ltb-true 0 (count x y) h)) in
    let P : PixelBox → Type 0 = λ z. IsLeastBox (λ x y. 0 < count x y) z in
    record {
      value = mask_in-value b value (λ x y l. least.has x y (lt-ltb 0 (count x y) (byte_some (count x y) l)));
      box = subst P (sym (box_in b value)) (record {
        has = λ i j h. least.has i j (lt-ltb 0 (count i j) h);
        least = λ other held. least.least other (λ i j h. held i j (ltb-true 0 (count i j) h));
      });
    }

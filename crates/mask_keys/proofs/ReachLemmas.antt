-- How far the masks of keys reach, and that their values are bytes.
use Rattle.std.proofs.Common.{◌≡◌, ℕ, zero, suc, ◌+◌, ◌*◌, ◌/◌, ◌%◌, ◌<◌, ◌≤◌, Bool, true, false, ⊎_elim, ℤ, pos, negsuc, neg_ℤ, ◌+ℤ◌, ◌-ℤ◌, ◌≤ℤ◌, ◌<ℤ◌, unsigned_abs, map, get_or, ltb, refl, sym, ap, ◌∙◌, arith}
use Rattle.std.specs.Prelude.{if◌then◌else◌}
use Rattle.std.specs.List.{range_with_len}
use Rattle.std.proofs.Math.Nat.{div-lt_iff_lt-mul}
use Rattle.std.proofs.lemmas.Int.{ints, by_lt_z}
use Rattle.std.proofs.lemmas.Bool.{false≢true, cases_lt}
use Rattle.std.proofs.lemmas.List.{get_or_past}
use Rattle.std.proofs.lemmas.List.FromFn.{length-map-range_with_len, get_or-map-range_with_len}
use Rattle.ass_num.specs.Coverage.{PixelBox, counted, samples_of, coverage_byte, sum_from, first_sample, box_of}
use Rattle.ass_num.specs.Limits.{IsMaskWithin, max_mask_corner, max_mask_side}
use Rattle.ass_num.specs.Masks.{MaskValue, value_at}
use Rattle.ass_num.specs.Regions.{RegionValue, member}
use Rattle.ass_num.proofs.MaskLemmas.{mask_wider, value_most}
use Rattle.ass_num.proofs.SumLemmas.{sum_from-bound}
use Rattle.mask_blur.specs.Blur.{smoothed, along_rows, along_columns, blurred}
use Rattle.mask_blur.specs.Growth.{grown_box}
use Rattle.mask_blur.specs.Softening.{neighbour_sum, softer, softened}
use Rattle.mask_blur.proofs.GrowthLemmas.{grown_within}
use Rattle.mask_keys.specs.Keys.{HasMaskRanges}
use Rattle.mask_keys.specs.declared.mask_key.MaskKey.{MaskKey}
use Rattle.mask_keys.specs.Boxes.{some_from, first_from, last_end_from, box_from, box_within, mask_in}
use Rattle.mask_keys.specs.Masks.{covered_mask, softened_mask, blurred_mask, max_covered}
use Rattle.mask_keys.specs.Values.{mask_of_region}
use Rattle.mask_keys.proofs.BoxLemmas.{some_from-found, some_from-made}

-- ---- the box that a search finds

pub record IsFirst (p : ℤ → Bool) (i : ℤ) (n : ℕ) (k : ℤ) : Type 0 where
  pub from : i ≤ℤ k
  pub before : k <ℤ (i +ℤ pos n)
  pub passes : p k ≡ true

pub first_is : (p : ℤ → Bool) (i : ℤ) (n : ℕ) → some_from p i n ≡ true → IsFirst p i n (first_from p i n)
unfolding some_from first_from
first_is p i zero h = absurd (false≢true h)
first_is p i (suc n) h = by_test (p i) refl (first_is p (i +ℤ pos 1) n)
  where
    by_test : (b : Bool) → p i ≡ b → (some_from p (i +ℤ pos 1) n ≡ true → IsFirst p (i +ℤ pos 1) n (first_from p (i +ℤ pos 1) n)) → IsFirst p i (suc n) (first_from p i (suc n))
    by_test true e next = rw e (record { from = omega (arith, ints); before = omega (arith, ints); passes = e })
    by_test false e next =
        let rest : some_from p (i +ℤ pos 1) n ≡ true = rw e at h in
        let f = next rest in
        let a = f.from in
        let b = f.before in
        rw e (record { from = omega (arith, ints); before = omega (arith, ints); passes = f.passes })

pub last_is : (p : ℤ → Bool) (i : ℤ) (n : ℕ) (k : ℤ) → i ≤ℤ k → k <ℤ (i +ℤ pos n) → p k ≡ true → (k <ℤ last_end_from p i n) × (last_end_from p i n ≤ℤ (i +ℤ pos n))
unfolding last_end_from
last_is p i zero k a b e = absurd (omega (arith, ints))
last_is p i (suc n) k a b e = by_test (p (i +ℤ pos n)) refl (λ l. last_is p i n k a l e)
  where
    by_test : (t : Bool) → p (i +ℤ pos n) ≡ t → (k <ℤ (i +ℤ pos n) → (k <ℤ last_end_from p i n) × (last_end_from p i n ≤ℤ (i +ℤ pos n))) → (k <ℤ last_end_from p i (suc n)) × (last_end_from p i (suc n) ≤ℤ (i +ℤ pos (suc n)))
    by_test true f next = rw f (omega (arith, ints), omega (arith, ints))
    by_test false f next =
        by_lt_z k (i +ℤ pos n)
        (λ (l : k <ℤ (i +ℤ pos n)). let r = next l in let u = r.0 in let v = r.1 in rw f (u, omega (arith, ints)))
        (λ (l : (i +ℤ pos n) ≤ℤ k). let same : k ≡ i +ℤ pos n = omega (arith, ints) in absurd (false≢true (sym f ∙ ap p (sym same) ∙ e)))

pub size_of : (z : ℤ) → pos 0 <ℤ z → pos (unsigned_abs z) ≡ z
size_of (pos n) l = refl
size_of (negsuc n) l = absurd (omega (arith, ints))

-- a stretch of the search
record IsStretch (limit : ℕ) (from : ℤ) (len : ℕ) : Type 0 where
  low : neg_ℤ (pos limit) ≤ℤ from
  high : from ≤ℤ pos limit
  short : len ≤ 2 * limit + 1

stretch_is : (limit : ℕ) (p : ℤ → Bool) → some_from p (neg_ℤ (pos limit)) (2 * limit + 1) ≡ true
    → IsStretch limit (first_from p (neg_ℤ (pos limit)) (2 * limit + 1)) (unsigned_abs (last_end_from p (neg_ℤ (pos limit)) (2 * limit + 1) -ℤ first_from p (neg_ℤ (pos limit)) (2 * limit + 1)))
stretch_is limit p h =
    let low : ℤ = neg_ℤ (pos limit) in
    let n : ℕ = 2 * limit + 1 in
    let first : ℤ = first_from p low n in
    let last : ℤ = last_end_from p low n in
    let f = first_is p low n h in
    let a = f.from in
    let b = f.before in
    let l = last_is p low n first a b f.passes in
    let u = l.0 in
    let v = l.1 in
    let size : pos (unsigned_abs (last -ℤ first)) ≡ last -ℤ first = size_of (last -ℤ first) (omega (arith, ints)) in
    record { low = a; high = omega (arith, ints); short = omega (arith, ints, size) }

module _ (limit : ℕ) (passes : ℤ → ℤ → Bool) (value : ℤ → ℤ → ℕ) where
  low : ℤ
  low = neg_ℤ (pos limit)

  count : ℕ
  count = 2 * limit + 1

  column : ℤ → Bool
  column x = some_from (λ y. passes x y) low count

  row : ℤ → Bool
  row y = some_from (λ x. passes x y) low count

  row_some : some_from column low count ≡ true → some_from row low count ≡ true
  unfolding column row
  row_some h =
      let r = some_from-found column low count h in
      let s = some_from-found (λ y. passes r.0 y) low count r.3 in
      some_from-made row low count s.0 s.1 s.2 (some_from-made (λ x. passes x s.0) low count r.0 r.1 r.2 s.3)

  reach_by : (b : Bool) → some_from column low count ≡ b → IsMaskWithin limit (2 * limit + 1) (mask_in (box_from column row low count) value)
  unfolding low count mask_in
  reach_by true h =
      let across = stretch_is limit column h in
      let down = stretch_is limit row (row_some h) in
      rw h (record { x = (across.low, across.high); y = (down.low, down.high); w = across.short; h = down.short })
  reach_by false h = rw h (record { x = (omega (arith, ints), omega (arith, ints)); y = (omega (arith, ints), omega (arith, ints)); w = omega arith; h = omega arith })

  reach : IsMaskWithin limit (2 * limit + 1) (mask_in (box_within limit passes) value)
  unfolding box_within low count column row
  reach = reach_by (some_from column low count) refl

box_in : (b : PixelBox) (value : ℤ → ℤ → ℕ) → box_of (mask_in b value) ≡ b
unfolding mask_in
box_in b value = refl

pub mask_reach : (key : MaskKey) (r : RegionValue) → HasMaskRanges key → IsMaskWithin max_mask_corner max_mask_side (mask_of_region key r)
mask_reach key r ranges =
    let plain : MaskValue = covered_mask key.px key.py r in
    let soft : MaskValue = softened_mask key.edges plain in
    let few = ranges.edges in
    let small = ranges.blur in
    let count : ℤ → ℤ → ℕ = λ x y. samples_of (member r.top r.rows) key.px key.py x y in
    let covered = reach max_covered (λ x y. ltb 0 (count x y)) (λ x y. coverage_byte (count x y)) in
    let softer_reach = grown_within key.edges plain soft (box_in (grown_box key.edges plain) (softened key.edges (value_at plain))) max_covered (2 * max_covered + 1) covered in
    let blurred_reach = grown_within (3 * key.blur) soft (blurred_mask key.blur soft) (box_in (grown_box (3 * key.blur) soft) (blurred key.blur (value_at soft))) (max_covered + key.edges) (2 * max_covered + 1 + 2 * key.edges) softer_reach in
    mask_wider (max_covered + key.edges + 3 * key.blur) (2 * max_covered + 1 + 2 * key.edges + 2 * (3 * key.blur)) max_mask_corner max_mask_side (blurred_mask key.blur soft) (omega arith) (omega arith) blurred_reach

-- ---- values

mask_in_most : (b : PixelBox) (value : ℤ → ℤ → ℕ) → ((x y : ℤ) → value x y ≤ 255) → (x y : ℤ) → value_at (mask_in b value) x y ≤ 255
unfolding mask_in
mask_in_most b value most x y = value_most (mask_in b value) x y 255 byte
  where
    byte : (k : ℕ) → get_or (mask_in b value).bytes k 0 ≤ 255
    byte k =
        let f : ℕ → ℕ = λ k. value (b.x +ℤ pos (k % b.w)) (b.y +ℤ pos (k / b.w)) in
        ⊎_elim
        (λ (l : k < b.w * b.h). let e = get_or-map-range_with_len f 0 (b.w * b.h) k k 0 l (omega arith) in let m = most (b.x +ℤ pos (k % b.w)) (b.y +ℤ pos (k / b.w)) in omega (arith, e))
        (λ (l : b.w * b.h ≤ k). let count = length-map-range_with_len f 0 (b.w * b.h) in let e = get_or_past (map f (range_with_len 0 (b.w * b.h))) k 0 (omega (arith, count)) in omega (arith, e))
        (cases_lt k (b.w * b.h))

counted_most : (has : ℤ → ℤ → Bool) (i j : ℤ) → counted has i j ≤ 1
counted_most has i j = elim (has i j) as (λ b. (if b then 1 else 0) ≤ 1) [ true ↦ omega arith | false ↦ omega arith ]

samples_most : (has : ℤ → ℤ → Bool) (px py : ℕ) (x y : ℤ) → samples_of has px py x y ≤ 256
unfolding samples_of
samples_most has px py x y =
    let m = sum_from-bound (λ j. sum_from (λ i. counted has i j) (first_sample px x) 16) (first_sample py y) 16 16
    (λ k l. let r = sum_from-bound (λ i. counted has i (first_sample py y +ℤ pos k)) (first_sample px x) 16 1 (λ n d. counted_most has (first_sample px x +ℤ pos n) (first_sample py y +ℤ pos k)) in omega (arith, r)) in
    omega (arith, m)

byte_most : (n : ℕ) → n ≤ 256 → coverage_byte n ≤ 255
byte_most n l = omega arith

softer_most : (f : ℤ → ℤ → ℕ) → ((x y : ℤ) → f x y ≤ 255) → (x y : ℤ) → softer f x y ≤ 255
softer_most f most x y =
    let row : (j : ℤ) → neighbour_sum (λ i. f i j) x ≤ 1020 = λ j. let a = most (x -ℤ pos 1) j in let b = most x j in let c = most (x +ℤ pos 1) j in omega arith in
    let a = row (y -ℤ pos 1) in
    let b = row y in
    let c = row (y +ℤ pos 1) in
    omega arith

softened_most : (n : ℕ) (f : ℤ → ℤ → ℕ) → ((x y : ℤ) → f x y ≤ 255) → (x y : ℤ) → softened n f x y ≤ 255
unfolding softened
softened_most zero f most x y = most x y
softened_most (suc n) f most x y = softer_most (softened n f) (softened_most n f most) x y

smoothed_most : (r : ℕ) (f : ℤ → ℕ) → ((i : ℤ) → f i ≤ 255) → (i : ℤ) → smoothed r f i ≤ 255
smoothed_most r f most i =
    let total = sum_from-bound f (i -ℤ pos r) (2 * r + 1) 255 (λ k l. most ((i -ℤ pos r) +ℤ pos k)) in
    let some : 0 < 2 * r + 1 = omega arith in
    let less : sum_from f (i -ℤ pos r) (2 * r + 1) + r < 256 * (2 * r + 1) = omega (arith, total) in
    let below : smoothed r f i < 256 = (div-lt_iff_lt-mul some).1 less in
    omega (arith, below)

blurred_most : (r : ℕ) (f : ℤ → ℤ → ℕ) → ((x y : ℤ) → f x y ≤ 255) → (x y : ℤ) → blurred r f x y ≤ 255
unfolding blurred
blurred_most r f most =
    let rows : (g : ℤ → ℤ → ℕ) → ((x y : ℤ) → g x y ≤ 255) → (x y : ℤ) → along_rows r g x y ≤ 255 = λ g m x y. smoothed_most r (λ i. g i y) (λ i. m i y) x in
    let columns : (g : ℤ → ℤ → ℕ) → ((x y : ℤ) → g x y ≤ 255) → (x y : ℤ) → along_columns r g x y ≤ 255 = λ g m x y. smoothed_most r (λ j. g x j) (λ j. m x j) y in
    let first = rows f most in
    let second = rows (along_rows r f) first in
    let third = rows (along_rows r (along_rows r f)) second in
    let fourth = columns (along_rows r (along_rows r (along_rows r f))) third in
    let fifth = columns (along_columns r (along_rows r (along_rows r (along_rows r f)))) fourth in
    columns (along_columns r (along_columns r (along_rows r (along_rows r (along_rows r f))))) fifth

pub mask_bytes : (key : MaskKey) (r : RegionValue) (x y : ℤ) → value_at (mask_of_region key r) x y ≤ 255
mask_bytes key r =
    let plain : MaskValue = covered_mask key.px key.py r in
    let soft : MaskValue = softened_mask key.edges plain in
    let count : ℤ → ℤ → ℕ = λ x y. samples_of (member r.top r.rows) key.px key.py x y in
    let first = mask_in_most (box_within max_covered (λ x y. ltb 0 (count x y))) (λ x y. coverage_byte (count x y)) (λ x y. byte_most (count x y) (samples_most (member r.top r.rows) key.px key.py x y)) in
    let second = mask_in_most (grown_box key.edges plain) (softened key.edges (value_at plain)) (softened_most key.edges (value_at plain) first) in
    mask_in_most (grown_box (3 * key.blur) soft) (blurred key.blur (value_at soft)) (blurred_most key.blur (value_at soft) second)

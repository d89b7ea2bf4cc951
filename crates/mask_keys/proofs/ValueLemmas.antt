-- Masks by their relations are the masks of the functions.
use Rattle.std.proofs.Common.{◌≡◌, ℕ, ◌+◌, ◌<◌, ◌≤◌, Bool, true, ◌&&◌, ℤ, pos, ◌+ℤ◌, ◌-ℤ◌, List, Any, min, sum_by, ltb, int_le, int_lt, ap, ◌∙◌, arith}
use Rattle.std.specs.List.{list_any}
use Rattle.std.proofs.lemmas.Int.{ints}
use Rattle.std.proofs.lemmas.Bool.{and_parts, and_from, ltb-true, lt-ltb}
use Rattle.std.proofs.lemmas.List.Folds.{Any-from_list_any, list_any-from_Any}
use Rattle.ass_num.specs.Coverage.{PixelBox, box_of, InBox, IsLeastBox, IsCover, IsSum, IsMovedPixel, samples_of, coverage_byte, moved_value}
use Rattle.ass_num.specs.Limits.{IsMaskWithin}
use Rattle.ass_num.specs.Masks.{MaskValue, is_mask, value_at}
use Rattle.ass_num.specs.Regions.{RegionValue, member}
use Rattle.ass_num.proofs.OrderLemmas.{lt_true, le_true, lt_is, le_is}
use Rattle.mask_blur.specs.Blur.{blurred, IsBlurred}
use Rattle.mask_blur.specs.Softening.{softened, IsSoftened}
use Rattle.mask_keys.specs.Boxes.{box_within, mask_in}
use Rattle.mask_keys.specs.Masks.{covered_mask, softened_mask, blurred_mask, summed_mask, is_in_box, is_in_moved, max_covered, max_summed}
use Rattle.mask_keys.proofs.BoxLemmas.{IsLeastOf, IsBoxNear, box_within-is}
use Rattle.mask_keys.proofs.MaskLemmas.{mask_in-is, mask_proper}

-- a mask so near to 0 and so small has all its pixels near to 0
near_box : (corner side limit : ℕ) (m : MaskValue) → corner + side ≤ limit → IsMaskWithin corner side m → IsBoxNear limit (box_of m)
near_box corner side limit m l within =
    let x0 = within.x.0 in
    let x1 = within.x.1 in
    let y0 = within.y.0 in
    let y1 = within.y.1 in
    let w = within.w in
    let h = within.h in
    record { left = omega (arith, ints); right = omega (arith, ints); top = omega (arith, ints); bottom = omega (arith, ints) }

-- the least box by a fact that a test decides
least_of : (P : ℤ → ℤ → Type 0) (passes : ℤ → ℤ → Bool) (b : PixelBox) → ((i j : ℤ) → passes i j ≡ true → P i j) → ((i j : ℤ) → P i j → passes i j ≡ true) → IsLeastBox P b → IsLeastOf passes b
least_of P passes b there back is = record {
  has = λ i j h. is.has i j (there i j h);
  least = λ other held. is.least other (λ i j h. held i j (back i j h));
}

pub covered_is : (r : RegionValue) (px py corner side : ℕ) (m : MaskValue) → is_mask m ≡ true → IsCover (member r.top r.rows) px py m → IsMaskWithin corner side m → corner + side ≤ max_covered → m ≡ covered_mask px py r
covered_is r px py corner side m is cover within few =
    let count : ℤ → ℤ → ℕ = λ x y. samples_of (member r.top r.rows) px py x y in
    let passes : ℤ → ℤ → Bool = λ x y. ltb 0 (count x y) in
    let box : box_of m ≡ box_within max_covered passes =
    box_within-is max_covered passes (box_of m)
    (least_of (λ x y. 0 < count x y) passes (box_of m) (λ i j h. ltb-true 0 (count i j) h) (λ i j h. lt-ltb 0 (count i j) h) cover.box)
    (near_box corner side max_covered m few within) (mask_proper m is) in
    mask_in-is m (λ x y. coverage_byte (count x y)) is cover.value ∙ ap (λ b. mask_in b (λ x y. coverage_byte (count x y))) box

pub softened_is : (n : ℕ) (m result : MaskValue) → is_mask result ≡ true → IsSoftened n m result → result ≡ softened_mask n m
softened_is n m result is soft = mask_in-is result (softened n (value_at m)) is soft.value ∙ ap (λ b. mask_in b (softened n (value_at m))) soft.box

pub blurred_is : (r : ℕ) (m result : MaskValue) → is_mask result ≡ true → IsBlurred r m result → result ≡ blurred_mask r m
blurred_is r m result is blur = mask_in-is result (blurred r (value_at m)) is blur.value ∙ ap (λ b. mask_in b (blurred r (value_at m))) blur.box

-- ---- sums

pub in_box_true : (b : PixelBox) (i j : ℤ) → InBox b i j → is_in_box b i j ≡ true
in_box_true b i j h =
    and_from (int_le b.x i && int_lt i (b.x +ℤ pos b.w)) (int_le b.y j && int_lt j (b.y +ℤ pos b.h))
    (and_from (int_le b.x i) (int_lt i (b.x +ℤ pos b.w)) (le_true b.x i h.left) (lt_true i (b.x +ℤ pos b.w) h.right))
    (and_from (int_le b.y j) (int_lt j (b.y +ℤ pos b.h)) (le_true b.y j h.top) (lt_true j (b.y +ℤ pos b.h) h.bottom))

pub in_box_is : (b : PixelBox) (i j : ℤ) → is_in_box b i j ≡ true → InBox b i j
in_box_is b i j h =
    let p = and_parts (int_le b.x i && int_lt i (b.x +ℤ pos b.w)) (int_le b.y j && int_lt j (b.y +ℤ pos b.h)) h in
    let x = and_parts (int_le b.x i) (int_lt i (b.x +ℤ pos b.w)) p.0 in
    let y = and_parts (int_le b.y j) (int_lt j (b.y +ℤ pos b.h)) p.1 in
    record { left = le_is b.x i x.0; right = lt_is i (b.x +ℤ pos b.w) x.1; top = le_is b.y j y.0; bottom = lt_is j (b.y +ℤ pos b.h) y.1 }

pub Any_weaker : {X : Type 0} (P Q : X → Type 0) (xs : List X) → ((x : X) → P x → Q x) → Any P xs → Any Q xs
Any_weaker P Q xs f h = (h.0, h.1, h.2, h.3, f h.1 h.4)

pub summed_is : (parts : List (MaskValue × ℤ × ℤ)) (corner side : ℕ) (m : MaskValue) → is_mask m ≡ true → IsSum parts m → IsMaskWithin corner side m → corner + side ≤ max_summed → m ≡ summed_mask parts
summed_is parts corner side m is sum within few =
    let value : ℤ → ℤ → ℕ = λ x y. min 255 (sum_by (λ p. moved_value p x y) parts) in
    let passes : ℤ → ℤ → Bool = λ x y. list_any (is_in_moved x y) parts in
    let box : box_of m ≡ box_within max_summed passes =
    box_within-is max_summed passes (box_of m)
    (least_of (λ x y. Any (λ p. IsMovedPixel p x y) parts) passes (box_of m)
    (λ i j h. Any_weaker (λ p. is_in_moved i j p ≡ true) (λ p. IsMovedPixel p i j) parts (λ p e. in_box_is (box_of p.0) (i -ℤ p.1) (j -ℤ p.2) e) (Any-from_list_any (is_in_moved i j) parts h))
    (λ i j h. list_any-from_Any (is_in_moved i j) parts (Any_weaker (λ p. IsMovedPixel p i j) (λ p. is_in_moved i j p ≡ true) parts (λ p e. in_box_true (box_of p.0) (i -ℤ p.1) (j -ℤ p.2) e) h))
    sum.box)
    (near_box corner side max_summed m few within) (mask_proper m is) in
    mask_in-is m value is sum.value ∙ ap (λ b. mask_in b value) box

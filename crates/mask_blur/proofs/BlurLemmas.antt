-- Blurred masks.
use Rattle.std.proofs.Common.{◌≡◌, ℕ, ◌*◌, ℤ, pos, ◌+ℤ◌, ◌-ℤ◌, true, ap, sym, ◌∙◌, arith}
use Rattle.std.proofs.lemmas.Int.{ints}
use Rattle.ass_num.specs.Coverage.{sum_from}
use Rattle.ass_num.specs.Masks.{MaskValue, is_mask, value_at}
use Rattle.mask_blur.specs.Blur.{smoothed, along_rows, along_columns, blurred, IsBlurred}
use Rattle.mask_blur.proofs.GrowthLemmas.{value_none, mask_none, box_kept, box_same}
use Rattle.mask_blur.proofs.LineLemmas.{smoothed_zero}

blurred_zero : (r : ℕ) (f : ℤ → ℤ → ℕ) → ((x y : ℤ) → f x y ≡ 0) → (x y : ℤ) → blurred r f x y ≡ 0
unfolding blurred
blurred_zero r f none =
    let rows = λ (g : ℤ → ℤ → ℕ) (zeros : (x y : ℤ) → g x y ≡ 0) (x y : ℤ).
    let here : along_rows r g x y ≡ 0 = smoothed_zero r (λ i. g i y) x (λ k h. zeros ((x -ℤ pos r) +ℤ pos k) y) in here in
    let columns = λ (g : ℤ → ℤ → ℕ) (zeros : (x y : ℤ) → g x y ≡ 0) (x y : ℤ).
    let here : along_columns r g x y ≡ 0 = smoothed_zero r (g x) y (λ k h. zeros x ((y -ℤ pos r) +ℤ pos k)) in here in
    let along = along_rows r (along_rows r (along_rows r f)) in
    columns (along_columns r (along_columns r along)) (columns (along_columns r along) (columns along (rows (along_rows r (along_rows r f)) (rows (along_rows r f) (rows f none)))))

-- the mean of a value alone
smoothed_alone : (f : ℤ → ℕ) (i : ℤ) → smoothed 0 f i ≡ f i
unfolding sum_from
smoothed_alone f i = let here : (i +ℤ pos 0) +ℤ pos 0 ≡ i = omega (arith, ints) in omega (arith, ap f here)

blurred_alone : (f : ℤ → ℤ → ℕ) (x y : ℤ) → blurred 0 f x y ≡ f x y
unfolding blurred
blurred_alone f x y =
    let rows = λ (g : ℤ → ℤ → ℕ). let here : along_rows 0 g x y ≡ g x y = smoothed_alone (λ i. g i y) x in here in
    let columns = λ (g : ℤ → ℤ → ℕ). let here : along_columns 0 g x y ≡ g x y = smoothed_alone (g x) y in here in
    let along = along_rows 0 (along_rows 0 (along_rows 0 f)) in
    columns (along_columns 0 (along_columns 0 along)) ∙ columns (along_columns 0 along) ∙ columns along ∙ rows (along_rows 0 (along_rows 0 f)) ∙ rows (along_rows 0 f) ∙ rows f

-- a mask without pixels stays
pub none_blurred : (r : ℕ) (m : MaskValue) → is_mask m ≡ true → m.w ≡ 0 → IsBlurred r m m
none_blurred r m canonical narrow = record {
  value = λ x y. value_none m narrow x y ∙ sym (blurred_zero r (value_at m) (value_none m narrow) x y);
  box = box_kept (3 * r) m (mask_none m canonical narrow);
}

-- and so does any with the radius 0
pub same_blurred : (r : ℕ) (m : MaskValue) → r ≡ 0 → IsBlurred r m m
same_blurred r m none = rw none (record { value = λ x y. sym (blurred_alone (value_at m) x y); box = box_same m })

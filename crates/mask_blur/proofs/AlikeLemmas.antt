-- Pictures that are alike, softened and blurred, and the one mask of a picture.
use Rattle.std.proofs.Common.{◌≡◌, ℕ, zero, suc, ◌+◌, ◌*◌, true, ℤ, pos, ◌+ℤ◌, ◌-ℤ◌, refl, sym, ap, ◌∙◌}
use Rattle.ass_num.specs.Masks.{MaskValue, is_mask}
use Rattle.ass_num.proofs.MaskLemmas.{one_mask}
use Rattle.ass_num.proofs.SumLemmas.{sum_from-same}
use Rattle.mask_blur.specs.Blur.{mean, smoothed, along_rows, along_columns, blurred, IsBlurred}
use Rattle.mask_blur.specs.Softening.{softer, softened, IsSoftened}

abbrev Alike : (ℤ → ℤ → ℕ) → (ℤ → ℤ → ℕ) → Type 0
Alike f g = (x y : ℤ) → f x y ≡ g x y

softer-along : (f g : ℤ → ℤ → ℕ) → Alike f g → Alike (softer f) (softer g)
softer-along f g h x y = rw (h (x -ℤ pos 1) (y -ℤ pos 1), h x (y -ℤ pos 1), h (x +ℤ pos 1) (y -ℤ pos 1), h (x -ℤ pos 1) y, h x y, h (x +ℤ pos 1) y, h (x -ℤ pos 1) (y +ℤ pos 1), h x (y +ℤ pos 1), h (x +ℤ pos 1) (y +ℤ pos 1)) refl

pub softened-along : (n : ℕ) (f g : ℤ → ℤ → ℕ) → Alike f g → Alike (softened n f) (softened n g)
unfolding softened
softened-along zero f g h = h
softened-along (suc n) f g h = softer-along (softened n f) (softened n g) (softened-along n f g h)

smoothed-along : (r : ℕ) (f g : ℤ → ℕ) → ((i : ℤ) → f i ≡ g i) → (i : ℤ) → smoothed r f i ≡ smoothed r g i
smoothed-along r f g h i = ap (mean r) (sum_from-same f g (i -ℤ pos r) (i -ℤ pos r) (2 * r + 1) (λ k less. h ((i -ℤ pos r) +ℤ pos k)))

rows-along : (r : ℕ) (f g : ℤ → ℤ → ℕ) → Alike f g → Alike (along_rows r f) (along_rows r g)
rows-along r f g h x y = smoothed-along r (λ i. f i y) (λ i. g i y) (λ i. h i y) x

columns-along : (r : ℕ) (f g : ℤ → ℤ → ℕ) → Alike f g → Alike (along_columns r f) (along_columns r g)
columns-along r f g h x y = smoothed-along r (λ j. f x j) (λ j. g x j) (λ j. h x j) y

rows_thrice : (r : ℕ) (f g : ℤ → ℤ → ℕ) → Alike f g → Alike (along_rows r (along_rows r (along_rows r f))) (along_rows r (along_rows r (along_rows r g)))
rows_thrice r f g h = rows-along r (along_rows r (along_rows r f)) (along_rows r (along_rows r g)) (rows-along r (along_rows r f) (along_rows r g) (rows-along r f g h))

columns_thrice : (r : ℕ) (f g : ℤ → ℤ → ℕ) → Alike f g → Alike (along_columns r (along_columns r (along_columns r f))) (along_columns r (along_columns r (along_columns r g)))
columns_thrice r f g h = columns-along r (along_columns r (along_columns r f)) (along_columns r (along_columns r g)) (columns-along r (along_columns r f) (along_columns r g) (columns-along r f g h))

pub blurred-along : (r : ℕ) (f g : ℤ → ℤ → ℕ) → Alike f g → Alike (blurred r f) (blurred r g)
unfolding blurred
blurred-along r f g h = columns_thrice r (along_rows r (along_rows r (along_rows r f))) (along_rows r (along_rows r (along_rows r g))) (rows_thrice r f g h)

pub one_softened : (n : ℕ) (m a b : MaskValue) → is_mask a ≡ true → is_mask b ≡ true → IsSoftened n m a → IsSoftened n m b → a ≡ b
one_softened n m a b first second f g = one_mask a b first second (f.box ∙ sym g.box) (λ x y. f.value x y ∙ sym (g.value x y))

pub one_blurred : (r : ℕ) (m a b : MaskValue) → is_mask a ≡ true → is_mask b ≡ true → IsBlurred r m a → IsBlurred r m b → a ≡ b
one_blurred r m a b first second f g = one_mask a b first second (f.box ∙ sym g.box) (λ x y. f.value x y ∙ sym (g.value x y))

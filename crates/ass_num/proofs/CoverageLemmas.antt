-- Sums of samples under tests that agree, and masks of the same samples.
use Rattle.std.proofs.Common.{◌≡◌, ℕ, Bool, if◌then◌else◌, true, ℤ, pos, ◌+ℤ◌, List, sym, ap, ◌∙◌, arith}
use Rattle.ass_num.specs.Coverage.{sum_from, first_sample, counted, samples_of, coverage_byte, box_of, IsCover, IsSum}
use Rattle.ass_num.specs.Masks.{MaskValue, is_mask}
use Rattle.ass_num.proofs.SumLemmas.{sum_from-same}
use Rattle.ass_num.proofs.MaskLemmas.{one_box, one_mask}

pub samples_of-along : (p q : ℤ → ℤ → Bool) → ((i j : ℤ) → p i j ≡ q i j) → (px py : ℕ) (x y : ℤ) → samples_of p px py x y ≡ samples_of q px py x y
unfolding samples_of
samples_of-along p q same px py x y =
    sum_from-same (λ j. sum_from (λ i. counted p i j) (first_sample px x) 16) (λ j. sum_from (λ i. counted q i j) (first_sample px x) 16) (first_sample py y) (first_sample py y) 16
    (λ b less. row (first_sample py y +ℤ pos b))
  where
    row : (j : ℤ) → sum_from (λ i. counted p i j) (first_sample px x) 16 ≡ sum_from (λ i. counted q i j) (first_sample px x) 16
    row j = sum_from-same (λ i. counted p i j) (λ i. counted q i j) (first_sample px x) (first_sample px x) 16 (λ a less. ap (λ (s : Bool). if s then 1 else 0) (same (first_sample px x +ℤ pos a) j))

pub IsCover-along : (p q : ℤ → ℤ → Bool) → ((i j : ℤ) → p i j ≡ q i j) → (px py : ℕ) (m : MaskValue) → IsCover p px py m → IsCover q px py m
IsCover-along p q same px py m cover = record {
  value = λ x y. cover.value x y ∙ ap coverage_byte (samples_of-along p q same px py x y);
  box = record {
    has = λ x y some. cover.box.has x y (let e = samples_of-along p q same px py x y in omega (arith, some, e));
    least = λ other has. cover.box.least other (λ x y some. has x y (let e = samples_of-along p q same px py x y in omega (arith, some, e)));
  };
}

pub one_cover : (has : ℤ → ℤ → Bool) (px py : ℕ) (a b : MaskValue) → is_mask a ≡ true → is_mask b ≡ true → IsCover has px py a → IsCover has px py b → a ≡ b
one_cover has px py a b first second f g =
    one_mask a b first second (one_box a b first second (f.box.least (box_of b) g.box.has) (g.box.least (box_of a) f.box.has)) (λ x y. f.value x y ∙ sym (g.value x y))

pub one_sum : (parts : List (MaskValue × ℤ × ℤ)) (a b : MaskValue) → is_mask a ≡ true → is_mask b ≡ true → IsSum parts a → IsSum parts b → a ≡ b
one_sum parts a b first second f g =
    one_mask a b first second (one_box a b first second (f.box.least (box_of b) g.box.has) (g.box.least (box_of a) f.box.has)) (λ x y. f.value x y ∙ sym (g.value x y))

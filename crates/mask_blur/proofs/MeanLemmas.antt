-- Means by one multiplication.
use Rattle.std.proofs.Common.{◌≡◌, ℕ, ◌+◌, ◌-◌, ◌*◌, ◌/◌, ◌%◌, ◌^◌, ◌<◌, ◌≤◌, ◌⊎◌, Bool, true, ◌&&◌, leb, ltb, ap, refl, ◌∙◌, arith, inl, inr}
use Rattle.std.proofs.lemmas.Nat.{mul-le, mod_below, div-add-mod', div-mul-add}
use Rattle.std.proofs.lemmas.Bool.{cases_lt, and_parts, cond-true, cond-false, lt-ltb, le-ltb, leb-true, ltb-true, agree_below, agree_below_at}
use Rattle.mask_blur.specs.Blur.{mean}
use Rattle.mask_blur.specs.Scales.{mean_shift, mean_factor}

-- a quotient by the two facts that fix it
quotient_is : (n d q t : ℕ) → n ≡ q * d + t → t < d → n / d ≡ q
quotient_is n d q t is rest = rw is (div-mul-add q d t rest)

-- a quotient by d is the same quotient of the product with p over d, rounded up, where that is little too much
scaled : (n d m q t e p : ℕ) → n ≡ q * d + t → t < d → d * m ≡ p + e → 256 * e < m → q ≤ 255 → (q * p ≤ n * m) × (n * m < q * p + p)
scaled n d m q t e p n_is rest product little small =
    let split : n * m ≡ (q * d + t) * m = ap (λ z. z * m) n_is in
    let whole : q * (d * m) ≡ q * (p + e) = ap (λ z. q * z) product in
    let part : (t + 1) * m ≤ d * m = mul-le (t + 1) m d m (omega arith) (omega arith) in
    let error : q * e ≤ 255 * e = mul-le q e 255 e small (omega arith) in
    (omega arith, omega arith)

pub mean-zero : (r : ℕ) → mean r 0 ≡ 0
mean-zero r = quotient_is (0 + r) (2 * r + 1) 0 r (omega arith) (omega arith)

pub quotient_below : (r n : ℕ) → n < 256 * (2 * r + 1) → n / (2 * r + 1) ≤ 255
quotient_below r n h = below (div-add-mod' n (2 * r + 1)) (cases_lt 255 (n / (2 * r + 1)))
  where
    below : n / (2 * r + 1) * (2 * r + 1) + n % (2 * r + 1) ≡ n → (255 < n / (2 * r + 1)) ⊎ (n / (2 * r + 1) ≤ 255) → n / (2 * r + 1) ≤ 255
    below split (inl above) = let more : 256 * (2 * r + 1) ≤ n / (2 * r + 1) * (2 * r + 1) = mul-le 256 (2 * r + 1) (n / (2 * r + 1)) (2 * r + 1) (omega arith) (omega arith) in absurd (omega arith)
    below split (inr fine) = fine

-- the factor has 16 bits, and is little too much
abbrev is_fine : ℕ → Bool
is_fine k =
    let r = k + 1 in
    let p = 2 ^ (16 + mean_shift r) in
    let m = mean_factor r in
    leb p ((2 * r + 1) * m) && (ltb (256 * ((2 * r + 1) * m - p)) m && ltb m 65536)

all_fine : agree_below is_fine (λ _. true) 100 ≡ true
all_fine = refl

pub factor_fine : (r : ℕ) → 0 < r → r ≤ 100
    → (2 ^ (16 + mean_shift r) ≤ (2 * r + 1) * mean_factor r) × (256 * ((2 * r + 1) * mean_factor r - 2 ^ (16 + mean_shift r)) < mean_factor r) × (mean_factor r < 65536)
factor_fine r some small =
    let same : r - 1 + 1 ≡ r = omega arith in
    let fine = agree_below_at is_fine (λ _. true) 100 (r - 1) all_fine (omega arith) in
    let p = 2 ^ (16 + mean_shift (r - 1 + 1)) in
    let m = mean_factor (r - 1 + 1) in
    let d = 2 * (r - 1 + 1) + 1 in
    let first = and_parts (leb p (d * m)) (ltb (256 * (d * m - p)) m && ltb m 65536) fine in
    let second = and_parts (ltb (256 * (d * m - p)) m) (ltb m 65536) first.1 in
    let parts : (p ≤ d * m) × (256 * (d * m - p) < m) × (m < 65536) = (leb-true p (d * m) first.0, ltb-true (256 * (d * m - p)) m second.0, ltb-true m 65536 second.1) in
    rw same at parts

pub quotient_scaled : (r n : ℕ) → 0 < r → r ≤ 100 → n < 256 * (2 * r + 1)
    → (n / (2 * r + 1) * 2 ^ (16 + mean_shift r) ≤ n * mean_factor r) × (n * mean_factor r < n / (2 * r + 1) * 2 ^ (16 + mean_shift r) + 2 ^ (16 + mean_shift r))
quotient_scaled r n some small most =
    let d = 2 * r + 1 in
    let m = mean_factor r in
    let p = 2 ^ (16 + mean_shift r) in
    let fine = factor_fine r some small in
    let split : n / d * d + n % d ≡ n = div-add-mod' n d in
    let rest : n % d < d = mod_below n d (omega arith) in
    let low = quotient_below r n most in
    scaled n d m (n / d) (n % d) (d * m - p) p (omega (arith, split)) rest (omega (arith, fine.0)) fine.1 low

shift_cases : (r : ℕ) → (mean_shift r ≡ 1) ⊎ ((mean_shift r ≡ 4) ⊎ ((mean_shift r ≡ 6) ⊎ (mean_shift r ≡ 7)))
shift_cases r = elim (cases_lt r 15) [
  | inl a ↦ inl (cond-true (ltb r 15) 1 _ (lt-ltb r 15 a))
  | inr b ↦ elim (cases_lt r 36) [
    | inl c ↦ inr (inl (cond-false (ltb r 15) 1 _ (le-ltb r 15 b) ∙ cond-true (ltb r 36) 4 _ (lt-ltb r 36 c)))
    | inr d ↦ elim (cases_lt r 77) [
      | inl e ↦ inr (inr (inl (cond-false (ltb r 15) 1 _ (le-ltb r 15 b) ∙ (cond-false (ltb r 36) 4 _ (le-ltb r 36 d) ∙ cond-true (ltb r 77) 6 7 (lt-ltb r 77 e)))))
      | inr f ↦ inr (inr (inr (cond-false (ltb r 15) 1 _ (le-ltb r 15 b) ∙ (cond-false (ltb r 36) 4 _ (le-ltb r 36 d) ∙ cond-false (ltb r 77) 6 7 (le-ltb r 77 f)))))
    ]
  ]
]

pub shift_most : (r : ℕ) → mean_shift r ≤ 7
shift_most r = elim (shift_cases r) [
  | inl a ↦ omega (arith, a)
  | inr (inl b) ↦ omega (arith, b)
  | inr (inr (inl c)) ↦ omega (arith, c)
  | inr (inr (inr d)) ↦ omega (arith, d)
]

shifted_by : (s q n : ℕ) → (s ≡ 1) ⊎ ((s ≡ 4) ⊎ ((s ≡ 6) ⊎ (s ≡ 7))) → q * 2 ^ (16 + s) ≤ n → n < q * 2 ^ (16 + s) + 2 ^ (16 + s) → n / 65536 / 2 ^ s ≡ q
shifted_by s q n (inl a) low high = rw a (omega (arith, rw a at low, rw a at high))
shifted_by s q n (inr (inl b)) low high = rw b (omega (arith, rw b at low, rw b at high))
shifted_by s q n (inr (inr (inl c))) low high = rw c (omega (arith, rw c at low, rw c at high))
shifted_by s q n (inr (inr (inr d))) low high = rw d (omega (arith, rw d at low, rw d at high))

-- the product, shifted, is the quotient
pub quotient_shifted : (r n : ℕ) → 0 < r → r ≤ 100 → n < 256 * (2 * r + 1) → n * mean_factor r / 65536 / 2 ^ mean_shift r ≡ n / (2 * r + 1)
quotient_shifted r n some small most =
    let both = quotient_scaled r n some small most in
    shifted_by (mean_shift r) (n / (2 * r + 1)) (n * mean_factor r) (shift_cases r) both.0 both.1

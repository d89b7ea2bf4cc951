-- The number that digits say, digit by digit and in parts.
use Rattle.std.proofs.Common.{◌≡◌, ℕ, zero, suc, ◌+◌, ◌*◌, ◌/◌, ◌%◌, ◌^◌, ◌<◌, ◌≤◌, min, true, ltb, List, [], ◌∷◌, ◌++◌, length, get_or, take, sym, ap, ◌∙◌, arith, length-append}
use Rattle.std.proofs.lemmas.List.{take_more}
use Rattle.std.proofs.lemmas.List.Elements.{All-head, All-tail}
use Rattle.std.proofs.lemmas.Bool.Decides.{nat_tests}
use Rattle.std.proofs.lemmas.Nat.{pow-add, mul-mod_first}
use Rattle.std.proofs.Math.Nat.{pow-suc, pow-zero, one-le-pow, mod-add-mod, div-div-eq-div-mul, mul-div-mul_right, div-eq_of_lt, mul-le-mul_left}
use Rattle.std.specs.Char.{digit_value}
use Rattle.std.specs.List.{AllPass}
use Rattle.ass_num.specs.Numerals.{is_decimal, number_of}

-- two groups of digits, the first before the second
part : (d p q r n m : ℕ) → p ≡ q * r → d * p + (n * r + m) ≡ (d * q + n) * r + m
part d p q r n m e = omega (arith, ap (λ z. d * z) e)

pub number_of-append : (base : ℕ) (xs ys : List ℕ) → number_of base (xs ++ ys) ≡ number_of base xs * base ^ length ys + number_of base ys
number_of-append base [] ys = omega arith
number_of-append base (x ∷ xs) ys =
    let split : base ^ length (xs ++ ys) ≡ base ^ length xs * base ^ length ys = rw length-append (pow-add base (length xs) (length ys)) in
    ap (λ z. digit_value x * base ^ length (xs ++ ys) + z) (number_of-append base xs ys)
    ∙ part (digit_value x) (base ^ length (xs ++ ys)) (base ^ length xs) (base ^ length ys) (number_of base xs) (number_of base ys) split

last : (n b d : ℕ) → n * b + (d * 1 + 0) ≡ n * b + d
last n b d = omega arith

-- one digit more at the end
pub number_of_push : (base : ℕ) (xs : List ℕ) (x : ℕ) → number_of base (xs ++ x ∷ []) ≡ number_of base xs * base + digit_value x
number_of_push base xs x =
    let nought : base ^ 0 ≡ 1 = pow-zero base in
    let once : base ^ 1 ≡ base = pow-suc base 0 ∙ omega (arith, ap (λ z. z * base) nought) in
    let n = number_of base xs in
    let d = digit_value x in
    number_of-append base xs (x ∷ []) ∙ ap (λ z. n * z + (d * base ^ 0 + 0)) once ∙ ap (λ z. n * base + (d * z + 0)) nought ∙ last n base d

pub number_of_more : (base : ℕ) (xs : List ℕ) (i : ℕ) → i < length xs → number_of base (take (i + 1) xs) ≡ number_of base (take i xs) * base + digit_value (get_or xs i 0)
number_of_more base xs i inside = ap (number_of base) (take_more xs i 0 inside) ∙ number_of_push base (take i xs) (get_or xs i 0)

-- a number of so many digits is below that power of ten
pub number_of-lt : (digits : List ℕ) → AllPass is_decimal digits → number_of 10 digits < 10 ^ length digits
number_of-lt [] all = omega (arith, pow-zero 10)
number_of-lt (d ∷ ds) all =
    let rest = number_of-lt ds (All-tail (λ c. is_decimal c ≡ true) d ds all) in
    let digit : digit_value d ≤ 9 = le_nine (digit_value d) (All-head (λ c. is_decimal c ≡ true) d ds all) in
    below (digit_value d) (10 ^ length ds) (number_of 10 ds) (10 ^ suc (length ds)) digit rest (pow-suc 10 (length ds))
  where
    le_nine : (d : ℕ) → ltb d 10 ≡ true → d ≤ 9
    le_nine d passes = grind (arith, nat_tests)

    below : (d p n q : ℕ) → d ≤ 9 → n < p → q ≡ p * 10 → d * p + n < q
    below d p n q digit rest more = omega (arith, mul-le-mul_left p digit)

-- ---- a reader's steps

-- held at m, one digit more
pub min_step : (m n d : ℕ) → min (min n m * 10 + d) m ≡ min (n * 10 + d) m
min_step m n d = omega arith

-- modulo m, one digit more
pub mod_step : (m n base d : ℕ) → ((n % m * base) % m + d) % m ≡ (n * base + d) % m
mod_step m n base d = mod-add-mod (n % m * base) m d ∙ sym (mod-add-mod (n % m * base) m d) ∙ ap (λ z. (z + d) % m) (mul-mod_first n base m) ∙ mod-add-mod (n * base) m d

-- the place of the next digit
pub place_step : (i : ℕ) → 100 / 10 ^ i / 10 ≡ 100 / 10 ^ (i + 1)
place_step i = div-div-eq-div-mul 100 (10 ^ i) 10 ∙ ap (λ z. 100 / z) (sym (pow-add 10 i 1))

-- the thousandths with one digit more
pub thousandths_step : (n d i : ℕ) → d < 10 → n * 1000 / 10 ^ i + d * (100 / 10 ^ i) ≡ (n * 10 + d) * 1000 / 10 ^ (i + 1)
thousandths_step n d zero small = omega arith
thousandths_step n d (suc zero) small = omega arith
thousandths_step n d (suc (suc zero)) small = omega arith
thousandths_step n d (suc (suc (suc i))) small =
    let k = 10 ^ i in
    let positive : 0 < k = one-le-pow i 10 (omega arith) in
    let here : 10 ^ suc (suc (suc i)) ≡ k * 1000 = omega (arith, pow-suc 10 i, pow-suc 10 (suc i), pow-suc 10 (suc (suc i))) in
    let next : 10 ^ (suc (suc (suc i)) + 1) ≡ 10 * k * 1000 = omega (arith, here, pow-add 10 (suc (suc (suc i))) 1) in
    let first : n * 1000 / 10 ^ suc (suc (suc i)) ≡ n / k = ap (λ z. n * 1000 / z) here ∙ mul-div-mul_right n k (omega arith) in
    let second : 100 / 10 ^ suc (suc (suc i)) ≡ 0 = div-eq_of_lt (omega (arith, here)) in
    let third : (n * 10 + d) * 1000 / 10 ^ (suc (suc (suc i)) + 1) ≡ n / k =
    ap (λ z. (n * 10 + d) * 1000 / z) next ∙ mul-div-mul_right (n * 10 + d) (10 * k) (omega arith)
    ∙ sym (div-div-eq-div-mul (n * 10 + d) 10 k) ∙ ap (λ z. z / k) (omega arith) in
    omega (arith, first, third, ap (λ z. d * z) second)

-- the digits behind the point leave room for those that follow
pub room_step : (t place d : ℕ) → t + place * 10 ≤ 1000 → d < 10 → (t + d * place ≤ 1000) × (t + d * place + place / 10 * 10 ≤ 1000)
room_step t place d room small =
    let most = mul-le-mul_left place (le_nine d small) in
    (omega (arith, most), omega (arith, most))
  where
    le_nine : (d : ℕ) → d < 10 → d ≤ 9
    le_nine d small = omega arith

-- ---- the same at a place of a text

pub mod_more : (base : ℕ) (xs : List ℕ) (i number digit m : ℕ) → i < length xs → number ≡ number_of base (take i xs) % m → digit ≡ digit_value (get_or xs i 0) → (number * base % m + digit) % m ≡ number_of base (take (i + 1) xs) % m
mod_more base xs i number digit m inside so_far says =
    let n = number_of base (take i xs) in
    ap (λ z. (z * base % m + digit) % m) so_far ∙ mod_step m n base digit
    ∙ ap (λ z. (n * base + z) % m) says ∙ ap (λ z. z % m) (sym (number_of_more base xs i inside))

pub thousandths_more : (xs : List ℕ) (i t place digit : ℕ) → i < length xs → t ≡ number_of 10 (take i xs) * 1000 / 10 ^ i → place ≡ 100 / 10 ^ i → digit ≡ digit_value (get_or xs i 0) → digit < 10 → t + digit * place ≡ number_of 10 (take (i + 1) xs) * 1000 / 10 ^ (i + 1)
thousandths_more xs i t place digit inside so_far at says small =
    let n = number_of 10 (take i xs) in
    ap (λ z. z + digit * place) so_far ∙ ap (λ z. n * 1000 / 10 ^ i + digit * z) at ∙ thousandths_step n digit i small
    ∙ ap (λ z. (n * 10 + z) * 1000 / 10 ^ (i + 1)) says ∙ ap (λ z. z * 1000 / 10 ^ (i + 1)) (sym (number_of_more 10 xs i inside))

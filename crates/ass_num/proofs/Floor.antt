-- What formulas need of the floor division and of holding.
use Rattle.std.proofs.Common.{◌≡◌, ℕ, ◌+◌, ◌-◌, ◌*◌, ◌/◌, ◌%◌, ◌<◌, ◌≤◌, ℤ, pos, negsuc, ◌+ℤ◌, ◌*ℤ◌, ◌<ℤ◌, ◌≤ℤ◌, refl, sym, ap, subst, arith}
use Rattle.std.proofs.lemmas.Int.{ints, clamps, by_lt_z, int_rem_euclid_is}
use Rattle.std.proofs.lemmas.Nat.{mod_below}
use borrow.Author.Differences.{up, down}
use Rattle.std.proofs.Math.Nat.{mul-le-mul_left, div-le_self, div-div-eq-div-mul, mod-add-mod}
use Rattle.std.specs.Int.{int_rem_euclid}
use Rattle.ass_num.specs.Floor.{floor_div, held}

-- ---- floor division by a positive n

-- The quotient times n isn't above what is divided.
pub floor_div-below : (a : ℤ) (n : ℕ) → 0 < n → (floor_div a (pos n) *ℤ pos n) ≤ℤ a
floor_div-below (pos a) n positive = omega (arith, ints)
floor_div-below (negsuc a) n positive = omega (arith, ints)

-- One more times n is above it.
pub floor_div-above : (a : ℤ) (n : ℕ) → 0 < n → a <ℤ ((floor_div a (pos n) *ℤ pos n) +ℤ pos n)
floor_div-above (pos a) n positive = omega (arith, ints)
floor_div-above (negsuc a) n positive = omega (arith, ints)

-- These two of any quotient and any positive divisor.
pub floor_below : (q a b : ℤ) → q ≡ floor_div a b → pos 0 <ℤ b → (q *ℤ b) ≤ℤ a
floor_below q a (pos n) is positive =
    let P : ℤ → Type 0 = λ z. (z *ℤ pos n) ≤ℤ a in
    subst P (sym is) (floor_div-below a n (omega (arith, ints)))
floor_below q a (negsuc n) is positive = absurd (omega (arith, ints))

pub floor_above : (q a b : ℤ) → q ≡ floor_div a b → pos 0 <ℤ b → a <ℤ ((q *ℤ b) +ℤ b)
floor_above q a (pos n) is positive =
    let P : ℤ → Type 0 = λ z. a <ℤ ((z *ℤ pos n) +ℤ pos n) in
    subst P (sym is) (floor_div-above a n (omega (arith, ints)))
floor_above q a (negsuc n) is positive = absurd (omega (arith, ints))

-- A greater number has a product that is greater by n.
product_above : (t q : ℤ) (n : ℕ) → t <ℤ q → ((t *ℤ pos n) +ℤ pos n) ≤ℤ (q *ℤ pos n)
product_above (pos t) (pos q) n less = let more : t + 1 ≤ q = omega (arith, ints) in omega (arith, ints, mul-le-mul_left n more)
product_above (pos t) (negsuc q) n less = absurd (omega (arith, ints))
product_above (negsuc t) (pos q) n less = omega (arith, ints)
product_above (negsuc t) (negsuc q) n less = let more : q + 1 ≤ t = omega (arith, ints) in omega (arith, ints, mul-le-mul_left n more)

-- The quotient is the greatest number whose product with n isn't above what is divided.
pub le-floor_div : (q a : ℤ) (n : ℕ) → 0 < n → (q *ℤ pos n) ≤ℤ a → q ≤ℤ floor_div a (pos n)
le-floor_div q a n positive below =
    let t = floor_div a (pos n) in
    by_lt_z t q (λ less. absurd (omega (arith, ints, product_above t q n less, floor_div-above a n positive))) (λ order. order)

pub floor_div-lt : (a q : ℤ) (n : ℕ) → 0 < n → a <ℤ (q *ℤ pos n) → floor_div a (pos n) <ℤ q
floor_div-lt a q n positive above =
    let t = floor_div a (pos n) in
    by_lt_z t q (λ less. less) (λ order. absurd (by_lt_z q t
    (λ less. omega (arith, ints, product_above q t n less, floor_div-below a n positive))
    (λ other. let same : t ≡ q = omega (arith, ints) in let h : (q *ℤ pos n) ≤ℤ a = floor_below q a (pos n) (sym same) (omega (arith, ints)) in omega (arith, ints))))

-- A bound on what is divided is a bound on the quotient.
pub floor_div-le : (a q : ℤ) (n : ℕ) → 0 < n → a ≤ℤ (q *ℤ pos n) → floor_div a (pos n) ≤ℤ q
floor_div-le a q n positive order =
    let t = floor_div a (pos n) in
    by_lt_z q t (λ less. absurd (omega (arith, ints, product_above q t n less, floor_div-below a n positive))) (λ fine. fine)

-- These two facts fix the quotient.
pub floor_div_is : (q a : ℤ) (n : ℕ) → 0 < n → (q *ℤ pos n) ≤ℤ a → a <ℤ ((q *ℤ pos n) +ℤ pos n) → floor_div a (pos n) ≡ q
floor_div_is q a n positive below above =
    let t = floor_div a (pos n) in
    let least : q ≤ℤ t = le-floor_div q a n positive below in
    let most : t ≤ℤ q = by_lt_z q t (λ less. absurd (omega (arith, ints, product_above q t n less, floor_div-below a n positive))) (λ fine. fine) in
    omega (arith, ints)

-- Division keeps the order.
pub floor_div-mono : (a b : ℤ) (n : ℕ) → 0 < n → a ≤ℤ b → floor_div a (pos n) ≤ℤ floor_div b (pos n)
floor_div-mono a b n positive order =
    le-floor_div (floor_div a (pos n)) b n positive (omega (arith, ints, floor_div-below a n positive))

-- What is divided lies between multiples of n, and the quotient between their factors.
pub floor_div_within : (least most a : ℤ) (n : ℕ) → 0 < n → (least *ℤ pos n) ≤ℤ a → a ≤ℤ (most *ℤ pos n) → (least ≤ℤ floor_div a (pos n)) × (floor_div a (pos n) ≤ℤ most)
floor_div_within least most a n positive below above = (le-floor_div least a n positive below, floor_div-le a most n positive above)

-- A product in the parts above and below 0, and the product of a sum.
product_parts : (z : ℤ) (n : ℕ) → up (z *ℤ pos n) + down z * n ≡ down (z *ℤ pos n) + up z * n
product_parts (pos z) n = omega (arith, ints)
product_parts (negsuc z) n = omega (arith, ints)

pub product-add : (s t : ℤ) (n : ℕ) → (s +ℤ t) *ℤ pos n ≡ (s *ℤ pos n) +ℤ (t *ℤ pos n)
product-add s t n =
    let parts : up (s +ℤ t) + (down s + down t) ≡ down (s +ℤ t) + (up s + up t) = omega (arith, ints) in
    omega (arith, ints, ap (λ x. x * n) parts, product_parts s n, product_parts t n, product_parts (s +ℤ t) n)

-- A multiple is divided exactly, also beside another number.
pub floor_div-add_mul : (a q : ℤ) (n : ℕ) → 0 < n → floor_div (a +ℤ (q *ℤ pos n)) (pos n) ≡ floor_div a (pos n) +ℤ q
floor_div-add_mul a q n positive =
    let t = floor_div a (pos n) in
    let split = product-add t q n in
    floor_div_is (t +ℤ q) (a +ℤ (q *ℤ pos n)) n positive
    (omega (arith, ints, split, floor_div-below a n positive)) (omega (arith, ints, split, floor_div-above a n positive))

pub floor_div-mul : (q : ℤ) (n : ℕ) → 0 < n → floor_div (q *ℤ pos n) (pos n) ≡ q
floor_div-mul q n positive = floor_div_is q (q *ℤ pos n) n positive (omega (arith, ints)) (omega (arith, ints))

pub floor_div-zero : (n : ℕ) → 0 < n → floor_div (pos 0) (pos n) ≡ pos 0
floor_div-zero n positive = floor_div_is (pos 0) (pos 0) n positive (omega (arith, ints)) (omega (arith, ints))

pub floor_div-one : (a : ℤ) → floor_div a (pos 1) ≡ a
floor_div-one a = floor_div_is a a 1 (omega arith) (omega (arith, ints)) (omega (arith, ints))

-- Of natural numbers it is their division.
pub floor_div-pos : (a n : ℕ) → floor_div (pos a) (pos n) ≡ pos (a / n)
floor_div-pos a n = refl

-- The sign stays, and the quotient is no farther from 0.
pub floor_div_nonnegative : (a : ℤ) (n : ℕ) → 0 < n → pos 0 ≤ℤ a → (pos 0 ≤ℤ floor_div a (pos n)) × (floor_div a (pos n) ≤ℤ a)
floor_div_nonnegative (pos a) n positive order = (omega (arith, ints), omega (arith, ints, div-le_self a n))
floor_div_nonnegative (negsuc a) n positive order = absurd (omega (arith, ints))

pub floor_div_negative : (a : ℤ) (n : ℕ) → 0 < n → a <ℤ pos 0 → (floor_div a (pos n) <ℤ pos 0) × (a ≤ℤ floor_div a (pos n))
floor_div_negative (pos a) n positive order = absurd (omega (arith, ints))
floor_div_negative (negsuc a) n positive order = (omega (arith, ints), omega (arith, ints, div-le_self a n))

-- Two divisions are one by the product.
pub floor_div-floor_div : (a : ℤ) (m n : ℕ) → 0 < m → 0 < n → floor_div (floor_div a (pos m)) (pos n) ≡ floor_div a (pos (m * n))
floor_div-floor_div (pos a) m n first second = ap pos (div-div-eq-div-mul a m n)
floor_div-floor_div (negsuc a) m n first second = ap negsuc (div-div-eq-div-mul a m n)

-- ---- holding within a range

pub held_same : (least most x : ℤ) → least ≤ℤ x → x ≤ℤ most → held least most x ≡ x
held_same least most x lower upper = omega (arith, ints, clamps)

pub held_below : (least most x : ℤ) → least ≤ℤ most → x ≤ℤ least → held least most x ≡ least
held_below least most x range below = omega (arith, ints, clamps)

pub held_above : (least most x : ℤ) → least ≤ℤ most → most ≤ℤ x → held least most x ≡ most
held_above least most x range above = omega (arith, ints, clamps)

pub held_within : (least most x : ℤ) → least ≤ℤ most → (least ≤ℤ held least most x) × (held least most x ≤ℤ most)
held_within least most x range = (omega (arith, ints, clamps), omega (arith, ints, clamps))

pub held-held : (least most x : ℤ) → least ≤ℤ most → held least most (held least most x) ≡ held least most x
held-held least most x range = omega (arith, ints, clamps)

pub held-mono : (least most x y : ℤ) → x ≤ℤ y → held least most x ≤ℤ held least most y
held-mono least most x y order = omega (arith, ints, clamps)

-- It is the nearest number of the range: it lies between x and each of them.
pub held_nearest : (least most x y : ℤ) → least ≤ℤ y → y ≤ℤ most → (x ≤ℤ y → (x ≤ℤ held least most x) × (held least most x ≤ℤ y)) × (y ≤ℤ x → (y ≤ℤ held least most x) × (held least most x ≤ℤ x))
held_nearest least most x y lower upper =
    (λ h. (omega (arith, ints, clamps), omega (arith, ints, clamps)), λ h. (omega (arith, ints, clamps), omega (arith, ints, clamps)))

-- ---- the rest of a division

-- The rest of a sum is that of the rest and the summand.
pub rest-add : (a : ℤ) (k n : ℕ) → 0 < n → int_rem_euclid (int_rem_euclid a (pos n) +ℤ pos k) (pos n) ≡ int_rem_euclid (a +ℤ pos k) (pos n)
rest-add (pos a) k n positive = ap pos (mod-add-mod a n k)
rest-add (negsuc a) k n positive =
    let below : a % n < n = mod_below a n positive in
    sym (int_rem_euclid_is (negsuc a +ℤ pos k) (pos n) n (a / n + 1) (n - 1 - a % n + k) positive refl (omega (arith, ints)))

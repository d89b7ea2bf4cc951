-- Signed products and quotients, and what a cut says of the samples.
use Rattle.std.proofs.Common.{◌≡◌, ℕ, suc, ◌+◌, ◌-◌, ◌*◌, ◌<◌, ◌≤◌, ℤ, pos, negsuc, ◌+ℤ◌, ◌-ℤ◌, ◌*ℤ◌, neg_ℤ, ◌≤ℤ◌, ◌<ℤ◌, sym, ap, ◌∙◌, arith, int_lt, unsigned_abs, mul-le-mul}
use Rattle.std.proofs.Math.Nat.{mul-le-mul_right}
use Rattle.std.proofs.lemmas.Int.{ints, by_lt_z, unsigned_abs-mul}
use Rattle.std.specs.Int.{int_div_euclid}
use Rattle.ass_num.proofs.OrderLemmas.{lt_true, lt_false}
use borrow.Author.Differences.{up, down, sum_is_lem, neg_is, product_is}

pub same_lt : (a b c d : ℤ) → (a <ℤ b → c <ℤ d) → (c <ℤ d → a <ℤ b) → int_lt a b ≡ int_lt c d
same_lt a b c d h k = grind (arith, ints)

pub unsigned_abs-parts : (z : ℤ) → unsigned_abs z ≡ up z + down z
unsigned_abs-parts (pos n) = omega arith
unsigned_abs-parts (negsuc n) = omega arith

-- the size of a number between two ends
pub abs_below : (z : ℤ) (m : ℕ) → negsuc m ≤ℤ z → z ≤ℤ pos (suc m) → unsigned_abs z ≤ suc m
abs_below (pos n) m h k = omega (arith, ints)
abs_below (negsuc n) m h k = omega (arith, ints)

pub from_abs : (z : ℤ) (m : ℕ) → unsigned_abs z ≤ suc m → (negsuc m ≤ℤ z) × (z ≤ℤ pos (suc m))
from_abs (pos n) m h = (omega (arith, ints), omega (arith, ints))
from_abs (negsuc n) m h = (omega (arith, ints), omega (arith, ints))

pub same_quotient : (a b c d : ℤ) → a ≡ b → c ≡ d → int_div_euclid a c ≡ int_div_euclid b d
same_quotient a b c d e f = cc

pub same_sum : {a b c d : ℤ} → a ≡ b → c ≡ d → (a +ℤ c -ℤ pos 1) ≡ (b +ℤ d -ℤ pos 1)
same_sum e f = cc

pub same_quotient_lt : (i : ℤ) {a b c d : ℤ} → a ≡ b → c ≡ d → int_lt i (int_div_euclid a c) ≡ int_lt i (int_div_euclid b d)
same_quotient_lt i e f = cc

-- the quotient q that rounds down has k * q ≤ a < k * q + k
int_div_euclid-parts : (a : ℤ) (k : ℕ) → 0 < k → (up (int_div_euclid a (pos k)) * k + down a ≤ down (int_div_euclid a (pos k)) * k + up a) × (down (int_div_euclid a (pos k)) * k + up a < up (int_div_euclid a (pos k)) * k + down a + k)
int_div_euclid-parts (pos a) k h = omega arith
int_div_euclid-parts (negsuc a) k h = omega arith

-- products by a number that is not negative keep the order
nat_le : (a b c d k : ℕ) → a + d ≤ b + c → a * k + d * k ≤ b * k + c * k
nat_le a b c d k h = let e : (a + d) * k ≤ (b + c) * k = mul-le-mul_right k h in omega arith

nat_lt : (a b c d k : ℕ) → a + d < b + c → a * k + d * k + k ≤ b * k + c * k
nat_lt a b c d k h = let l : a + d + 1 ≤ b + c = omega arith in let e : (a + d + 1) * k ≤ (b + c) * k = mul-le-mul_right k l in omega arith

pub mul_le : (a b : ℤ) (k : ℕ) → a ≤ℤ b → (a *ℤ pos k) ≤ℤ (b *ℤ pos k)
mul_le a b k h = let e = nat_le (up a) (up b) (down a) (down b) k (omega (arith, ints)) in omega (arith, ints)

pub mul_lt : (a b : ℤ) (k : ℕ) → a <ℤ b → (a *ℤ pos k +ℤ pos k) ≤ℤ (b *ℤ pos k)
mul_lt a b k h = let e = nat_lt (up a) (up b) (down a) (down b) k (omega (arith, ints)) in omega (arith, ints)

-- i lies below the quotient of n + 4 k - 1 by 4 k, rounded down, just where 4 k i lies below n
pub below_cut_nat : (i n : ℤ) (k : ℕ) → 0 < k → int_lt i (int_div_euclid (n +ℤ pos (4 * k) -ℤ pos 1) (pos (4 * k))) ≡ int_lt (i *ℤ pos (4 * k)) n
below_cut_nat i n k h =
    let q : ℤ = int_div_euclid (n +ℤ pos (4 * k) -ℤ pos 1) (pos (4 * k)) in
    let p = int_div_euclid-parts (n +ℤ pos (4 * k) -ℤ pos 1) (4 * k) (omega arith) in
    by_lt_z i q
    (λ (l : i <ℤ q). lt_true i q l ∙ sym (lt_true (i *ℤ pos (4 * k)) n (let e = mul_lt i q (4 * k) l in omega (arith, ints))))
    (λ (l : q ≤ℤ i). lt_false i q l ∙ sym (lt_false (i *ℤ pos (4 * k)) n (let e = mul_le q i (4 * k) l in omega (arith, ints))))

-- a product by k, part by part
pub mul_add : (a b : ℤ) (k : ℕ) → (a +ℤ b) *ℤ pos k ≡ a *ℤ pos k +ℤ b *ℤ pos k
mul_add a b k = let e = ap (λ n. n * k) (sum_is_lem a b) in omega (arith, ints, e)

mul_neg : (a : ℤ) (k : ℕ) → neg_ℤ a *ℤ pos k ≡ neg_ℤ (a *ℤ pos k)
mul_neg a k = let e = ap (λ n. n * k) (neg_is a).0 in let f = ap (λ n. n * k) (neg_is a).1 in omega (arith, ints, e, f)

mul_four : (i : ℤ) (k : ℕ) → (pos 4 *ℤ i) *ℤ pos k ≡ i *ℤ pos (4 * k)
mul_four i k = let e = ap (λ n. n * k) (product_is (pos 4) i).0 in let f = ap (λ n. n * k) (product_is (pos 4) i).1 in omega (arith, ints, e, f)

-- the same where x is the place of the edge's upper end, h its height, and v the product on the right
pub below_cut : (i x v h : ℤ) → pos 0 <ℤ h → int_lt i (int_div_euclid (v +ℤ (x +ℤ pos 2) *ℤ h -ℤ pos 1) (pos 4 *ℤ h)) ≡ int_lt ((pos 4 *ℤ i +ℤ pos 2 -ℤ x) *ℤ h) v
below_cut i x v (negsuc k) p = absurd (omega (arith, ints))
below_cut i x v (pos k) p =
    let n : ℤ = v +ℤ (x *ℤ pos k -ℤ pos (2 * k)) in
    let l : 0 < k = omega (arith, ints) in
    let a = mul_add x (pos 2) k in
    let b = mul_add (pos 4 *ℤ i +ℤ pos 2) (neg_ℤ x) k in
    let d = mul_add (pos 4 *ℤ i) (pos 2) k in
    let e : v +ℤ (x +ℤ pos 2) *ℤ pos k -ℤ pos 1 ≡ n +ℤ pos (4 * k) -ℤ pos 1 = rw a (omega (arith, ints)) in
    let f : pos 4 *ℤ pos k ≡ pos (4 * k) = omega (arith, ints) in
    let g : (pos 4 *ℤ i +ℤ pos 2 -ℤ x) *ℤ pos k ≡ i *ℤ pos (4 * k) +ℤ pos (2 * k) -ℤ x *ℤ pos k = rw (b, d, mul_neg x k, mul_four i k) (omega (arith, ints)) in
    same_quotient_lt i e f ∙ below_cut_nat i n k l ∙ rw g (same_lt (i *ℤ pos (4 * k)) n (i *ℤ pos (4 * k) +ℤ pos (2 * k) -ℤ x *ℤ pos k) v (λ w. omega (arith, ints)) (λ w. omega (arith, ints)))

-- a product of two small numbers
pub product_between : (a b : ℤ) (m n : ℕ) → negsuc m ≤ℤ a → a ≤ℤ pos (suc m) → negsuc n ≤ℤ b → b ≤ℤ pos (suc n) → unsigned_abs (a *ℤ b) ≤ suc m * suc n
product_between a b m n ha ka hb kb = rw (unsigned_abs-mul a b) (mul-le-mul (abs_below a m ha ka) (abs_below b n hb kb))

-- a product by a sum
mul_sum : (a : ℤ) (s t : ℕ) → a *ℤ pos (s + t) ≡ a *ℤ pos s +ℤ a *ℤ pos t
mul_sum (pos a) s t = omega (arith, ints)
mul_sum (negsuc a) s t = omega (arith, ints)

-- ---- a cut between points that lie within 262,144 of 0
numerator : (a b : ℤ) (s t : ℕ) → negsuc 262143 ≤ℤ a → a ≤ℤ pos 262144 → negsuc 262143 ≤ℤ b → b ≤ℤ pos 262144 → 0 < s + t
    → (((negsuc 262143 *ℤ pos (s + t)) <ℤ ((b -ℤ a) *ℤ pos t +ℤ (a +ℤ pos 2) *ℤ pos (s + t) -ℤ pos 1)) × (((b -ℤ a) *ℤ pos t +ℤ (a +ℤ pos 2) *ℤ pos (s + t) -ℤ pos 1) <ℤ (pos 262146 *ℤ pos (s + t))))
numerator a b s t la ha lb hb p =
    let c = mul_add b (neg_ℤ a) t in
    let d = mul_neg a t in
    let e = mul_add a (pos 2) (s + t) in
    let f = mul_sum a s t in
    let ha' = mul_le a (pos 262144) s ha in
    let hb' = mul_le b (pos 262144) t hb in
    let la' = mul_le (negsuc 262143) a s la in
    let lb' = mul_le (negsuc 262143) b t lb in
    (omega (arith, ints), omega (arith, ints))

quotient_within : (n : ℤ) (k : ℕ) → 0 < k → (negsuc 262143 *ℤ pos k) <ℤ n → n <ℤ (pos 262146 *ℤ pos k) → (negsuc 65535 ≤ℤ int_div_euclid n (pos (4 * k))) × (int_div_euclid n (pos (4 * k)) ≤ℤ pos 65536)
quotient_within n k p l h =
    let q : ℤ = int_div_euclid n (pos (4 * k)) in
    let f = int_div_euclid-parts n (4 * k) (omega arith) in (
      by_lt_z q (negsuc 65535) (λ (b : q <ℤ negsuc 65535). absurd (let e = mul_lt q (negsuc 65535) (4 * k) b in omega (arith, ints))) (λ (b : negsuc 65535 ≤ℤ q). b),
      by_lt_z (pos 65536) q (λ (b : pos 65536 <ℤ q). absurd (let e = mul_lt (pos 65536) q (4 * k) b in omega (arith, ints))) (λ (b : q ≤ℤ pos 65536). b),
    )

-- a and b are the places of an edge's ends, h is its height, and v how far below its upper end it is cut
pub cut_within : (a b v h : ℤ) → negsuc 262143 ≤ℤ a → a ≤ℤ pos 262144 → negsuc 262143 ≤ℤ b → b ≤ℤ pos 262144 → pos 0 ≤ℤ v → v <ℤ h
    → (negsuc 65535 ≤ℤ int_div_euclid ((b -ℤ a) *ℤ v +ℤ (a +ℤ pos 2) *ℤ h -ℤ pos 1) (pos 4 *ℤ h)) × (int_div_euclid ((b -ℤ a) *ℤ v +ℤ (a +ℤ pos 2) *ℤ h -ℤ pos 1) (pos 4 *ℤ h) ≤ℤ pos 65536)
cut_within a b (negsuc t) h la ha lb hb p q = absurd (omega (arith, ints))
cut_within a b (pos t) (negsuc k) la ha lb hb p q = absurd (omega (arith, ints))
cut_within a b (pos t) (pos k) la ha lb hb p q =
    let s : ℕ = k - t in
    let e : k ≡ s + t = omega (arith, ints) in
    let f : pos 4 *ℤ pos k ≡ pos (4 * k) = omega (arith, ints) in
    let n = numerator a b s t la ha lb hb (omega (arith, ints)) in
    let m : ((negsuc 262143 *ℤ pos k) <ℤ ((b -ℤ a) *ℤ pos t +ℤ (a +ℤ pos 2) *ℤ pos k -ℤ pos 1)) × (((b -ℤ a) *ℤ pos t +ℤ (a +ℤ pos 2) *ℤ pos k -ℤ pos 1) <ℤ (pos 262146 *ℤ pos k)) = rw e n in
    rw f (quotient_within ((b -ℤ a) *ℤ pos t +ℤ (a +ℤ pos 2) *ℤ pos k -ℤ pos 1) k (omega (arith, ints)) m.0 m.1)

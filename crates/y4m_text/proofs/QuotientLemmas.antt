-- A quotient is found by a multiplication with the reciprocal, in steps of which `one` make 1, rounded up.
use Rattle.std.proofs.Common.{◌≡◌, ℕ, ◌+◌, ◌*◌, ◌/◌, ◌^◌, ◌<◌, ◌≤◌, ap, arith}
use Rattle.std.proofs.Math.Nat.{div-mul-le_self, lt-div-mul-add, mul-le-mul_left, mul-le-mul_right}
use Rattle.std.proofs.lemmas.Nat.{div_below, le-div}

module _ (one n d k : ℕ) (one-some : 0 < one) (some : 0 < d) (is : k ≡ one / d + 1) where
  abbrev q : ℕ
  q = n / d

  -- a divisor times its reciprocal is 1 and less than a divisor more
  times : d * k ≡ d * (one / d + 1)
  times = ap (λ (x : ℕ). d * x) is

  least : one ≤ d * k
  least = omega (arith, times, lt-div-mul-add {a = one} {b = d} some)

  most : d * k ≤ one + d
  most = omega (arith, times, div-mul-le_self one d)

  below : q * one ≤ n * k
  below =
      let first = mul-le-mul_left q least in
      let second = mul-le-mul_right k (div-mul-le_self n d) in
      omega arith

  above : (q + 1) * d < k → n * k < (q + 1) * one
  above large =
      let next : n + 1 ≤ q * d + d = omega (arith, lt-div-mul-add {a = n} {b = d} some) in
      let first = mul-le-mul_right k next in
      let second = mul-le-mul_left (q + 1) most in
      omega (arith, large)

  -- It is enough that the reciprocal is larger than the quotient's divisors and one more.
  pub by-reciprocal : (q + 1) * d < k → n * k / one ≡ n / d
  by-reciprocal large =
      let low = le-div q (n * k) one one-some below in
      let high = div_below (n * k) one (q + 1) one-some (above large) in
      omega (arith, low, high)

abbrev one : ℕ
one = 36028797018963968

module _ (n d k : ℕ) (some : 0 < d) (most : d ≤ 10200000) (is : k ≡ one / d + 1) (small : n < 257 * d) where
  pub quotient-small : n / d < 257
  quotient-small = div_below n d 257 some small

  large : (n / d + 1) * d < k
  large =
      let divisors = mul-le-mul_right d (let few : n / d + 1 ≤ 257 = omega (arith, quotient-small) in few) in
      let steps = le-div 2621400000 one d some (omega (arith, most)) in
      omega (arith, is, most)

  pub quotient-is : n * k / one ≡ n / d
  quotient-is = by-reciprocal one n d k (omega arith) some is large

  pub product-fits : n * k < 2 ^ 64
  product-fits =
      let first = above one n d k (omega arith) some is large in
      let second = mul-le-mul_right one (let few : n / d + 1 ≤ 257 = omega (arith, quotient-small) in few) in
      omega arith

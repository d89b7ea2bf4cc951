-- Loops over the rows from `first` up to `end`: the next row, and the last.
use Rattle.std.proofs.Common.{◌≡◌, true, false, ℤ, pos, ◌+ℤ◌, ◌≤ℤ◌, ◌<ℤ◌, int_lt, w32, to_z, of_z, to_z-of_z, FitsSigned, arith}
use Rattle.std.proofs.lemmas.Int.{ints}
use Rattle.ass_num.proofs.OrderLemmas.{lt_is, lt_not}

-- what is known before row j
pub record IsUpTo (P : ℤ → Type 0) (first end j : ℤ) : Type 0 where
  pub low : first ≤ℤ j
  pub high : j ≤ℤ end
  pub rows : P j

-- the new one may hold of something that changed
pub next_row : (P Q : ℤ → Type 0) (first end j : ℤ) → FitsSigned w32 first → FitsSigned w32 end → IsUpTo P (to_z w32 (of_z w32 first)) (to_z w32 (of_z w32 end)) j → int_lt j (to_z w32 (of_z w32 end)) ≡ true → Q (j +ℤ pos 1)
    → IsUpTo Q (to_z w32 (of_z w32 first)) (to_z w32 (of_z w32 end)) (to_z w32 (of_z w32 (j +ℤ pos 1)))
next_row P Q first end j ff fe up test next =
    let i = rw (to_z-of_z ff) at up.low in
    let t : j <ℤ end = lt_is j end (rw (to_z-of_z fe) at test) in
    let f : FitsSigned w32 (j +ℤ pos 1) = omega (arith, ints) in
    rw (to_z-of_z f, to_z-of_z ff, to_z-of_z fe) (record { low = omega (arith, ints); high = omega (arith, ints); rows = next })

pub last_row : (P : ℤ → Type 0) (first end j : ℤ) → FitsSigned w32 end → IsUpTo P first (to_z w32 (of_z w32 end)) j → int_lt j (to_z w32 (of_z w32 end)) ≡ false → P end
last_row P first end j fe up test =
    let k = rw (to_z-of_z fe) at up.high in
    let t : end ≤ℤ j = lt_not j end (rw (to_z-of_z fe) at test) in
    let e : j ≡ end = omega (arith, ints) in
    rw e at up.rows

-- A widened strip has one run a row: what its rows reach there meets from row to row.
use Rattle.std.proofs.Common.{◌≡◌, ℕ, zero, suc, ◌+◌, ◌-◌, ◌<◌, ◌≤◌, ℤ, neg_ℤ, ◌+ℤ◌, ◌-ℤ◌, ◌≤ℤ◌, ◌<ℤ◌, ⊎_elim, arith, List, length}
use Rattle.std.proofs.lemmas.Int.{ints, by_lt_z}
use Rattle.std.proofs.lemmas.Bool.{cases_lt}
use Rattle.border_region.specs.Keys.{key_at}
use Rattle.border_region.specs.Reach.{IsProfile, IsWidenedSide}
use Rattle.border_region.specs.Strips.{DoSidesMeet, IsStrip}

-- row k of the strip reaches sample i in the widened strip's row k + p
pub record IsReachedFromRow (profile lefts rights : List ℤ) (m : ℕ) (i : ℤ) (k p : ℕ) : Type 0 where
  pub row : k < length lefts
  pub within : p < length profile
  pub sum : k + p ≡ m
  pub left : (key_at lefts k -ℤ key_at profile p) ≤ℤ i
  pub right : i <ℤ (neg_ℤ (key_at rights k) +ℤ key_at profile p)

abbrev pub IsReachedBySome : List ℤ → List ℤ → List ℤ → ℕ → ℤ → Type 0
IsReachedBySome profile lefts rights m i = (k : ℕ) × (p : ℕ) × IsReachedFromRow profile lefts rights m i k p

-- From a row that reaches to the left of the sample, n rows down to one that reaches to the right of it: some row between reaches it. Where a row ends before the sample,
-- the next begins before it, since the two meet.
walk_down : (middle : ℕ) (profile lefts rights : List ℤ) (m : ℕ) (i : ℤ) (n k p q r : ℕ) → IsProfile middle profile → IsStrip lefts rights
    → q < length lefts → k + n ≡ q → p < length profile → k + p ≡ m → q + r ≡ m
    → (key_at lefts k -ℤ key_at profile p) ≤ℤ i → i <ℤ (neg_ℤ (key_at rights q) +ℤ key_at profile r) → IsReachedBySome profile lefts rights m i
walk_down middle profile lefts rights m i zero k p q r pro strip lq e lp ep er left right =
    let here : q ≡ k = omega arith in
    let same : r ≡ p = omega arith in
    (k, p, record { row = omega arith; within = lp; sum = ep; left = left; right = rw (here, same) at right })
walk_down middle profile lefts rights m i (suc n) k p q r pro strip lq e lp ep er left right =
    by_lt_z i (neg_ℤ (key_at rights k) +ℤ key_at profile p)
    (λ (l : i <ℤ (neg_ℤ (key_at rights k) +ℤ key_at profile p)). (k, p, record { row = omega arith; within = lp; sum = ep; left = left; right = l }))
    (λ (l : (neg_ℤ (key_at rights k) +ℤ key_at profile p) ≤ℤ i).
    let meets = strip.meet k (omega arith) in
    let next = meets.1 in
    let a = pro.least p lp in
    let lp1 : p - 1 < length profile = omega arith in
    let b = pro.least (p - 1) lp1 in
    walk_down middle profile lefts rights m i n (k + 1) (p - 1) q r pro strip lq (omega arith) lp1 (omega arith) er (omega (arith, ints)) right)

-- and n rows up
walk_up : (middle : ℕ) (profile lefts rights : List ℤ) (m : ℕ) (i : ℤ) (n k p q r : ℕ) → IsProfile middle profile → IsStrip lefts rights
    → k < length lefts → q + n ≡ k → r < length profile → k + p ≡ m → q + r ≡ m
    → (key_at lefts k -ℤ key_at profile p) ≤ℤ i → i <ℤ (neg_ℤ (key_at rights q) +ℤ key_at profile r) → IsReachedBySome profile lefts rights m i
walk_up middle profile lefts rights m i zero k p q r pro strip lk e lr ep er left right =
    let here : q ≡ k = omega arith in
    let same : r ≡ p = omega arith in
    (k, p, record { row = lk; within = omega arith; sum = ep; left = left; right = rw (here, same) at right })
walk_up middle profile lefts rights m i (suc n) k p q r pro strip lk e lr ep er left right =
    by_lt_z i (neg_ℤ (key_at rights k) +ℤ key_at profile p)
    (λ (l : i <ℤ (neg_ℤ (key_at rights k) +ℤ key_at profile p)). (k, p, record { row = lk; within = omega arith; sum = ep; left = left; right = l }))
    (λ (l : (neg_ℤ (key_at rights k) +ℤ key_at profile p) ≤ℤ i).
    let back : (k - 1) + 1 ≡ k = omega arith in
    let meets : DoSidesMeet lefts rights (k - 1) = strip.meet (k - 1) (omega arith) in
    let before : key_at lefts (k - 1) ≤ℤ neg_ℤ (key_at rights k) = rw back at meets.0 in
    let a = pro.least p (omega arith) in
    let b = pro.least (p + 1) (omega arith) in
    walk_up middle profile lefts rights m i n (k - 1) (p + 1) q r pro strip (omega arith) (omega arith) lr (omega arith) er (omega (arith, ints)) right)

-- A sample between the two widened sides is reached from some row of the strip ..
pub reached_between : (middle : ℕ) (profile lefts rights wide_lefts wide_rights : List ℤ) (m : ℕ) (i : ℤ) → IsProfile middle profile → IsStrip lefts rights → IsWidenedSide profile lefts wide_lefts → IsWidenedSide profile rights wide_rights
    → m < length wide_lefts → key_at wide_lefts m ≤ℤ i → i <ℤ neg_ℤ (key_at wide_rights m) → IsReachedBySome profile lefts rights m i
reached_between middle profile lefts rights wide_lefts wide_rights m i pro strip wl wr l left right =
    let same = strip.same in
    let cl = wl.count in
    let cr = wr.count in
    let a = wl.reached m l in
    let ra = a.2 in
    let ka = ra.row in
    let pa = ra.within in
    let sa = ra.sum in
    let ia = ra.is in
    let b = wr.reached m (omega arith) in
    let rb = b.2 in
    let kb = rb.row in
    let pb = rb.within in
    let sb = rb.sum in
    let ib = rb.is in
    ⊎_elim
    (λ (h : a.0 < b.0). walk_down middle profile lefts rights m i (b.0 - a.0) a.0 a.1 b.0 b.1 pro strip (omega arith) (omega arith) pa sa sb (omega (arith, ints)) (omega (arith, ints)))
    (λ (h : b.0 ≤ a.0). walk_up middle profile lefts rights m i (a.0 - b.0) a.0 a.1 b.0 b.1 pro strip ka (omega arith) pb sa sb (omega (arith, ints)) (omega (arith, ints)))
    (cases_lt a.0 b.0)

-- .. and what a row of the strip reaches lies between the widened sides.
pub between_sides : (profile lefts rights wide_lefts wide_rights : List ℤ) (m : ℕ) (i : ℤ) (k p : ℕ) → IsStrip lefts rights → IsWidenedSide profile lefts wide_lefts → IsWidenedSide profile rights wide_rights
    → IsReachedFromRow profile lefts rights m i k p → (m < length wide_lefts) × (key_at wide_lefts m ≤ℤ i) × (i <ℤ neg_ℤ (key_at wide_rights m))
between_sides profile lefts rights wide_lefts wide_rights m i k p strip wl wr r =
    let same = strip.same in
    let cl = wl.count in
    let row = r.row in
    let within = r.within in
    let sum = r.sum in
    let left = r.left in
    let right = r.right in
    let a : key_at wide_lefts m ≤ℤ (key_at lefts k -ℤ key_at profile p) = rw sum at (wl.least k p row within) in
    let b : key_at wide_rights m ≤ℤ (key_at rights k -ℤ key_at profile p) = rw sum at (wr.least k p (omega arith) within) in
    (omega arith, omega (arith, ints), omega (arith, ints))

-- the run of each row has a sample
pub between_full : (middle : ℕ) (profile lefts rights wide_lefts wide_rights : List ℤ) (m : ℕ) → IsProfile middle profile → IsStrip lefts rights → IsWidenedSide profile lefts wide_lefts → IsWidenedSide profile rights wide_rights
    → m < length wide_lefts → key_at wide_lefts m <ℤ neg_ℤ (key_at wide_rights m)
between_full middle profile lefts rights wide_lefts wide_rights m pro strip wl wr l =
    let a = wl.reached m l in
    let r = a.2 in
    let row = r.row in
    let within = r.within in
    let is = r.is in
    let full = strip.full a.0 row in
    let wide = pro.least a.1 within in
    let i : ℤ = key_at lefts a.0 in
    let q = between_sides profile lefts rights wide_lefts wide_rights m i a.0 a.1 strip wl wr (record { row = row; within = within; sum = r.sum; left = omega (arith, ints); right = omega (arith, ints) }) in
    let left = q.1 in
    let right = q.2 in
    omega (arith, ints)

-- Sums of first steps where a step changes, and how great steps are.
use Rattle.std.proofs.Common.{◌≡◌, ℕ, zero, suc, ◌+◌, ◌-◌, ◌*◌, ◌/◌, ◌%◌, ◌<◌, ◌≤◌, List, length, get_or, replicate, ℤ, pos, neg_ℤ, ◌+ℤ◌, ◌-ℤ◌, ◌<ℤ◌, ◌≤ℤ◌, refl, ap, ◌∙◌, arith}
use Rattle.std.proofs.Math.ListN.{set}
use Rattle.std.proofs.lemmas.List.{get_or-set_same, get_or-set_other}
use Rattle.std.proofs.lemmas.Int.{ints, by_lt_z}
use Rattle.mask_cover.specs.Steps.{sum_first, samples_after, AreStepsWithin, CountsWithin}

-- sums up to the changed step stay
pub sum_first-set_before : (steps : List ℤ) (k : ℕ) (v : ℤ) (n : ℕ) → n ≤ k → sum_first (set steps k v) n ≡ sum_first steps n
unfolding sum_first
sum_first-set_before steps k v zero h = refl
sum_first-set_before steps k v (suc n) h =
    let rest = sum_first-set_before steps k v n (omega arith) in
    let here : get_or (set steps k v) n (pos 0) ≡ get_or steps n (pos 0) = get_or-set_other steps k n v (pos 0) (λ e. omega arith) in
    omega (arith, ints, rest, here)

-- sums behind it have the change
pub sum_first-set_behind : (steps : List ℤ) (k : ℕ) (v : ℤ) (n : ℕ) → k < length steps → k < n → sum_first (set steps k v) n ≡ sum_first steps n +ℤ (v -ℤ get_or steps k (pos 0))
unfolding sum_first
sum_first-set_behind steps k v zero i h = absurd (omega arith)
sum_first-set_behind steps k v (suc n) i h = by_lt_z (pos k) (pos n)
    (λ (less : pos k <ℤ pos n).
    let rest = sum_first-set_behind steps k v n i (omega (arith, ints)) in
    let here : get_or (set steps k v) n (pos 0) ≡ get_or steps n (pos 0) = get_or-set_other steps k n v (pos 0) (λ e. omega (arith, ints)) in
    omega (arith, ints, rest, here))
    (λ (order : pos n ≤ℤ pos k).
    let same : n ≡ k = omega (arith, ints) in
    let rest = sum_first-set_before steps k v n (omega arith) in
    let here : get_or (set steps k v) n (pos 0) ≡ v = rw same (get_or-set_same steps k v (pos 0) i) in
    let was : get_or steps n (pos 0) ≡ get_or steps k (pos 0) = ap (λ z. get_or steps z (pos 0)) same in
    omega (arith, ints, rest, here, was))

-- one changed step
pub AreStepsWithin-set : (limit more : ℕ) (steps : List ℤ) (k : ℕ) (v : ℤ) → limit ≤ more → k < length steps → AreStepsWithin limit steps → (neg_ℤ (pos more) ≤ℤ v) × (v ≤ℤ pos more) → AreStepsWithin more (set steps k v)
AreStepsWithin-set limit more steps k v wider i h fits = λ n. by_lt_z (pos n) (pos k)
    (λ (less : pos n <ℤ pos k). other n (λ e. omega (arith, ints)))
    (λ (order : pos k ≤ℤ pos n). by_lt_z (pos k) (pos n)
    (λ (less : pos k <ℤ pos n). other n (λ e. omega (arith, ints)))
    (λ (back : pos n ≤ℤ pos k).
    let same : n ≡ k = omega (arith, ints) in
    rw (same, get_or-set_same steps k v (pos 0) i) fits))
  where
    other : (n : ℕ) → (n ≡ k → ⊥) → (neg_ℤ (pos more) ≤ℤ get_or (set steps k v) n (pos 0)) × (get_or (set steps k v) n (pos 0) ≤ℤ pos more)
    other n differs = let was = h n in rw (get_or-set_other steps k n v (pos 0) differs) (omega (arith, ints, was.0, was.1), omega (arith, ints, was.0, was.1))

pub AreStepsWithin-wider : (limit more : ℕ) (steps : List ℤ) → limit ≤ more → AreStepsWithin limit steps → AreStepsWithin more steps
AreStepsWithin-wider limit more steps wider h = λ k. let was = h k in (omega (arith, ints, was.0, was.1), omega (arith, ints, was.0, was.1))

-- a step is the difference of two sums
pub AreStepsWithin-from_counts : (limit : ℕ) (steps : List ℤ) → CountsWithin limit steps → AreStepsWithin limit steps
unfolding sum_first
AreStepsWithin-from_counts limit steps h = λ k.
    let here = h k in
    let next = h (suc k) in
    (omega (arith, ints, here.0, here.1, next.0, next.1), omega (arith, ints, here.0, here.1, next.0, next.1))

-- where all steps are 0, so are their sums
pub sum_first-zero : (steps : List ℤ) (n : ℕ) → ((k : ℕ) → get_or steps k (pos 0) ≡ pos 0) → sum_first steps n ≡ pos 0
unfolding sum_first
sum_first-zero steps zero h = refl
sum_first-zero steps (suc n) h = omega (arith, ints, sum_first-zero steps n h, h n)

pub sum_first-next : (steps : List ℤ) (n : ℕ) → sum_first steps (n + 1) ≡ sum_first steps n +ℤ get_or steps n (pos 0)
unfolding sum_first
sum_first-next steps n = let next : n + 1 ≡ suc n = omega arith in rw next refl

pub sum_first-none : (steps : List ℤ) → sum_first steps 0 ≡ pos 0
unfolding sum_first
sum_first-none steps = refl

pub behind_by : (steps : List ℤ) (k : ℕ) (v by : ℤ) (n : ℕ) → k < length steps → k < n → v ≡ get_or steps k (pos 0) +ℤ by → sum_first (set steps k v) n ≡ sum_first steps n +ℤ by
behind_by steps k v by n i h e = omega (arith, ints, sum_first-set_behind steps k v n i h, e)

-- the samples of a pixel before a place and behind it, so many times
parts : (times q : ℕ) → q ≤ 16 → times * (16 - q) + times * q ≡ times * 16
parts times q h = let e : (16 - q) + q ≡ 16 = omega arith in spread times (16 - q) q ∙ ap (λ n. times * n) e
  where
    spread : (x y z : ℕ) → x * y + x * z ≡ x * (y + z)
    spread x y z = omega arith

-- the sums behind two changed steps, where samples begin and where they end
pub rise : (s t u one two : ℤ) (at c times : ℕ) → one ≡ pos (times * (16 - at % 16)) → two ≡ pos (times * (at % 16))
    → (c + 1 ≤ at / 16 → t ≡ s) → (at / 16 < c + 1 → t ≡ s +ℤ one) → (c + 1 ≤ at / 16 + 1 → u ≡ t) → (at / 16 + 1 < c + 1 → u ≡ t +ℤ two)
    → u ≡ s +ℤ pos (times * samples_after at c)
rise s t u one two at c times e f a b p q = by_lt_z (pos c) (pos (at / 16))
    (λ (less : pos c <ℤ pos (at / 16)).
    let none : samples_after at c ≡ 0 = omega (arith, ints) in
    let n = ap (λ z. times * z) none in
    let x = a (omega (arith, ints)) in
    let y = p (omega (arith, ints)) in
    omega (arith, ints, x, y, n))
    (λ (order : pos (at / 16) ≤ℤ pos c). let x = b (omega (arith, ints)) in by_lt_z (pos (at / 16)) (pos c)
    (λ (less : pos (at / 16) <ℤ pos c).
    let all : samples_after at c ≡ 16 = omega (arith, ints) in
    let n = ap (λ z. times * z) all in
    let whole = parts times (at % 16) (omega arith) in
    let y = q (omega (arith, ints)) in
    omega (arith, ints, x, y, n, whole))
    (λ (same : pos c ≤ℤ pos (at / 16)).
    let some : samples_after at c ≡ 16 - at % 16 = omega (arith, ints) in
    let n = ap (λ z. times * z) some in
    let y = p (omega (arith, ints)) in
    omega (arith, ints, x, y, n)))

pub fall : (s t u one two : ℤ) (at c times : ℕ) → one +ℤ pos (times * (16 - at % 16)) ≡ pos 0 → two +ℤ pos (times * (at % 16)) ≡ pos 0
    → (c + 1 ≤ at / 16 → t ≡ s) → (at / 16 < c + 1 → t ≡ s +ℤ one) → (c + 1 ≤ at / 16 + 1 → u ≡ t) → (at / 16 + 1 < c + 1 → u ≡ t +ℤ two)
    → u +ℤ pos (times * samples_after at c) ≡ s
fall s t u one two at c times e f a b p q = by_lt_z (pos c) (pos (at / 16))
    (λ (less : pos c <ℤ pos (at / 16)).
    let none : samples_after at c ≡ 0 = omega (arith, ints) in
    let n = ap (λ z. times * z) none in
    let x = a (omega (arith, ints)) in
    let y = p (omega (arith, ints)) in
    omega (arith, ints, x, y, n))
    (λ (order : pos (at / 16) ≤ℤ pos c). let x = b (omega (arith, ints)) in by_lt_z (pos (at / 16)) (pos c)
    (λ (less : pos (at / 16) <ℤ pos c).
    let all : samples_after at c ≡ 16 = omega (arith, ints) in
    let n = ap (λ z. times * z) all in
    let whole = parts times (at % 16) (omega arith) in
    let y = q (omega (arith, ints)) in
    omega (arith, ints, x, y, n, whole))
    (λ (same : pos c ≤ℤ pos (at / 16)).
    let some : samples_after at c ≡ 16 - at % 16 = omega (arith, ints) in
    let n = ap (λ z. times * z) some in
    let y = p (omega (arith, ints)) in
    omega (arith, ints, x, y, n)))

pub cleared : (steps : List ℤ) (count n : ℕ) → steps ≡ replicate count (pos 0) → sum_first steps n ≡ pos 0
cleared steps count n e = sum_first-zero steps n (λ k. rw e (none count k))
  where
    none : (count k : ℕ) → get_or (replicate count (pos 0)) k (pos 0) ≡ pos 0
    none zero k = refl
    none (suc count) zero = refl
    none (suc count) (suc k) = none count k

-- Sums over numbers in a row, and the samples of a row of runs.
use Rattle.std.proofs.Common.{◌≡◌, ℕ, zero, suc, ◌+◌, ◌-◌, ◌*◌, ◌≤◌, Bool, true, false, ◌&&◌, ◌||◌, if◌then◌else◌, ℤ, pos, ◌+ℤ◌, ◌<ℤ◌, ◌≤ℤ◌, refl, arith, int_lt, int_le, min, List, [], ◌∷◌}
use Rattle.std.proofs.lemmas.Int.{ints, by_lt_z}
use Rattle.ass_num.specs.Regions.{in_runs, ascend}
use Rattle.ass_num.specs.Coverage.{sum_from}
use Rattle.ass_num.specs.declared.region.Run.{Run}
use Rattle.std.proofs.Math.Bool.{and-false}
use Rattle.ass_num.proofs.RegionLemmas.{first_ascends, below}
use Rattle.ass_num.proofs.SumLemmas.{sum_from-add, sum_from-zero, sum_from-bound}
use Rattle.ass_num.proofs.OrderLemmas.{lt_true, lt_false, le_true, le_false}
use Rattle.mask_cover.specs.Steps.{samples_after, row_count}

-- ---- one run

abbrev pub bit : Bool → ℕ
bit b = if b then 1 else 0

pub bit-le : (b : Bool) → bit b ≤ 1
bit-le true = omega arith
bit-le false = omega arith

abbrev pub in_run : ℤ → ℤ → ℤ → Bool
in_run from to i = int_le from i && int_lt i to

in_run_before : (from to i : ℤ) → i <ℤ from → bit (in_run from to i) ≡ 0
in_run_before from to i h = rw (le_false from i h) refl

in_run_within : (from to i : ℤ) → from ≤ℤ i → i <ℤ to → bit (in_run from to i) ≡ 1
in_run_within from to i h k = rw (le_true from i h, lt_true i to k) refl

in_run_behind : (from to i : ℤ) → to ≤ℤ i → bit (in_run from to i) ≡ 0
in_run_behind from to i h = rw (lt_false i to h, and-false (int_le from i)) refl

one_sample : (a b k : ℕ) (left : ℤ) → a ≤ b → bit (in_run (left +ℤ pos a) (left +ℤ pos b) (left +ℤ pos k)) + min 1 (suc k - b) ≡ min 1 (suc k - a)
one_sample a b k left order = by_lt_z (pos k) (pos a)
    (λ (early : pos k <ℤ pos a). omega (arith, ints, in_run_before (left +ℤ pos a) (left +ℤ pos b) (left +ℤ pos k) (omega (arith, ints))))
    (λ (begun : pos a ≤ℤ pos k). by_lt_z (pos k) (pos b)
    (λ (now : pos k <ℤ pos b). omega (arith, ints, in_run_within (left +ℤ pos a) (left +ℤ pos b) (left +ℤ pos k) (omega (arith, ints)) (omega (arith, ints))))
    (λ (over : pos b ≤ℤ pos k). omega (arith, ints, in_run_behind (left +ℤ pos a) (left +ℤ pos b) (left +ℤ pos k) (omega (arith, ints)))))

pub one_run : (a b s n : ℕ) (left : ℤ) → a ≤ b → sum_from (λ i. bit (in_run (left +ℤ pos a) (left +ℤ pos b) i)) (left +ℤ pos s) n + min n ((s + n) - b) ≡ min n ((s + n) - a)
unfolding sum_from
one_run a b s zero left order = omega arith
one_run a b s (suc n) left order =
    let rest = one_run a b s n left order in
    let at : (left +ℤ pos s) +ℤ pos n ≡ left +ℤ pos (s + n) = omega (arith, ints) in
    let here = one_sample a b (s + n) left order in
    rw at (omega (arith, rest, here))

-- ---- rows of runs

bit-cons : (r : Run) (rs : List Run) → ascend (r ∷ rs) ≡ true → (i : ℤ) → bit (in_runs (r ∷ rs) i) ≡ bit (in_run r.from r.to i) + bit (in_runs rs i)
bit-cons r rs h i =
    let p = first_ascends r rs h in
    by_lt_z i r.to
    (λ (l : i <ℤ r.to). rw (below r.to i rs p.1 (omega (arith, ints))) (or_none (in_run r.from r.to i)))
    (λ (l : r.to ≤ℤ i). rw (lt_false i r.to l, and-false (int_le r.from i)) (omega arith))
  where
    or_none : (b : Bool) → bit (b || false) ≡ bit b + 0
    or_none true = refl
    or_none false = refl

-- a row's samples in a pixel, by its first run and the others
pub row_count-cons : (r : Run) (rs : List Run) (left : ℤ) (a b c : ℕ) → ascend (r ∷ rs) ≡ true → r.from ≡ left +ℤ pos a → r.to ≡ left +ℤ pos b → row_count (r ∷ rs) left c + samples_after b c ≡ row_count rs left c + samples_after a c
unfolding row_count
row_count-cons r rs left a b c h e f =
    let p = (first_ascends r rs h).0 in
    let order : a ≤ b = omega (arith, ints) in
    let one = one_run a b (16 * c) 16 left order in
    let split = sum_from-add (λ i. bit (in_runs (r ∷ rs) i)) (λ i. bit (in_run r.from r.to i)) (λ i. bit (in_runs rs i)) (left +ℤ pos (16 * c)) 16 (bit-cons r rs h) in
    let first : sum_from (λ i. bit (in_run r.from r.to i)) (left +ℤ pos (16 * c)) 16 ≡ sum_from (λ i. bit (in_run (left +ℤ pos a) (left +ℤ pos b) i)) (left +ℤ pos (16 * c)) 16 = rw (e, f) refl in
    omega (arith, one, split, first)

pub row_count-none : (left : ℤ) (c : ℕ) → row_count [] left c ≡ 0
unfolding row_count
row_count-none left c = sum_from-zero (λ i. bit (in_runs [] i)) (left +ℤ pos (16 * c)) 16 (λ k less. refl)

pub row_count-le : (rs : List Run) (left : ℤ) (c : ℕ) → row_count rs left c ≤ 16
unfolding row_count
row_count-le rs left c = let le = sum_from-bound (λ i. bit (in_runs rs i)) (left +ℤ pos (16 * c)) 16 1 (λ k less. bit-le (in_runs rs ((left +ℤ pos (16 * c)) +ℤ pos k))) in omega (arith, le)

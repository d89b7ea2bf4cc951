-- The region of the samples that pass a test.
use Rattle.std.proofs.Common.{◌≡◌, ℕ, zero, suc, ◌+◌, ◌*◌, ◌<◌, ◌≤◌, Bool, true, false, ℤ, pos, negsuc, neg_ℤ, ◌+ℤ◌, ◌-ℤ◌, ◌≤ℤ◌, ◌<ℤ◌, refl, sym, ap, ◌∙◌, arith, List, [], get_or, Result, Ok, Err, IfOk}
use Rattle.std.proofs.lemmas.Int.{ints, by_lt_z}
use Rattle.std.proofs.lemmas.Bool.{and_from, false≢true}
use Rattle.ass_num.specs.Limits.{IsWithin, IsRegionWithin}
use Rattle.ass_num.specs.Regions.{RegionValue, in_runs, row_at, member, ascend, all_ascend, is_canonical}
use Rattle.ass_num.specs.declared.region.Run.{Run}
use Rattle.ass_num.proofs.LimitLemmas.{member_near, within_from}
use Rattle.ass_num.proofs.RegionLemmas.{one_region, row_above}
use Rattle.mask_keys.specs.Regions.{runs_from, rows_from, region_within}
use Rattle.mask_keys.proofs.RunLemmas.{ascend_from_any, runs_from-ascends, runs_from-has, runs_from-before, runs_from-behind}
use Rattle.mask_keys.proofs.TrimLemmas.{trimmed-canonical, trimmed-member}

-- ---- rows

rows_ascend : (has : ℤ → ℤ → Bool) (left : ℤ) (width : ℕ) (j : ℤ) (n : ℕ) → all_ascend (rows_from has left width j n) ≡ true
unfolding rows_from
rows_ascend has left width j zero = refl
rows_ascend has left width j (suc n) =
    and_from (ascend (runs_from (λ i. has i j) left width)) (all_ascend (rows_from has left width (j +ℤ pos 1) n))
    (ascend_from_any (left -ℤ pos 1) (runs_from (λ i. has i j) left width) (runs_from-ascends (λ i. has i j) left width))
    (rows_ascend has left width (j +ℤ pos 1) n)

rows_get : (has : ℤ → ℤ → Bool) (left : ℤ) (width : ℕ) (j : ℤ) (n k : ℕ) (t : ℤ) → k < n → t ≡ j +ℤ pos k → get_or (rows_from has left width j n) k [] ≡ runs_from (λ i. has i t) left width
unfolding rows_from
rows_get has left width j zero k t l e = absurd (omega arith)
rows_get has left width j (suc n) zero t l e = let f : j ≡ t = omega (arith, ints) in ap (λ z. runs_from (λ i. has i z) left width) f
rows_get has left width j (suc n) (suc k) t l e = rows_get has left width (j +ℤ pos 1) n k t (omega arith) (omega (arith, ints))

rows_past : (has : ℤ → ℤ → Bool) (left : ℤ) (width : ℕ) (j : ℤ) (n k : ℕ) → n ≤ k → get_or (rows_from has left width j n) k [] ≡ []
unfolding rows_from
rows_past has left width j zero k l = refl
rows_past has left width j (suc n) zero l = absurd (omega arith)
rows_past has left width j (suc n) (suc k) l = rows_past has left width (j +ℤ pos 1) n k (omega arith)

-- the row of a place
row_in : (has : ℤ → ℤ → Bool) (left : ℤ) (width : ℕ) (top : ℤ) (n : ℕ) (j z : ℤ) → z ≡ j -ℤ top → top ≤ℤ j → j <ℤ (top +ℤ pos n) → row_at (rows_from has left width top n) z ≡ runs_from (λ i. has i j) left width
row_in has left width top n j (pos k) e a b = rows_get has left width top n k j (omega (arith, ints)) (omega (arith, ints))
row_in has left width top n j (negsuc k) e a b = absurd (omega (arith, ints))

row_out : (has : ℤ → ℤ → Bool) (left : ℤ) (width : ℕ) (top : ℤ) (n : ℕ) (j z : ℤ) → z ≡ j -ℤ top → (top +ℤ pos n) ≤ℤ j → row_at (rows_from has left width top n) z ≡ []
row_out has left width top n j (pos k) e b = rows_past has left width top n k (omega (arith, ints))
row_out has left width top n j (negsuc k) e b = refl

-- ---- the region

pub region_within-canonical : (limit : ℕ) (has : ℤ → ℤ → Bool) → is_canonical (region_within limit has).top (region_within limit has).rows ≡ true
unfolding region_within
region_within-canonical limit has =
    trimmed-canonical (neg_ℤ (pos limit)) (rows_from has (neg_ℤ (pos limit)) (2 * limit + 1) (neg_ℤ (pos limit)) (2 * limit + 1))
    (rows_ascend has (neg_ℤ (pos limit)) (2 * limit + 1) (neg_ℤ (pos limit)) (2 * limit + 1))

-- the samples within the limit are those that pass
pub region_within-has : (limit : ℕ) (has : ℤ → ℤ → Bool) (i j : ℤ) → IsWithin limit i → IsWithin limit j → member (region_within limit has).top (region_within limit has).rows i j ≡ has i j
unfolding region_within
region_within-has limit has i j a b =
    let low : ℤ = neg_ℤ (pos limit) in
    let a0 = a.0 in let a1 = a.1 in let b0 = b.0 in let b1 = b.1 in
    trimmed-member low (rows_from has low (2 * limit + 1) low (2 * limit + 1)) i j
    ∙ ap (λ runs. in_runs runs i) (row_in has low (2 * limit + 1) low (2 * limit + 1) j (j -ℤ low) refl b0 (omega (arith, ints)))
    ∙ runs_from-has (λ z. has z j) low (2 * limit + 1) i a0 (omega (arith, ints))

-- and there are no others
pub region_within-near : (limit : ℕ) (has : ℤ → ℤ → Bool) (i j : ℤ) → member (region_within limit has).top (region_within limit has).rows i j ≡ true → IsWithin limit i × IsWithin limit j
unfolding region_within
region_within-near limit has i j m =
    let low : ℤ = neg_ℤ (pos limit) in
    let n : ℕ = 2 * limit + 1 in
    let rows : List (List Run) = rows_from has low n low n in
    let here : in_runs (row_at rows (j -ℤ low)) i ≡ true = sym (trimmed-member low rows i j) ∙ m in
    by_lt_z j low
    (λ (l : j <ℤ low). absurd (false≢true (sym (ap (λ runs. in_runs runs i) (row_above rows (j -ℤ low) (omega (arith, ints)))) ∙ here)))
    (λ (l : low ≤ℤ j). by_lt_z j (low +ℤ pos n)
    (λ (g : j <ℤ (low +ℤ pos n)).
    let inside : in_runs (runs_from (λ z. has z j) low n) i ≡ true = sym (ap (λ runs. in_runs runs i) (row_in has low n low n j (j -ℤ low) refl l g)) ∙ here in
    by_lt_z i low
    (λ (u : i <ℤ low). absurd (false≢true (sym (runs_from-before (λ z. has z j) low n i u) ∙ inside)))
    (λ (u : low ≤ℤ i). by_lt_z i (low +ℤ pos n)
    (λ (v : i <ℤ (low +ℤ pos n)). ((u, omega (arith, ints)), (l, omega (arith, ints))))
    (λ (v : (low +ℤ pos n) ≤ℤ i). absurd (false≢true (sym (runs_from-behind (λ z. has z j) low n i u v) ∙ inside)))))
    (λ (g : (low +ℤ pos n) ≤ℤ j). absurd (false≢true (sym (ap (λ runs. in_runs runs i) (row_out has low n low n j (j -ℤ low) refl g)) ∙ here))))

pub region_within-limit : (limit : ℕ) (has : ℤ → ℤ → Bool) → IsRegionWithin limit (region_within limit has).top (region_within limit has).rows
region_within-limit limit has = within_from limit (region_within limit has).top (region_within limit has).rows (region_within-canonical limit has) (region_within-near limit has)

-- ---- a region with the samples that pass is the one of the test

same_members : (limit : ℕ) (has : ℤ → ℤ → Bool) (r : RegionValue) → IsRegionWithin limit r.top r.rows → ((i j : ℤ) → member r.top r.rows i j ≡ has i j) → (i j : ℤ) → member r.top r.rows i j ≡ member (region_within limit has).top (region_within limit has).rows i j
same_members limit has r near same i j = by_test (member r.top r.rows i j) (member (region_within limit has).top (region_within limit has).rows i j) refl refl
  where
    by_test : (a b : Bool) → member r.top r.rows i j ≡ a → member (region_within limit has).top (region_within limit has).rows i j ≡ b → member r.top r.rows i j ≡ member (region_within limit has).top (region_within limit has).rows i j
    by_test true b e f = let p = member_near limit r.top r.rows i j near e in same i j ∙ sym (region_within-has limit has i j p.0 p.1)
    by_test false true e f = let p = region_within-near limit has i j f in same i j ∙ sym (region_within-has limit has i j p.0 p.1)
    by_test false false e f = e ∙ sym f

region_parts : (s t : ℤ) (xs ys : List (List Run)) → s ≡ t → xs ≡ ys → ◌≡◌ {A = RegionValue} (record { top = s; rows = xs }) (record { top = t; rows = ys })
region_parts s t xs ys a b = rw (a, b) refl

pub region_is : (limit : ℕ) (has : ℤ → ℤ → Bool) (r : RegionValue) → is_canonical r.top r.rows ≡ true → IsRegionWithin limit r.top r.rows → ((i j : ℤ) → member r.top r.rows i j ≡ has i j) → r ≡ region_within limit has
region_is limit has r canonical near same =
    let made : RegionValue = region_within limit has in
    let p = one_region r.top made.top r.rows made.rows canonical (region_within-canonical limit has) (same_members limit has r near same) in
    region_parts r.top made.top r.rows made.rows p.0 p.1

-- the same of what a call answers
pub answer_is : {E : Type 0} (answer : Result RegionValue E) (limit : ℕ) (has : ℤ → ℤ → Bool) → IfOk answer (λ r. (i j : ℤ) → member r.top r.rows i j ≡ has i j) → IfOk answer (λ r. is_canonical r.top r.rows ≡ true) → IfOk answer (λ r. IsRegionWithin limit r.top r.rows) → IfOk answer (λ r. r ≡ region_within limit has)
answer_is (Ok r) limit has same canonical near = region_is limit has r canonical near same
answer_is (Err e) limit has same canonical near = same

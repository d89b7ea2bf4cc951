-- The runs of a test along a row.
use Rattle.std.proofs.Common.{◌≡◌, ℕ, zero, suc, Bool, true, false, ◌&&◌, ◌||◌, ℤ, pos, ◌+ℤ◌, ◌-ℤ◌, ◌≤ℤ◌, ◌<ℤ◌, refl, sym, ap, ◌∙◌, subst, arith, int_lt, int_le, List, [], ◌∷◌}
use Rattle.std.specs.Prelude.{if◌then◌else◌}
use Rattle.std.specs.Ordering.{int_eq}
use Rattle.std.specs.Cmp.{signed_Decides}
use Rattle.std.proofs.lemmas.Int.{ints, by_lt_z}
use Rattle.std.proofs.lemmas.Bool.{and_from, false≢true}
use Rattle.ass_num.specs.Regions.{in_runs, ascend, ascend_from}
use Rattle.ass_num.specs.declared.region.Run.{Run}
use Rattle.ass_num.proofs.OrderLemmas.{lt_true, lt_false, le_true, first_in}
use Rattle.ass_num.proofs.RegionLemmas.{ascends_parts, below}
use Rattle.mask_keys.specs.Regions.{with_sample, with_sample_if, runs_from}

ascend_from_made : (low : ℤ) (r : Run) (rs : List Run) → low <ℤ r.from → r.from <ℤ r.to → ascend_from r.to rs ≡ true → ascend_from low (r ∷ rs) ≡ true
ascend_from_made low r rs a b h = and_from (int_lt low r.from && int_lt r.from r.to) (ascend_from r.to rs) (and_from (int_lt low r.from) (int_lt r.from r.to) (lt_true low r.from a) (lt_true r.from r.to b)) h

ascend_from_lower : (low lower : ℤ) (rs : List Run) → lower ≤ℤ low → ascend_from low rs ≡ true → ascend_from lower rs ≡ true
ascend_from_lower low lower [] l h = refl
ascend_from_lower low lower (r ∷ rs) l h =
    let p = ascends_parts low r rs h in
    let a = p.0 in
    ascend_from_made lower r rs (omega (arith, ints)) p.1 p.2

pub ascend_from_any : (low : ℤ) (rs : List Run) → ascend_from low rs ≡ true → ascend rs ≡ true
ascend_from_any low [] h = refl
ascend_from_any low (r ∷ rs) h =
    let p = ascends_parts low r rs h in
    and_from (int_lt r.from r.to) (ascend_from r.to rs) (lt_true r.from r.to p.1) p.2

-- ---- one sample more

sample_of : ℤ → Run
sample_of i = record { from = i; to = i +ℤ pos 1 }

joined : Bool → ℤ → Run → List Run → List Run
joined b i r rs = if b then record { from = i; to = r.to } ∷ rs else record { from = i; to = i +ℤ pos 1 } ∷ r ∷ rs

joined_ascends : (b : Bool) (i : ℤ) (r : Run) (rs : List Run) → int_eq r.from (i +ℤ pos 1) ≡ b → ascend_from i (r ∷ rs) ≡ true → ascend_from (i -ℤ pos 1) (joined b i r rs) ≡ true
unfolding joined
joined_ascends true i r rs e h =
    let p = ascends_parts i r rs h in
    let a = p.0 in
    let b = p.1 in
    ascend_from_made (i -ℤ pos 1) (record { from = i; to = r.to }) rs (omega (arith, ints)) (omega (arith, ints)) p.2
joined_ascends false i r rs e h =
    let p = ascends_parts i r rs h in
    let a = p.0 in
    let apart : r.from ≡ i +ℤ pos 1 → ⊥ = λ same. false≢true (sym e ∙ (signed_Decides r.from (i +ℤ pos 1)).1 same) in
    let more : (i +ℤ pos 1) <ℤ r.from = by_lt_z (i +ℤ pos 1) r.from (λ l. l) (λ (l : r.from ≤ℤ (i +ℤ pos 1)). absurd (apart (omega (arith, ints)))) in
    ascend_from_made (i -ℤ pos 1) (record { from = i; to = i +ℤ pos 1 }) (r ∷ rs) (omega (arith, ints)) (omega (arith, ints)) (ascend_from_made (i +ℤ pos 1) r rs more p.1 p.2)

sample_ascends : (i : ℤ) (rs : List Run) → ascend_from i rs ≡ true → ascend_from (i -ℤ pos 1) (with_sample i rs) ≡ true
unfolding joined
sample_ascends i [] h = ascend_from_made (i -ℤ pos 1) (record { from = i; to = i +ℤ pos 1 }) [] (omega (arith, ints)) (omega (arith, ints)) refl
sample_ascends i (r ∷ rs) h = joined_ascends (int_eq r.from (i +ℤ pos 1)) i r rs refl h

-- the sample itself
joined_at : (b : Bool) (i : ℤ) (r : Run) (rs : List Run) → ascend_from i (r ∷ rs) ≡ true → in_runs (joined b i r rs) i ≡ true
unfolding joined
joined_at true i r rs h =
    let p = ascends_parts i r rs h in
    let a = p.0 in
    let b = p.1 in
    first_in (record { from = i; to = r.to }) rs i (omega (arith, ints)) (omega (arith, ints))
joined_at false i r rs h = first_in (record { from = i; to = i +ℤ pos 1 }) (r ∷ rs) i (omega (arith, ints)) (omega (arith, ints))

sample_at : (i : ℤ) (rs : List Run) → ascend_from i rs ≡ true → in_runs (with_sample i rs) i ≡ true
unfolding joined
sample_at i [] h = first_in (record { from = i; to = i +ℤ pos 1 }) [] i (omega (arith, ints)) (omega (arith, ints))
sample_at i (r ∷ rs) h = joined_at (int_eq r.from (i +ℤ pos 1)) i r rs h

-- those behind it
front_out : (a b c : Bool) → b ≡ false → ((a && b) || c) ≡ c
front_out a b c e = rw e (elim a as (λ z. ((z && false) || c) ≡ c) [ true ↦ refl | false ↦ refl ])

joined_behind : (b : Bool) (i : ℤ) (r : Run) (rs : List Run) (k : ℤ) → int_eq r.from (i +ℤ pos 1) ≡ b → i <ℤ k → in_runs (joined b i r rs) k ≡ in_runs (r ∷ rs) k
unfolding joined
joined_behind true i r rs k e l =
    let same : r.from ≡ i +ℤ pos 1 = (signed_Decides r.from (i +ℤ pos 1)).0 e in
    let first : int_le i k ≡ true = le_true i k (omega (arith, ints)) in
    let other : int_le r.from k ≡ true = le_true r.from k (omega (arith, ints)) in
    rw (first, other) refl
joined_behind false i r rs k e l = front_out (int_le i k) (int_lt k (i +ℤ pos 1)) (in_runs (r ∷ rs) k) (lt_false k (i +ℤ pos 1) (omega (arith, ints)))

sample_behind : (i : ℤ) (rs : List Run) (k : ℤ) → i <ℤ k → in_runs (with_sample i rs) k ≡ in_runs rs k
unfolding joined
sample_behind i [] k l = front_out (int_le i k) (int_lt k (i +ℤ pos 1)) false (lt_false k (i +ℤ pos 1) (omega (arith, ints)))
sample_behind i (r ∷ rs) k l = joined_behind (int_eq r.from (i +ℤ pos 1)) i r rs k refl l

-- ---- a sample that passes or doesn't

step_ascends : (b : Bool) (i : ℤ) (rs : List Run) → ascend_from i rs ≡ true → ascend_from (i -ℤ pos 1) (with_sample_if b i rs) ≡ true
step_ascends true i rs h = sample_ascends i rs h
step_ascends false i rs h = ascend_from_lower i (i -ℤ pos 1) rs (omega (arith, ints)) h

step_at : (b : Bool) (i : ℤ) (rs : List Run) → ascend_from i rs ≡ true → in_runs (with_sample_if b i rs) i ≡ b
step_at true i rs h = sample_at i rs h
step_at false i rs h = below i i rs h (omega (arith, ints))

step_behind : (b : Bool) (i : ℤ) (rs : List Run) (k : ℤ) → i <ℤ k → in_runs (with_sample_if b i rs) k ≡ in_runs rs k
step_behind true i rs k l = sample_behind i rs k l
step_behind false i rs k l = refl

-- ---- all runs

pub runs_from-ascends : (p : ℤ → Bool) (i : ℤ) (n : ℕ) → ascend_from (i -ℤ pos 1) (runs_from p i n) ≡ true
unfolding runs_from
runs_from-ascends p i zero = refl
runs_from-ascends p i (suc n) =
    let same : (i +ℤ pos 1) -ℤ pos 1 ≡ i = omega (arith, ints) in
    step_ascends (p i) i (runs_from p (i +ℤ pos 1) n) (ap (λ z. ascend_from z (runs_from p (i +ℤ pos 1) n)) (sym same) ∙ runs_from-ascends p (i +ℤ pos 1) n)

rest_ascends : (p : ℤ → Bool) (i : ℤ) (n : ℕ) → ascend_from i (runs_from p (i +ℤ pos 1) n) ≡ true
rest_ascends p i n =
    let same : (i +ℤ pos 1) -ℤ pos 1 ≡ i = omega (arith, ints) in
    ap (λ z. ascend_from z (runs_from p (i +ℤ pos 1) n)) (sym same) ∙ runs_from-ascends p (i +ℤ pos 1) n

pub runs_from-has : (p : ℤ → Bool) (i : ℤ) (n : ℕ) (k : ℤ) → i ≤ℤ k → k <ℤ (i +ℤ pos n) → in_runs (runs_from p i n) k ≡ p k
unfolding runs_from
runs_from-has p i zero k a b = absurd (omega (arith, ints))
runs_from-has p i (suc n) k a b =
    let rest : List Run = runs_from p (i +ℤ pos 1) n in
    by_lt_z i k
    (λ (l : i <ℤ k). step_behind (p i) i rest k l ∙ runs_from-has p (i +ℤ pos 1) n k (omega (arith, ints)) (omega (arith, ints)))
    (λ (l : k ≤ℤ i).
    let same : i ≡ k = omega (arith, ints) in
    let P : ℤ → Type 0 = λ z. in_runs (with_sample_if (p i) i rest) z ≡ p z in
    subst P same (step_at (p i) i rest (rest_ascends p i n)))

pub runs_from-before : (p : ℤ → Bool) (i : ℤ) (n : ℕ) (k : ℤ) → k <ℤ i → in_runs (runs_from p i n) k ≡ false
runs_from-before p i n k l = below (i -ℤ pos 1) k (runs_from p i n) (runs_from-ascends p i n) (omega (arith, ints))

pub runs_from-behind : (p : ℤ → Bool) (i : ℤ) (n : ℕ) (k : ℤ) → i ≤ℤ k → (i +ℤ pos n) ≤ℤ k → in_runs (runs_from p i n) k ≡ false
unfolding runs_from
runs_from-behind p i zero k a b = refl
runs_from-behind p i (suc n) k a b =
    let l : i <ℤ k = omega (arith, ints) in
    step_behind (p i) i (runs_from p (i +ℤ pos 1) n) k l ∙ runs_from-behind p (i +ℤ pos 1) n k (omega (arith, ints)) (omega (arith, ints))

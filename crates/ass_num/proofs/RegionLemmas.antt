-- Rows of runs by their parts; two regions in canonical form with the same members are one.
use Rattle.std.proofs.Common.{◌<◌, ◌≡◌, ℕ, zero, suc, true, false, ◌&&◌, ℤ, pos, negsuc, ◌+ℤ◌, ◌-ℤ◌, ◌≤ℤ◌, ◌<ℤ◌, refl, sym, ap, ◌∙◌, arith, int_lt, int_le, List, [], ◌∷◌, length, get_or}
use Rattle.std.proofs.lemmas.Int.{ints, by_lt_z, clamps}
use Rattle.std.specs.Int.{int_min}
use Rattle.std.proofs.lemmas.Bool.{and_parts, false≢true}
use Rattle.std.specs.Ordering.{int_eq}
use Rattle.ass_num.proofs.OrderLemmas.{lt_true, lt_false, le_true, le_false, lt_is, first_in}
use Rattle.std.proofs.Math.Bool.{and-false}
use Rattle.ass_num.specs.Regions.{in_runs, ascend, ascend_from, row_at, member, has_run, all_ascend, first_has_run, last_has_run, last_has_run_after, top_fits, is_canonical}
use Rattle.ass_num.specs.declared.region.Run.{Run}

-- ---- one row
pub ascends_parts : (low : ℤ) (r : Run) (rs : List Run) → ascend_from low (r ∷ rs) ≡ true → (low <ℤ r.from) × (r.from <ℤ r.to) × (ascend_from r.to rs ≡ true)
ascends_parts low r rs h =
    let p = and_parts (int_lt low r.from && int_lt r.from r.to) (ascend_from r.to rs) h in
    let q = and_parts (int_lt low r.from) (int_lt r.from r.to) p.0 in
    (lt_is low r.from q.0, lt_is r.from r.to q.1, p.1)

pub first_ascends : (r : Run) (rs : List Run) → ascend (r ∷ rs) ≡ true → (r.from <ℤ r.to) × (ascend_from r.to rs ≡ true)
first_ascends r rs h = let p = and_parts (int_lt r.from r.to) (ascend_from r.to rs) h in (lt_is r.from r.to p.0, p.1)

pub rest_ascends : (r : Run) (rs : List Run) → ascend (r ∷ rs) ≡ true → ascend rs ≡ true
rest_ascends r [] h = refl
rest_ascends r (s ∷ rs) h =
    let p = ascends_parts r.to s rs (first_ascends r (s ∷ rs) h).1 in
    rw (lt_true s.from s.to p.1) p.2

-- the run at a place has a sample
pub run_at : (rs : List Run) (k : ℕ) (d : Run) → ascend rs ≡ true → k < length rs → (get_or rs k d).from <ℤ (get_or rs k d).to
run_at [] k d a l = absurd (omega arith)
run_at (r ∷ rs) zero d a l = (first_ascends r rs a).0
run_at (r ∷ rs) (suc k) d a l = run_at rs k d (rest_ascends r rs a) (omega arith)

-- no sample up to the low end lies in a run
pub below : (low i : ℤ) (rs : List Run) → ascend_from low rs ≡ true → i ≤ℤ low → in_runs rs i ≡ false
below low i [] h l = refl
below low i (r ∷ rs) h l =
    let p = ascends_parts low r rs h in
    let a = p.0 in
    let b = p.1 in
    rw (le_false r.from i (omega (arith, ints)), below r.to i rs p.2 (omega (arith, ints))) refl

not_yet : (low : ℤ) (r : Run) (rs : List Run) (i : ℤ) → ascend_from low (r ∷ rs) ≡ true → i <ℤ r.from → in_runs (r ∷ rs) i ≡ false
not_yet low r rs i h l =
    let p = ascends_parts low r rs h in
    let b = p.1 in
    rw (le_false r.from i l, below r.to i rs p.2 (omega (arith, ints))) refl

at_end : (low : ℤ) (r : Run) (rs : List Run) → ascend_from low (r ∷ rs) ≡ true → in_runs (r ∷ rs) r.to ≡ false
at_end low r rs h =
    let p = ascends_parts low r rs h in
    let b = p.1 in
    rw (le_true r.from r.to (omega (arith, ints)), lt_false r.to r.to (omega (arith, ints)), below r.to r.to rs p.2 (omega (arith, ints))) refl

abbrev Same : List Run → List Run → Type 0
Same xs ys = (i : ℤ) → in_runs xs i ≡ in_runs ys i

not_earlier : (low : ℤ) (x : Run) (xs : List Run) (y : Run) (ys : List Run) → ascend_from low (x ∷ xs) ≡ true → ascend_from low (y ∷ ys) ≡ true → Same (x ∷ xs) (y ∷ ys) → x.from <ℤ y.from → ⊥
not_earlier low x xs y ys h k s l =
    let p = ascends_parts low x xs h in
    let a = p.1 in
    false≢true (sym (not_yet low y ys x.from k l) ∙ sym (s x.from) ∙ first_in x xs x.from (omega (arith, ints)) a)

not_shorter : (low : ℤ) (x : Run) (xs : List Run) (y : Run) (ys : List Run) → ascend_from low (x ∷ xs) ≡ true → Same (x ∷ xs) (y ∷ ys) → x.from ≡ y.from → x.to <ℤ y.to → ⊥
not_shorter low x xs y ys h s e l =
    let p = ascends_parts low x xs h in
    let a = p.1 in
    false≢true (sym (at_end low x xs h) ∙ s x.to ∙ first_in y ys x.to (omega (arith, ints)) l)

equal_from : (a b : ℤ) → (a <ℤ b → ⊥) → (b <ℤ a → ⊥) → a ≡ b
equal_from a b h k = by_lt_z a b (λ (l : a <ℤ b). absurd (h l)) (λ (l : b ≤ℤ a). by_lt_z b a (λ (m : b <ℤ a). absurd (k m)) (λ (m : a ≤ℤ b). omega (arith, ints)))

abbrev made : ℤ → ℤ → Run
made a b = record { from = a; to = b }

tails : (low : ℤ) (x : Run) (xs ys : List Run) → ascend_from low (x ∷ xs) ≡ true → ascend_from x.to ys ≡ true → Same (x ∷ xs) (x ∷ ys) → Same xs ys
tails low x xs ys h k s i =
    let p = ascends_parts low x xs h in
    by_lt_z x.to i
    (λ (l : x.to <ℤ i). rw (lt_false i x.to (omega (arith, ints)), and-false (int_le x.from i)) at (s i))
    (λ (l : i ≤ℤ x.to). below x.to i xs p.2 l ∙ sym (below x.to i ys k l))

pub same_from : (low : ℤ) (xs ys : List Run) → ascend_from low xs ≡ true → ascend_from low ys ≡ true → Same xs ys → xs ≡ ys
same_from low [] [] h k s = refl
same_from low [] (y ∷ ys) h k s = let p = ascends_parts low y ys k in let a = p.1 in absurd (false≢true (s y.from ∙ first_in y ys y.from (omega (arith, ints)) a))
same_from low (x ∷ xs) [] h k s = let p = ascends_parts low x xs h in let a = p.1 in absurd (false≢true (sym (s x.from) ∙ first_in x xs x.from (omega (arith, ints)) a))
same_from low (x ∷ xs) (y ∷ ys) h k s =
    let e : x.from ≡ y.from = equal_from x.from y.from (not_earlier low x xs y ys h k s) (not_earlier low y ys x xs k h (λ i. sym (s i))) in
    let f : x.to ≡ y.to = equal_from x.to y.to (not_shorter low x xs y ys h s e) (not_shorter low y ys x xs k (λ i. sym (s i)) (sym e)) in
    let g : x ≡ y = ap (λ a. made a x.to) e ∙ ap (λ b. made y.from b) f in
    let k' = (ascends_parts low y ys k).2 in
    let t : xs ≡ ys = same_from x.to xs ys (ascends_parts low x xs h).2 (rw f k') (tails low x xs ys h (rw f k') (λ i. s i ∙ ap (λ z. in_runs (z ∷ ys) i) (sym g))) in
    ap (λ z. z ∷ xs) g ∙ ap (λ zs. y ∷ zs) t

-- two rows lie above some number
pub same_row : (xs ys : List Run) → ascend xs ≡ true → ascend ys ≡ true → Same xs ys → xs ≡ ys
same_row [] [] h k s = refl
same_row [] (y ∷ ys) h k s = let p = and_parts (int_lt y.from y.to) (ascend_from y.to ys) k in absurd (false≢true (s y.from ∙ first_in y ys y.from (omega (arith, ints)) (lt_is y.from y.to p.0)))
same_row (x ∷ xs) [] h k s = let p = and_parts (int_lt x.from x.to) (ascend_from x.to xs) h in absurd (false≢true (sym (s x.from) ∙ first_in x xs x.from (omega (arith, ints)) (lt_is x.from x.to p.0)))
same_row (x ∷ xs) (y ∷ ys) h k s =
    let low = int_min x.from y.from -ℤ pos 1 in
    same_from low (x ∷ xs) (y ∷ ys) (rw (lt_true low x.from (omega (arith, ints, clamps))) h) (rw (lt_true low y.from (omega (arith, ints, clamps))) k) s

-- ---- the rows
pub full_has : (r : List Run) → ascend r ≡ true → has_run r ≡ true → (i : ℤ) × (in_runs r i ≡ true)
full_has [] h k = absurd (false≢true k)
full_has (x ∷ xs) h k = let p = and_parts (int_lt x.from x.to) (ascend_from x.to xs) h in (x.from, first_in x xs x.from (omega (arith, ints)) (lt_is x.from x.to p.0))

all_parts : (r : List Run) (rows : List (List Run)) → all_ascend (r ∷ rows) ≡ true → (ascend r ≡ true) × (all_ascend rows ≡ true)
all_parts r rows h = and_parts (ascend r) (all_ascend rows) h

pub row_ascends : (rows : List (List Run)) (k : ℕ) → all_ascend rows ≡ true → ascend (get_or rows k []) ≡ true
row_ascends [] k h = refl
row_ascends (r ∷ rows) zero h = (all_parts r rows h).0
row_ascends (r ∷ rows) (suc k) h = row_ascends rows k (all_parts r rows h).1

pub last_full : (r : List Run) (rows : List (List Run)) → last_has_run_after r rows ≡ true → has_run (get_or (r ∷ rows) (length rows) []) ≡ true
last_full r [] h = h
last_full r (s ∷ rows) h = last_full s rows h

last_has_run-tail : (r : List Run) (rows : List (List Run)) → last_has_run (r ∷ rows) ≡ true → last_has_run rows ≡ true
last_has_run-tail r [] h = refl
last_has_run-tail r (s ∷ rows) h = h

same_rows : (xs ys : List (List Run)) → last_has_run xs ≡ true → last_has_run ys ≡ true → ((k : ℕ) → get_or xs k [] ≡ get_or ys k []) → xs ≡ ys
same_rows [] [] h k s = refl
same_rows [] (y ∷ ys) h k s = absurd (false≢true (ap has_run (s (length ys)) ∙ last_full y ys k))
same_rows (x ∷ xs) [] h k s = absurd (false≢true (ap has_run (sym (s (length xs))) ∙ last_full x xs h))
same_rows (x ∷ xs) (y ∷ ys) h k s = ap (λ z. z ∷ xs) (s zero) ∙ ap (λ zs. y ∷ zs) (same_rows xs ys (last_has_run-tail x xs h) (last_has_run-tail y ys k) (λ n. s (suc n)))

-- ---- the regions
pub region_parts : (top : ℤ) (rows : List (List Run)) → is_canonical top rows ≡ true → (all_ascend rows ≡ true) × (first_has_run rows ≡ true) × (last_has_run rows ≡ true) × (top_fits top rows ≡ true)
region_parts top rows h =
    let p = and_parts (all_ascend rows) (first_has_run rows && (last_has_run rows && top_fits top rows)) h in
    let q = and_parts (first_has_run rows) (last_has_run rows && top_fits top rows) p.1 in
    let r = and_parts (last_has_run rows) (top_fits top rows) q.1 in
    (p.0, q.0, r.0, r.1)

pub zero_test : (z : ℤ) → int_eq z (pos 0) ≡ true → z ≡ pos 0
zero_test z h = grind (arith, ints)

abbrev Agree : ℤ → List (List Run) → ℤ → List (List Run) → Type 0
Agree s xs t ys = (i j : ℤ) → member s xs i j ≡ member t ys i j

member-first : (top : ℤ) (r : List Run) (rows : List (List Run)) (i : ℤ) → member top (r ∷ rows) i top ≡ in_runs r i
member-first top r rows i = let e : top -ℤ top ≡ pos 0 = omega (arith, ints) in ap (λ z. in_runs (row_at (r ∷ rows) z) i) e

pub row_above : (rows : List (List Run)) (z : ℤ) → z <ℤ pos 0 → row_at rows z ≡ []
row_above rows (pos n) h = absurd (omega (arith, ints))
row_above rows (negsuc n) h = refl

pub row_none : (z : ℤ) → row_at [] z ≡ []
row_none (pos n) = refl
row_none (negsuc n) = refl

zero_is : (top : ℤ) → is_canonical top [] ≡ true → top ≡ pos 0
zero_is top h = let p = region_parts top [] h in zero_test top p.3

not_empty : (s t : ℤ) (y : List Run) (ys : List (List Run)) → is_canonical t (y ∷ ys) ≡ true → Agree s [] t (y ∷ ys) → ⊥
not_empty s t y ys k m =
    let p = region_parts t (y ∷ ys) k in
    let f = full_has y (all_parts y ys p.0).0 p.1 in
    false≢true (sym (ap (λ z. in_runs z f.0) (row_none (t -ℤ s))) ∙ m f.0 t ∙ member-first t y ys f.0 ∙ f.1)

not_above : (s t : ℤ) (x : List Run) (xs ys : List (List Run)) → is_canonical s (x ∷ xs) ≡ true → Agree s (x ∷ xs) t ys → s <ℤ t → ⊥
not_above s t x xs ys h m l =
    let p = region_parts s (x ∷ xs) h in
    let f = full_has x (all_parts x xs p.0).0 p.1 in
    false≢true (sym (ap (λ z. in_runs z f.0) (row_above ys (s -ℤ t) (omega (arith, ints)))) ∙ sym (m f.0 s) ∙ member-first s x xs f.0 ∙ f.1)

rows_agree : (s : ℤ) (xs ys : List (List Run)) → all_ascend xs ≡ true → all_ascend ys ≡ true → Agree s xs s ys → (k : ℕ) → get_or xs k [] ≡ get_or ys k []
rows_agree s xs ys h l m k =
    let e : (s +ℤ pos k) -ℤ s ≡ pos k = omega (arith, ints) in
    same_row (get_or xs k []) (get_or ys k []) (row_ascends xs k h) (row_ascends ys k l) (λ i. rw e at (m i (s +ℤ pos k)))

pub one_region : (s t : ℤ) (xs ys : List (List Run)) → is_canonical s xs ≡ true → is_canonical t ys ≡ true → Agree s xs t ys → (s ≡ t) × (xs ≡ ys)
one_region s t [] [] h k m = (zero_is s h ∙ sym (zero_is t k), refl)
one_region s t [] (y ∷ ys) h k m = absurd (not_empty s t y ys k m)
one_region s t (x ∷ xs) [] h k m = absurd (not_empty t s x xs h (λ i j. sym (m i j)))
one_region s t (x ∷ xs) (y ∷ ys) h k m =
    let e : s ≡ t = equal_from s t (not_above s t x xs (y ∷ ys) h m) (not_above t s y ys (x ∷ xs) k (λ i j. sym (m i j))) in
    let p = region_parts s (x ∷ xs) h in
    let q = region_parts t (y ∷ ys) k in
    (e, same_rows (x ∷ xs) (y ∷ ys) p.2 q.2 (rows_agree s (x ∷ xs) (y ∷ ys) p.0 q.0 (rw (← e) at m)))

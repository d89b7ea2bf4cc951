-- How far from 0 the samples of a region lie.
use Rattle.std.proofs.Common.{◌≡◌, ℕ, zero, suc, ◌<◌, ◌≤◌, true, ◌&&◌, ⊎_elim, ℤ, pos, negsuc, ◌+ℤ◌, ◌-ℤ◌, ◌≤ℤ◌, ◌<ℤ◌, sym, ap, ◌∙◌, arith, int_lt, int_le, List, [], ◌∷◌, All, length, get_or}
use Rattle.std.proofs.lemmas.Int.{ints}
use Rattle.std.proofs.lemmas.Bool.{and_parts, or_cases, or_right, false≢true, cases_lt}
use Rattle.std.proofs.lemmas.List.{get_or_past, get_or_default}
use Rattle.std.proofs.lemmas.List.Elements.{All-head, All-tail, All-get_or, All-nil}
use Rattle.ass_num.specs.Limits.{IsWithin, IsRunWithin, IsRegionWithin}
use Rattle.ass_num.specs.Regions.{in_runs, row_at, member, is_canonical}
use Rattle.ass_num.specs.declared.region.Run.{Run}
use Rattle.ass_num.proofs.OrderLemmas.{first_in, lt_is, le_is}
use Rattle.ass_num.proofs.RegionLemmas.{run_at, zero_test, row_ascends, region_parts, full_has, last_full}

pub IsWithin-wider : (limit more : ℕ) (i : ℤ) → limit ≤ more → IsWithin limit i → IsWithin more i
IsWithin-wider limit more i l h = let a = h.0 in let b = h.1 in (omega (arith, ints), omega (arith, ints))

-- ---- from the samples to the region
pub run_covers : (rs : List Run) (n : ℕ) (d : Run) (i : ℤ) → n < length rs → (get_or rs n d).from ≤ℤ i → i <ℤ (get_or rs n d).to → in_runs rs i ≡ true
run_covers [] n d i l a b = absurd (omega arith)
run_covers (r ∷ rs) zero d i l a b = first_in r rs i a b
run_covers (r ∷ rs) (suc n) d i l a b = or_right (int_le r.from i && int_lt i r.to) (in_runs rs i) (run_covers rs n d i (omega arith) a b)

row_member : (top : ℤ) (rows : List (List Run)) (k : ℕ) (i : ℤ) → in_runs (get_or rows k []) i ≡ true → member top rows i (top +ℤ pos k) ≡ true
row_member top rows k i h = let e : (top +ℤ pos k) -ℤ top ≡ pos k = omega (arith, ints) in ap (λ z. in_runs (row_at rows z) i) e ∙ h

runs_within : (limit : ℕ) (top : ℤ) (rows : List (List Run)) → is_canonical top rows ≡ true → ((i j : ℤ) → member top rows i j ≡ true → IsWithin limit i × IsWithin limit j) → All (All (IsRunWithin limit)) rows
runs_within limit top rows h near k d l n e m =
    let same = get_or_default rows k d [] l in
    let m' : n < length (get_or rows k []) = rw same at m in
    let r : Run = get_or (get_or rows k []) n e in
    let s : r.from <ℤ r.to = run_at (get_or rows k []) n e (row_ascends rows k (region_parts top rows h).0) m' in
    let a = (near r.from (top +ℤ pos k) (row_member top rows k r.from (run_covers (get_or rows k []) n e r.from m' (omega (arith, ints)) s))).0.0 in
    let b = (near (r.to -ℤ pos 1) (top +ℤ pos k) (row_member top rows k (r.to -ℤ pos 1) (run_covers (get_or rows k []) n e (r.to -ℤ pos 1) m' (omega (arith, ints)) (omega (arith, ints))))).0.1 in
    rw same (record { left = a; right = omega (arith, ints) })

pub within_from : (limit : ℕ) (top : ℤ) (rows : List (List Run)) → is_canonical top rows ≡ true → ((i j : ℤ) → member top rows i j ≡ true → IsWithin limit i × IsWithin limit j) → IsRegionWithin limit top rows
within_from limit top [] h near =
    let p = region_parts top [] h in
    let z : top ≡ pos 0 = zero_test top p.3 in
    record { above = rw z (omega (arith, ints)); below = rw z (omega (arith, ints)); runs = All-nil (All (IsRunWithin limit)) }
within_from limit top (r ∷ rows) h near =
    let p = region_parts top (r ∷ rows) h in
    let first = full_has r (row_ascends (r ∷ rows) 0 p.0) p.1 in
    let last = full_has (get_or (r ∷ rows) (length rows) []) (row_ascends (r ∷ rows) (length rows) p.0) (last_full r rows p.2) in
    let a = (near first.0 (top +ℤ pos 0) (row_member top (r ∷ rows) 0 first.0 first.1)).1.0 in
    let b = (near last.0 (top +ℤ pos (length rows)) (row_member top (r ∷ rows) (length rows) last.0 last.1)).1.1 in
    record { above = omega (arith, ints); below = omega (arith, ints); runs = runs_within limit top (r ∷ rows) h near }

-- ---- and back
runs_near : (limit : ℕ) (rs : List Run) (i : ℤ) → All (IsRunWithin limit) rs → in_runs rs i ≡ true → IsWithin limit i
runs_near limit [] i w h = absurd (false≢true h)
runs_near limit (r ∷ rs) i w h =
    ⊎_elim
    (λ e.
    let p = and_parts (int_le r.from i) (int_lt i r.to) e in
    let a = le_is r.from i p.0 in
    let b = lt_is i r.to p.1 in
    let v = All-head (IsRunWithin limit) r rs w in
    let c = v.left in
    let d = v.right in
    (omega (arith, ints), omega (arith, ints)))
    (λ e. runs_near limit rs i (All-tail (IsRunWithin limit) r rs w) e)
    (or_cases (int_le r.from i && int_lt i r.to) (in_runs rs i) h)

row_near : (limit : ℕ) (rows : List (List Run)) (i z : ℤ) → All (All (IsRunWithin limit)) rows → in_runs (row_at rows z) i ≡ true → IsWithin limit i × (pos 0 ≤ℤ z) × (z <ℤ pos (length rows))
row_near limit rows i (negsuc n) w h = absurd (false≢true h)
row_near limit rows i (pos k) w h =
    ⊎_elim
    (λ (l : k < length rows). (runs_near limit (get_or rows k []) i (All-get_or (All (IsRunWithin limit)) rows k [] l w) h, omega (arith, ints), omega (arith, ints)))
    (λ (l : length rows ≤ k). absurd (false≢true (ap (λ r. in_runs r i) (sym (get_or_past rows k [] l)) ∙ h)))
    (cases_lt k (length rows))

pub member_near : (limit : ℕ) (top : ℤ) (rows : List (List Run)) (i j : ℤ) → IsRegionWithin limit top rows → member top rows i j ≡ true → IsWithin limit i × IsWithin limit j
member_near limit top rows i j w h =
    let p = row_near limit rows i (j -ℤ top) w.runs h in
    let a = w.above in
    let b = w.below in
    let c = p.1 in
    let d = p.2 in
    (p.0, (omega (arith, ints), omega (arith, ints)))

-- A row counted run by run, and a pixel row counted row by row.
use Rattle.std.proofs.Common.{◌≡◌, ℕ, zero, suc, ◌+◌, ◌-◌, ◌*◌, ◌<◌, ◌≤◌, Bool, true, false, not, ℤ, pos, negsuc, ◌+ℤ◌, ◌-ℤ◌, ◌<ℤ◌, ◌≤ℤ◌, refl, sym, ap, ◌∙◌, arith, List, [], ◌∷◌, ◌++◌, length, length-append, unsigned_abs, get_or, drop, drop-cons}
use Rattle.std.proofs.Math.Nat.{mul-le-mul_left}
use Rattle.std.proofs.lemmas.Int.{ints, by_lt_z}
use Rattle.std.proofs.lemmas.List.{get_or_append_left, get_or_push, get_or_past}
use Rattle.std.proofs.lemmas.Bool.{not-false}
use Rattle.std.proofs.lemmas.Slice.Eq.{slice_eq-Decides}
use Rattle.std.specs.Bool.{Decides}
use Rattle.std.specs.Cmp.{signed_Decides}
use Rattle.std.specs.Cmp.Lexicographic.{pointwise}
use Rattle.ass_num.specs.Coverage.{sum_from, coverage_byte}
use Rattle.ass_num.specs.Regions.{ascend, row_at}
use Rattle.ass_num.specs.contracts.region.RunPartialEq.TheImpl as run
use Rattle.ass_num.specs.declared.region.Run.{Run}
use Rattle.ass_num.proofs.MaskLemmas.{cell_below}
use Rattle.ass_num.proofs.RegionLemmas.{first_ascends, rest_ascends}
use Rattle.ass_num.proofs.SumLemmas.{sum_from-bound}
use Rattle.mask_cover.proofs.SampleLemmas.{row_count-cons, row_count-none, row_count-le}
use Rattle.mask_cover.proofs.StepLemmas.{sum_first-none}
use Rattle.mask_cover.specs.Steps.{sum_first, samples_after, row_count, cell_count, CountsWithin, IsRowPushed, HasCells, HasMoreCells}

drop_ascends : (runs : List Run) (k : ℕ) → ascend runs ≡ true → ascend (drop k runs) ≡ true
drop_ascends [] zero h = refl
drop_ascends [] (suc k) h = refl
drop_ascends (r ∷ rs) zero h = h
drop_ascends (r ∷ rs) (suc k) h = drop_ascends rs k (rest_ascends r rs h)

-- the run at k is counted
pub drop_step : (runs : List Run) (k : ℕ) (d : Run) (left : ℤ) (a b c : ℕ) → ascend runs ≡ true → k < length runs → (get_or runs k d).from ≡ left +ℤ pos a → (get_or runs k d).to ≡ left +ℤ pos b
    → row_count (drop k runs) left c + samples_after b c ≡ row_count (drop (k + 1) runs) left c + samples_after a c
drop_step runs k d left a b c h p e f =
    let next : k + 1 ≡ suc k = omega arith in
    let cut : drop k runs ≡ get_or runs k d ∷ drop (suc k) runs = drop-cons runs k d p in
    rw (next, cut) (row_count-cons (get_or runs k d) (drop (suc k) runs) left a b c (rw cut at (drop_ascends runs k h)) e f)

-- the ends of the run at k
pub run_at : (runs : List Run) (k : ℕ) (d : Run) → ascend runs ≡ true → k < length runs → (get_or runs k d).from <ℤ (get_or runs k d).to
run_at runs k d h p =
    let cut : drop k runs ≡ get_or runs k d ∷ drop (suc k) runs = drop-cons runs k d p in
    (first_ascends (get_or runs k d) (drop (suc k) runs) (rw cut at (drop_ascends runs k h))).0

-- the run at k is counted so many times
pub drop_step_times : (runs : List Run) (k : ℕ) (d : Run) (left : ℤ) (a b c times : ℕ) → ascend runs ≡ true → k < length runs → (get_or runs k d).from ≡ left +ℤ pos a → (get_or runs k d).to ≡ left +ℤ pos b
    → times * row_count (drop k runs) left c + times * samples_after b c ≡ times * row_count (drop (k + 1) runs) left c + times * samples_after a c
drop_step_times runs k d left a b c times h p e f = both (row_count (drop k runs) left c) (samples_after b c) (row_count (drop (k + 1) runs) left c) (samples_after a c) times (drop_step runs k d left a b c h p e f)
  where
    spread : (t x y : ℕ) → t * x + t * y ≡ t * (x + y)
    spread t x y = omega arith

    both : (w x y z t : ℕ) → w + x ≡ y + z → t * w + t * x ≡ t * y + t * z
    both w x y z t e = spread t w x ∙ ap (λ n. t * n) e ∙ sym (spread t y z)

-- where a part of a row is counted, the counts stay small
pub counts_now : (old now : List ℤ) (runs rest : List Run) (left : ℤ) (times : ℕ) → times ≤ 16 → CountsWithin (256 - 16 * times) old
    → ((c : ℕ) → sum_first now (c + 1) +ℤ pos (times * row_count rest left c) ≡ sum_first old (c + 1) +ℤ pos (times * row_count runs left c))
    → ((c : ℕ) → sum_first old (c + 1) ≤ℤ sum_first now (c + 1)) → CountsWithin 256 now
counts_now old now runs rest left times few h same more zero = let none = sum_first-none now in (omega (arith, ints, none), omega (arith, ints, none))
counts_now old now runs rest left times few h same more (suc c) =
    let next : c + 1 ≡ suc c = omega arith in
    let was = h (c + 1) in
    let most = mul-le-mul_left times (row_count-le runs left c) in
    let here = same c in
    let least = more c in
    rw (sym next) (omega (arith, ints, was.0), omega (arith, ints, was.1, most))

-- ---- pixel rows

-- rows that aren't found different by `!=` are alike
run_decides : (a b : Run) → Decides (run.ghosts.eq a b) (a ≡ b)
run_decides a b = (λ e. grind (arith, signed_Decides a.from b.from, signed_Decides a.to b.to), λ e. rw e (grind (arith, signed_Decides b.from b.from, signed_Decides b.to b.to)))

pub alike_if : (row first : List Run) (differ : Bool) → differ ≡ not (pointwise run.ghosts.eq row first) → differ ≡ false → row ≡ first
alike_if row first differ is e = (slice_eq-Decides {E = run.ghosts.eq} run_decides row first (pointwise run.ghosts.eq row first) refl).0 (not-false (pointwise run.ghosts.eq row first) (sym is ∙ e))

pub cell_count-none : (rows : List (List Run)) (left : ℤ) (above row c : ℕ) → cell_count rows left above row c 0 ≡ 0
unfolding cell_count sum_from
cell_count-none rows left above row c = refl

pub cell_count-le : (rows : List (List Run)) (left : ℤ) (above row c n : ℕ) → cell_count rows left above row c n ≤ 16 * n
unfolding cell_count
cell_count-le rows left above row c n = sum_from-bound (λ k. row_count (row_at rows k) left c) (pos (16 * row) -ℤ pos above) n 16 (λ k less. row_count-le (row_at rows ((pos (16 * row) -ℤ pos above) +ℤ pos k)) left c)

cell_count-next : (rows : List (List Run)) (left : ℤ) (above row c n : ℕ) → cell_count rows left above row c (n + 1) ≡ cell_count rows left above row c n + row_count (row_at rows ((pos (16 * row) -ℤ pos above) +ℤ pos n)) left c
unfolding cell_count sum_from
cell_count-next rows left above row c n = let next : n + 1 ≡ suc n = omega arith in rw next refl

-- a row of the region, above it, and below it
pub cell_count-row : (rows : List (List Run)) (left : ℤ) (above row c n k : ℕ) → 16 * row + n ≡ above + k → cell_count rows left above row c (n + 1) ≡ cell_count rows left above row c n + row_count (get_or rows k []) left c
cell_count-row rows left above row c n k e =
    let at : (pos (16 * row) -ℤ pos above) +ℤ pos n ≡ pos k = omega (arith, ints) in
    cell_count-next rows left above row c n ∙ ap (λ z. cell_count rows left above row c n + row_count (row_at rows z) left c) at

-- rows that are alike are counted as one of them, so many times
pub cell_count-alike : (rows : List (List Run)) (left : ℤ) (above row c b k n : ℕ) → 16 * row + b ≡ above + k → ((m : ℕ) → m < n → get_or rows (k + m) [] ≡ get_or rows k []) → cell_count rows left above row c (b + n) ≡ cell_count rows left above row c b + n * row_count (get_or rows k []) left c
cell_count-alike rows left above row c b k zero e alike = let z : b + 0 ≡ b = omega arith in rw z (omega arith)
cell_count-alike rows left above row c b k (suc n) e alike =
    let rest = cell_count-alike rows left above row c b k n e (λ m l. alike m (omega arith)) in
    let place : b + suc n ≡ (b + n) + 1 = omega arith in
    let one = cell_count-row rows left above row c (b + n) (k + n) (omega arith) in
    let same = ap (λ r. row_count r left c) (alike n (omega arith)) in
    rw place (omega (arith, rest, one, same))

pub cell_count-above : (rows : List (List Run)) (left : ℤ) (above row c n : ℕ) → 16 * row + n < above → cell_count rows left above row c (n + 1) ≡ cell_count rows left above row c n
cell_count-above rows left above row c n e =
    let at : (pos (16 * row) -ℤ pos above) +ℤ pos n ≡ negsuc (above - (16 * row + n) - 1) = omega (arith, ints) in
    cell_count-next rows left above row c n ∙ ap (λ z. cell_count rows left above row c n + row_count (row_at rows z) left c) at
    ∙ omega (arith, row_count-none left c)

pub cell_count-below : (rows : List (List Run)) (left : ℤ) (above row c n k : ℕ) → 16 * row + n ≡ above + k → length rows ≤ k → cell_count rows left above row c (n + 1) ≡ cell_count rows left above row c n
cell_count-below rows left above row c n k e h =
    cell_count-row rows left above row c n k e ∙ ap (λ z. cell_count rows left above row c n + row_count z left c) (get_or_past rows k [] h)
    ∙ omega (arith, row_count-none left c)

-- counts of pixels are sums of steps
pub counts_of : (steps : List ℤ) (f : ℕ → ℕ) (most : ℕ) → ((c : ℕ) → sum_first steps (c + 1) ≡ pos (f c)) → ((c : ℕ) → f c ≤ most) → CountsWithin most steps
counts_of steps f most e h zero = let none = sum_first-none steps in (omega (arith, ints, none), omega (arith, ints, none))
counts_of steps f most e h (suc c) =
    let next : c + 1 ≡ suc c = omega arith in
    let is = e c in
    let small = h c in
    rw (sym next) (omega (arith, ints), omega (arith, ints))

-- one more byte
pub row_push : (steps : List ℤ) (c v : ℕ) (before now : List ℕ) → IsRowPushed steps c before now → v ≡ coverage_byte (unsigned_abs (sum_first steps (c + 1))) → IsRowPushed steps (c + 1) before (now ++ v ∷ [])
row_push steps c v before now h e =
    let size = h.count in
    record {
      count = omega (arith, length-append now (v ∷ []));
      kept = λ k p. get_or_append_left now (v ∷ []) 0 k (omega arith) ∙ h.kept k p;
      row = λ i p. by_lt_z (pos i) (pos c)
          (λ (l : pos i <ℤ pos c). get_or_append_left now (v ∷ []) 0 (length before + i) (omega (arith, ints)) ∙ h.row i (omega (arith, ints)))
          (λ (l : pos c ≤ℤ pos i).
          let same : i ≡ c = omega (arith, ints) in
          let end : length now ≡ length before + c = omega arith in
          rw same (get_or_push now v 0 (length before + c) end ∙ e));
    }

-- behind the last run nothing is left
pub row_count-end : (runs : List Run) (k : ℕ) (left : ℤ) (c : ℕ) → length runs ≤ k → row_count (drop k runs) left c ≡ 0
row_count-end [] zero left c h = row_count-none left c
row_count-end [] (suc k) left c h = row_count-none left c
row_count-end (r ∷ rs) zero left c h = absurd (omega arith)
row_count-end (r ∷ rs) (suc k) left c h = row_count-end rs k left c (omega arith)

pub byte_same : (v : ℤ) (b : ℕ) (z : ℤ) → b ≡ coverage_byte (unsigned_abs v) → v ≡ z → b ≡ coverage_byte (unsigned_abs z)
byte_same v b z e f = rw (sym f) e

-- the counted row stands behind the others
pub more_cells : (rows : List (List Run)) (left : ℤ) (above w row : ℕ) (steps : List ℤ) (before now : List ℕ) → ((c : ℕ) → sum_first steps (c + 1) ≡ pos (cell_count rows left above row c 16)) → IsRowPushed steps w before now → HasMoreCells rows left above w row before now
more_cells rows left above w row steps before now e h = record {
  count = h.count;
  kept = h.kept;
  cells = λ i p. h.row i p ∙ ap (λ z. coverage_byte (unsigned_abs z)) (e i);
}

pub no_cells : (rows : List (List Run)) (left : ℤ) (above w : ℕ) (bytes : List ℕ) → length bytes ≡ 0 → HasCells rows left above w 0 bytes
no_cells rows left above w bytes e = record { count = omega arith; cells = λ i j p q. absurd (omega arith) }

pub next_cells : (rows : List (List Run)) (left : ℤ) (above w h : ℕ) (before now : List ℕ) → HasCells rows left above w h before → HasMoreCells rows left above w h before now → HasCells rows left above w (h + 1) now
next_cells rows left above w h before now was more =
    let old = was.count in
    let new = more.count in
    record {
      count = omega arith;
      cells = λ i j p q. by_lt_z (pos j) (pos h)
          (λ (l : pos j <ℤ pos h).
          let inner : j * w + i < length before = omega (arith, cell_below i j w h p (omega (arith, ints))) in
          more.kept (j * w + i) inner ∙ was.cells i j p (omega (arith, ints)))
          (λ (l : pos h ≤ℤ pos j).
          let same : j ≡ h = omega (arith, ints) in
          let place : h * w + i ≡ length before + i = omega arith in
          rw (same, place) (more.cells i p));
    }

pub left_is : (rows : List (List Run)) (left other : ℤ) (above w row : ℕ) (before now : List ℕ) → left ≡ other → HasMoreCells rows left above w row before now → HasMoreCells rows other above w row before now
left_is rows left other above w row before now e h = rw (sym e) h

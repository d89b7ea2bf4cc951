-- When rows are in canonical form, by their first and last row.
use Rattle.std.proofs.Common.{◌≡◌, ◌-◌, ◌<◌, ℤ, Bool, true, false, ◌&&◌, refl, ◌∙◌, arith, List, [], ◌∷◌, length, get_or}
use Rattle.ass_num.specs.Regions.{all_ascend, has_run, last_has_run_after, is_canonical}
use Rattle.ass_num.specs.declared.region.Run.{Run}

last_after : (r : List Run) (rows : List (List Run)) → last_has_run_after r rows ≡ has_run (get_or (r ∷ rows) (length rows) [])
last_after r [] = refl
last_after r (s ∷ rows) = last_after s rows

last_row : (r : List Run) (rows : List (List Run)) → last_has_run_after r rows ≡ has_run (get_or (r ∷ rows) (length (r ∷ rows) - 1) [])
last_row r rows = let e : length (r ∷ rows) - 1 ≡ length rows = omega arith in rw e (last_after r rows)

and_true : (a : Bool) → (a && true) ≡ a
and_true true = refl
and_true false = refl

and_false : (a : Bool) → (a && false) ≡ false
and_false true = refl
and_false false = refl

-- rows whose first row has no run
pub canonical-first : (top : ℤ) (rows : List (List Run)) → 0 < length rows → has_run (get_or rows 0 []) ≡ false → is_canonical top rows ≡ false
canonical-first top [] l h = absurd (omega arith)
canonical-first top (r ∷ rows) l h = rw h (and_false (all_ascend (r ∷ rows)))

-- rows whose last row has no run
pub canonical-last : (top : ℤ) (rows : List (List Run)) → 0 < length rows → has_run (get_or rows (length rows - 1) []) ≡ false → is_canonical top rows ≡ false
canonical-last top [] l h = absurd (omega arith)
canonical-last top (r ∷ rows) l h = rw (last_row r rows ∙ h, and_false (has_run r)) (and_false (all_ascend (r ∷ rows)))

-- rows whose first and last row have runs
pub canonical-rest : (top : ℤ) (rows : List (List Run)) → 0 < length rows → has_run (get_or rows 0 []) ≡ true → has_run (get_or rows (length rows - 1) []) ≡ true → is_canonical top rows ≡ all_ascend rows
canonical-rest top [] l h k = absurd (omega arith)
canonical-rest top (r ∷ rows) l h k = rw (last_row r rows ∙ k, h) (and_true (all_ascend (r ∷ rows)))

-- Rows of runs that are joined run by run.
use Rattle.std.proofs.Common.{◌≡◌, ℕ, zero, suc, ◌+◌, ◌<◌, Bool, true, false, ◌&&◌, ◌||◌, ℤ, ◌≤ℤ◌, ◌<ℤ◌, pos, ◌-ℤ◌, ◌+ℤ◌, refl, sym, ap, ◌∙◌, arith, int_lt, int_le, List, [], ◌∷◌, ◌++◌, Some, length, get_or, take}
use Rattle.std.proofs.lemmas.Int.{ints, by_lt_z, clamps}
use Rattle.std.specs.Int.{int_max}
use Rattle.std.proofs.lemmas.Bool.{and_parts, and_from}
use Rattle.std.proofs.lemmas.List.{take_more, get_or_default}
use Rattle.std.proofs.lemmas.List.Elements.{All-push, All-pop, All-weaker, All-nil}
use Rattle.ass_num.specs.Regions.{in_runs, ascend, ascend_from, member}
use Rattle.ass_num.specs.declared.region.Run.{Run}
use Rattle.region_rows.specs.Joins.{AllBegin, IsJoinedTo, BeginsFirst, AreRunsJoined}
use Rattle.ass_num.proofs.OrderLemmas.{lt_true, lt_false, le_true, le_false, lt_is}
use Rattle.region_rows.proofs.GrowthLemmas.{row_at-past}
use Rattle.ass_num.proofs.RegionLemmas.{row_above, ascends_parts}

pub or_false : (b : Bool) → (b || false) ≡ b
or_false true = refl
or_false false = refl

pub or_assoc : (a b c : Bool) → (a || (b || c)) ≡ ((a || b) || c)
or_assoc true b c = refl
or_assoc false b c = refl

pub in_runs-push : (rs : List Run) (r : Run) (i : ℤ) → in_runs (rs ++ r ∷ []) i ≡ (in_runs rs i || (int_le r.from i && int_lt i r.to))
in_runs-push [] r i = or_false (int_le r.from i && int_lt i r.to)
in_runs-push (s ∷ rs) r i = ap (λ b. (int_le s.from i && int_lt i s.to) || b) (in_runs-push rs r i) ∙ or_assoc (int_le s.from i && int_lt i s.to) (in_runs rs i) (int_le r.from i && int_lt i r.to)

-- ---- one more run
from_apart : (low : ℤ) (rs : List Run) (last run : Run) → last.to <ℤ run.from → run.from <ℤ run.to → ascend_from low (rs ++ last ∷ []) ≡ true → ascend_from low ((rs ++ last ∷ []) ++ run ∷ []) ≡ true
from_apart low [] last run h k a =
    let p = and_parts (int_lt low last.from && int_lt last.from last.to) true a in
    rw (p.0, lt_true last.to run.from h, lt_true run.from run.to k) refl
from_apart low (s ∷ rs) last run h k a =
    let p = and_parts (int_lt low s.from && int_lt s.from s.to) (ascend_from s.to (rs ++ last ∷ [])) a in
    and_from (int_lt low s.from && int_lt s.from s.to) (ascend_from s.to ((rs ++ last ∷ []) ++ run ∷ [])) p.0 (from_apart s.to rs last run h k p.1)

ascend_apart : (rs : List Run) (last run : Run) → last.to <ℤ run.from → run.from <ℤ run.to → ascend (rs ++ last ∷ []) ≡ true → ascend ((rs ++ last ∷ []) ++ run ∷ []) ≡ true
ascend_apart [] last run h k a =
    let p = and_parts (int_lt last.from last.to) true a in
    rw (p.0, lt_true last.to run.from h, lt_true run.from run.to k) refl
ascend_apart (s ∷ rs) last run h k a =
    let p = and_parts (int_lt s.from s.to) (ascend_from s.to (rs ++ last ∷ [])) a in
    and_from (int_lt s.from s.to) (ascend_from s.to ((rs ++ last ∷ []) ++ run ∷ [])) p.0 (from_apart s.to rs last run h k p.1)

-- a last run that reaches further
from_wider : (low : ℤ) (rs : List Run) (last r : Run) → r.from ≡ last.from → last.to ≤ℤ r.to → ascend_from low (rs ++ last ∷ []) ≡ true → ascend_from low (rs ++ r ∷ []) ≡ true
from_wider low [] last r e h a =
    let p = and_parts (int_lt low last.from && int_lt last.from last.to) true a in
    let q = and_parts (int_lt low last.from) (int_lt last.from last.to) p.0 in
    let l : last.from <ℤ last.to = lt_is last.from last.to q.1 in
    rw (e, q.0, lt_true last.from r.to (omega (arith, ints))) refl
from_wider low (s ∷ rs) last r e h a =
    let p = and_parts (int_lt low s.from && int_lt s.from s.to) (ascend_from s.to (rs ++ last ∷ [])) a in
    and_from (int_lt low s.from && int_lt s.from s.to) (ascend_from s.to (rs ++ r ∷ [])) p.0 (from_wider s.to rs last r e h p.1)

ascend_wider : (rs : List Run) (last r : Run) → r.from ≡ last.from → last.to ≤ℤ r.to → ascend (rs ++ last ∷ []) ≡ true → ascend (rs ++ r ∷ []) ≡ true
ascend_wider [] last r e h a =
    let p = and_parts (int_lt last.from last.to) true a in
    let l : last.from <ℤ last.to = lt_is last.from last.to p.0 in
    rw (e, lt_true last.from r.to (omega (arith, ints))) refl
ascend_wider (s ∷ rs) last r e h a =
    let p = and_parts (int_lt s.from s.to) (ascend_from s.to (rs ++ last ∷ [])) a in
    and_from (int_lt s.from s.to) (ascend_from s.to (rs ++ r ∷ [])) p.0 (from_wider s.to rs last r e h p.1)

-- two runs that meet cover what one does
meeting : (f t g u i : ℤ) → f ≤ℤ g → g ≤ℤ t → (int_le f i && int_lt i (int_max t u)) ≡ ((int_le f i && int_lt i t) || (int_le g i && int_lt i u))
meeting f t g u i h k =
    by_lt_z i f
    (λ (a : i <ℤ f). rw (le_false f i a, le_false g i (omega (arith, ints))) refl)
    (λ (a : f ≤ℤ i). by_lt_z i t
    (λ (b : i <ℤ t). rw (le_true f i a, lt_true i t b, lt_true i (int_max t u) (omega (arith, ints, clamps))) refl)
    (λ (b : t ≤ℤ i). by_lt_z i u
    (λ (d : i <ℤ u). rw (le_true f i a, lt_false i t b, le_true g i (omega (arith, ints)), lt_true i u d, lt_true i (int_max t u) (omega (arith, ints, clamps))) refl)
    (λ (d : u ≤ℤ i). rw (le_true f i a, lt_false i t b, le_true g i (omega (arith, ints)), lt_false i u d, lt_false i (int_max t u) (omega (arith, ints, clamps))) refl)))

pub joined_first : (run : Run) → run.from <ℤ run.to → IsJoinedTo [] run (run ∷ [])
joined_first run h = record {
  covers = λ i. or_false (int_le run.from i && int_lt i run.to);
  ascends = rw (lt_true run.from run.to h) refl;
  begin = λ limit l. All-push (λ (r : Run). r.from ≤ℤ limit) [] run (All-nil (λ (r : Run). r.from ≤ℤ limit)) l;
}

begin_later : (limit later : ℤ) (rs : List Run) → limit ≤ℤ later → AllBegin limit rs → AllBegin later rs
begin_later limit later rs h a = All-weaker (λ (r : Run). r.from ≤ℤ limit) (λ (r : Run). r.from ≤ℤ later) (λ r k. omega (arith, ints)) rs a

pub joined_apart : (rs : List Run) (last run : Run) → ascend (rs ++ last ∷ []) ≡ true → AllBegin run.from (rs ++ last ∷ []) → last.to <ℤ run.from → run.from <ℤ run.to → IsJoinedTo (rs ++ last ∷ []) run ((rs ++ last ∷ []) ++ run ∷ [])
joined_apart rs last run a b h k = record {
  covers = λ i. in_runs-push (rs ++ last ∷ []) run i;
  ascends = ascend_apart rs last run h k a;
  begin = λ limit l. All-push (λ (r : Run). r.from ≤ℤ limit) (rs ++ last ∷ []) run (begin_later run.from limit (rs ++ last ∷ []) l b) l;
}

pub joined_meeting : (rs : List Run) (last run r : Run) → ascend (rs ++ last ∷ []) ≡ true → AllBegin run.from (rs ++ last ∷ []) → run.from ≤ℤ last.to → r.from ≡ last.from → r.to ≡ int_max last.to run.to → IsJoinedTo (rs ++ last ∷ []) run (rs ++ r ∷ [])
joined_meeting rs last run r a b h e f =
    let p = All-pop (λ (r : Run). r.from ≤ℤ run.from) (rs ++ last ∷ []) rs (Some last) refl b in
    let q : last.from ≤ℤ run.from = p.1 in
    record {
      covers = λ i.
          in_runs-push rs r i ∙ rw (e, f, meeting last.from last.to run.from run.to i q h) (or_assoc (in_runs rs i) (int_le last.from i && int_lt i last.to) (int_le run.from i && int_lt i run.to)) ∙ ap (λ x. x || (int_le run.from i && int_lt i run.to)) (sym (in_runs-push rs last i));
      ascends = ascend_wider rs last r e (rw f (omega (arith, ints, clamps))) a;
      begin = λ limit l. All-push (λ (r : Run). r.from ≤ℤ limit) rs r (begin_later run.from limit rs l p.0) (rw e (omega (arith, ints)));
    }

-- ---- the runs of a row in turn
above : (xs : List Run) → ascend xs ≡ true → (low : ℤ) × (ascend_from low xs ≡ true)
above [] a = (pos 0, refl)
above (x ∷ xs) a =
    let p = and_parts (int_lt x.from x.to) (ascend_from x.to xs) a in
    (x.from -ℤ pos 1, rw (lt_true (x.from -ℤ pos 1) x.from (omega (arith, ints)), p.0, p.1) refl)

run_from : (low : ℤ) (xs : List Run) (k : ℕ) (d : Run) → ascend_from low xs ≡ true → k < length xs → (low <ℤ (get_or xs k d).from) × ((get_or xs k d).from <ℤ (get_or xs k d).to)
run_from low [] k d a l = absurd (omega arith)
run_from low (x ∷ xs) zero d a l = let p = ascends_parts low x xs a in (p.0, p.1)
run_from low (x ∷ xs) (suc k) d a l =
    let p = ascends_parts low x xs a in
    let p0 = p.0 in
    let p1 = p.1 in
    let q = run_from x.to xs k d p.2 (omega arith) in
    let q0 = q.0 in
    (omega (arith, ints), q.1)

next_from : (low : ℤ) (xs : List Run) (k : ℕ) (d : Run) → ascend_from low xs ≡ true → suc k < length xs → (get_or xs k d).from ≤ℤ (get_or xs (suc k) d).from
next_from low [] k d a l = absurd (omega arith)
next_from low (x ∷ xs) zero d a l =
    let p = ascends_parts low x xs a in
    let p1 = p.1 in
    let q = run_from x.to xs 0 d p.2 (omega arith) in
    let q0 = q.0 in
    omega (arith, ints)
next_from low (x ∷ xs) (suc k) d a l = let p = ascends_parts low x xs a in next_from x.to xs k d p.2 (omega arith)

pub next_at : (xs : List Run) (k : ℕ) (d : Run) → ascend xs ≡ true → k + 1 < length xs → (get_or xs k d).from ≤ℤ (get_or xs (k + 1) d).from
next_at xs k d a l = let p = above xs a in let e : k + 1 ≡ suc k = omega arith in rw e (next_from p.0 xs k d p.1 (omega arith))

or_swap : (x y z : Bool) → ((x || y) || z) ≡ ((x || z) || y)
or_swap true y z = refl
or_swap false true true = refl
or_swap false true false = refl
or_swap false false true = refl
or_swap false false false = refl

or_comm : (x y : Bool) → (x || y) ≡ (y || x)
or_comm true true = refl
or_comm true false = refl
or_comm false true = refl
or_comm false false = refl

pub joined_more : (a : List Run) (k : ℕ) (b : List Run) (m : ℕ) (runs new : List Run) (d : Run) → ascend a ≡ true → BeginsFirst a k b m → AreRunsJoined a k b m runs → IsJoinedTo runs (get_or a k d) new → AreRunsJoined a (k + 1) b m new
joined_more a k b m runs new d up first old step = record {
  covers = λ i.
      step.covers i ∙ rw (old.covers i, take_more a k d first.within, in_runs-push (take k a) (get_or a k d) i) (or_swap (in_runs (take k a) i) (in_runs (take m b) i) (int_le (get_or a k d).from i && int_lt i (get_or a k d).to));
  ascends = step.ascends;
  left = λ e l. step.begin (get_or a (k + 1) e).from (rw (get_or_default a k d e first.within) (next_at a k e up l));
  right = λ e l. step.begin (get_or b m e).from (rw (get_or_default a k d e first.within) (first.before e l));
}

pub joined_none : (a b : List Run) → AreRunsJoined a 0 b 0 []
joined_none a b = record {
  covers = λ i. refl;
  ascends = refl;
  left = λ d l. All-nil (λ (r : Run). r.from ≤ℤ (get_or a 0 d).from);
  right = λ d l. All-nil (λ (r : Run). r.from ≤ℤ (get_or b 0 d).from);
}

pub joined_swap : (a : List Run) (k : ℕ) (b : List Run) (m : ℕ) (runs : List Run) → AreRunsJoined a k b m runs → AreRunsJoined b m a k runs
joined_swap a k b m runs h = record {
  covers = λ i. h.covers i ∙ or_comm (in_runs (take k a) i) (in_runs (take m b) i);
  ascends = h.ascends;
  left = h.right;
  right = h.left;
}

-- ---- rows that a region doesn't have
pub member_above : (top : ℤ) (rows : List (List Run)) (i j : ℤ) → j <ℤ top → member top rows i j ≡ false
member_above top rows i j h = ap (λ x. in_runs x i) (row_above rows (j -ℤ top) (omega (arith, ints)))

pub member_below : (top : ℤ) (rows : List (List Run)) (i j : ℤ) → (top +ℤ pos (length rows)) ≤ℤ j → member top rows i j ≡ false
member_below top rows i j h = ap (λ x. in_runs x i) (row_at-past rows (j -ℤ top) (omega (arith, ints)))

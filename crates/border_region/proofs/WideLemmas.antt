-- Rows whose runs reach further to both sides.
use Rattle.std.proofs.Common.{◌≡◌, ℕ, ◌+◌, ◌<◌, Bool, true, false, not, ◌∷◌, ◌&&◌, ◌||◌, ℤ, pos, ◌+ℤ◌, ◌-ℤ◌, ◌≤ℤ◌, ◌<ℤ◌, ◌⊎◌, inl, inr, ⊎_elim, refl, sym, ◌∙◌, arith, int_lt, int_le, List, [], length, get_or, take}
use Rattle.std.proofs.lemmas.Int.{ints, by_lt_z}
use Rattle.std.proofs.lemmas.Bool.{and_parts, or_cases, or_left, or_right, and_from, false≢true}
use Rattle.std.proofs.lemmas.List.{take_more, get_or_default}
use Rattle.std.proofs.lemmas.List.Elements.{All-nil}
use Rattle.ass_num.specs.Limits.{IsWithin}
use Rattle.ass_num.specs.Regions.{in_runs, ascend}
use Rattle.std.specs.Cmp.{signed_Decides}
use Rattle.std.specs.Cmp.Lexicographic.{pointwise}
use Rattle.ass_num.specs.contracts.region.RunPartialEq.TheImpl as run
use Rattle.ass_num.specs.declared.region.Run.{Run}
use Rattle.region_rows.specs.Joins.{AllBegin, IsJoinedTo}
use Rattle.region_rows.proofs.JoinLemmas.{in_runs-push, next_at}
use Rattle.ass_num.proofs.RegionLemmas.{run_at}
use Rattle.ass_num.proofs.LimitLemmas.{run_covers}
use Rattle.ass_num.proofs.OrderLemmas.{lt_is, le_is, lt_true, le_true}
use Rattle.border_region.specs.Widths.{IsRunCovered, Covers, IsWidenedRow, AddsWidened}

-- ---- runs that hold a run
pub covered_by : (rs : List Run) (n : ℕ) (d run : Run) → n < length rs → (get_or rs n d).from ≤ℤ run.from → run.to ≤ℤ (get_or rs n d).to → IsRunCovered run rs
covered_by rs n d run l a b = λ i p q. run_covers rs n d i l (omega (arith, ints)) (omega (arith, ints))

-- ---- the first runs of a row
abbrev front : List Run → ℕ → Run → ℤ → Type 0
front row n d k = (in_runs (take n row) k ≡ true) ⊎ (((get_or row n d).from ≤ℤ k) × (k <ℤ (get_or row n d).to))

front_cases : (row : List Run) (n : ℕ) (d : Run) (k : ℤ) → n < length row → in_runs (take (n + 1) row) k ≡ true → front row n d k
front_cases row n d k l m =
    let r : Run = get_or row n d in
    let h : (in_runs (take n row) k || (int_le r.from k && int_lt k r.to)) ≡ true = sym (in_runs-push (take n row) r k) ∙ rw (take_more row n d l) at m in
    ⊎_elim (λ e. inl e) (λ e. let p = and_parts (int_le r.from k) (int_lt k r.to) e in inr (le_is r.from k p.0, lt_is k r.to p.1))
    (or_cases (in_runs (take n row) k) (int_le r.from k && int_lt k r.to) h)

front_from : (row : List Run) (n : ℕ) (d : Run) (k : ℤ) → n < length row → front row n d k → in_runs (take (n + 1) row) k ≡ true
front_from row n d k l f =
    let r : Run = get_or row n d in
    rw (take_more row n d l, in_runs-push (take n row) r k)
    (⊎_elim (λ e. or_left (in_runs (take n row) k) (int_le r.from k && int_lt k r.to) e)
    (λ p. or_right (in_runs (take n row) k) (int_le r.from k && int_lt k r.to) (and_from (int_le r.from k) (int_lt k r.to) (le_true r.from k p.0) (lt_true k r.to p.1))) f)

-- ---- a row whose runs are held one after another
pub covers_none : (w : ℕ) (runs : List Run) → Covers w [] runs
covers_none w runs = λ k i m near. absurd (false≢true m)

run_same : (a b : Run) → run.ghosts.eq a b ≡ true → a ≡ b
run_same a b e = grind (arith, signed_Decides a.from b.from, signed_Decides a.to b.to)

runs_same : (xs ys : List Run) → pointwise run.ghosts.eq xs ys ≡ true → xs ≡ ys
runs_same [] [] e = refl
runs_same [] (y ∷ ys) e = cc
runs_same (x ∷ xs) [] e = cc
runs_same (x ∷ xs) (y ∷ ys) e =
    let parts = and_parts (run.ghosts.eq x y) (pointwise run.ghosts.eq xs ys) e in
    let head = run_same x y parts.0 in
    let tail = runs_same xs ys parts.1 in
    cc

from_not : (b : Bool) → not b ≡ false → b ≡ true
from_not true e = refl
from_not false e = sym e

-- Rows that aren't found different by `!=` are the same.
pub equal_rows : (row before : List Run) (differ : Bool) → differ ≡ not (pointwise run.ghosts.eq row before) → differ ≡ false → row ≡ before
equal_rows row before differ is e = runs_same row before (from_not (pointwise run.ghosts.eq row before) (sym is ∙ e))

pub covers_more : (w : ℕ) (row : List Run) (n : ℕ) (d wide : Run) (runs : List Run) → n < length row → wide.from ≡ (get_or row n d).from -ℤ pos w → wide.to ≡ (get_or row n d).to +ℤ pos w → Covers w (take n row) runs → IsRunCovered wide runs → Covers w (take (n + 1) row) runs
covers_more w row n d wide runs l f t old new = λ k i m near.
    let nl = near.0 in
    let nr = near.1 in
    ⊎_elim (λ e. old k i e near) (λ p. let p0 = p.0 in let p1 = p.1 in new i (omega (arith, ints)) (omega (arith, ints))) (front_cases row n d k l m)

-- ---- and widened one after another
pub record IsWidenedTo (w : ℕ) (row : List Run) (n : ℕ) (runs : List Run) : Type 0 where
  pub held : IsWidenedRow w (take n row) runs
  pub begin : (d : Run) → n < length row → AllBegin ((get_or row n d).from -ℤ pos w) runs

pub widened_none : (w : ℕ) (row : List Run) → IsWidenedTo w row 0 []
widened_none w row = record {
  held = record {
    covers = covers_none w [];
    reached = λ i m. absurd (false≢true m);
    ascends = refl;
  };
  begin = λ d l. All-nil (λ (r : Run). r.from ≤ℤ ((get_or row 0 d).from -ℤ pos w));
}

-- the sample of a run that is nearest to i
pub nearest : (w : ℕ) (r : Run) (i : ℤ) → r.from <ℤ r.to → (r.from -ℤ pos w) ≤ℤ i → i <ℤ (r.to +ℤ pos w) → (k : ℤ) × ((r.from ≤ℤ k) × (k <ℤ r.to)) × IsWithin w (i -ℤ k)
nearest w r i s a b =
    by_lt_z i r.from
    (λ (l : i <ℤ r.from). (r.from, (omega (arith, ints), s), (omega (arith, ints), omega (arith, ints))))
    (λ (l : r.from ≤ℤ i). by_lt_z i r.to
    (λ (m : i <ℤ r.to). (i, (l, m), (omega (arith, ints), omega (arith, ints))))
    (λ (m : r.to ≤ℤ i). (r.to -ℤ pos 1, (omega (arith, ints), omega (arith, ints)), (omega (arith, ints), omega (arith, ints)))))

pub widened_more : (w : ℕ) (row : List Run) (n : ℕ) (d wide : Run) (runs new : List Run) → ascend row ≡ true → n < length row → wide.from ≡ (get_or row n d).from -ℤ pos w → wide.to ≡ (get_or row n d).to +ℤ pos w → IsWidenedTo w row n runs → IsJoinedTo runs wide new → IsWidenedTo w row (n + 1) new
widened_more w row n d wide runs new up l f t old step =
    let r : Run = get_or row n d in
    let s : r.from <ℤ r.to = run_at row n d up l in
    record {
      held = record {
        covers = λ k i m near.
            let nl = near.0 in
            let nr = near.1 in
            step.covers i ∙ ⊎_elim
            (λ e. or_left (in_runs runs i) (int_le wide.from i && int_lt i wide.to) (old.held.covers k i e near))
            (λ p. let p0 = p.0 in let p1 = p.1 in or_right (in_runs runs i) (int_le wide.from i && int_lt i wide.to) (and_from (int_le wide.from i) (int_lt i wide.to) (le_true wide.from i (omega (arith, ints))) (lt_true i wide.to (omega (arith, ints)))))
            (front_cases row n d k l m);
        reached = λ i m. ⊎_elim
            (λ e. let q = old.held.reached i e in (q.0, front_from row n d q.0 l (inl q.1), q.2))
            (λ e.
            let p = and_parts (int_le wide.from i) (int_lt i wide.to) e in
            let a = le_is wide.from i p.0 in
            let b = lt_is i wide.to p.1 in
            let q = nearest w r i s (omega (arith, ints)) (omega (arith, ints)) in
            (q.0, front_from row n d q.0 l (inr q.1), q.2))
            (or_cases (in_runs runs i) (int_le wide.from i && int_lt i wide.to) (sym (step.covers i) ∙ m));
        ascends = step.ascends;
      };
      begin = λ e m. step.begin ((get_or row (n + 1) e).from -ℤ pos w)
          (let g = rw (get_or_default row n e d l) at (next_at row n e up m) in omega (arith, ints));
    }

-- ---- what a row adds to others
pub adds_nothing : (w : ℕ) (row runs : List Run) → Covers w row runs → ascend runs ≡ true → AddsWidened w row runs runs
adds_nothing w row runs c a = record {
  keeps = λ i m. m;
  covers = c;
  reached = λ i m. inl m;
  ascends = a;
}

pub adds_joined : (w : ℕ) (row wide old new : List Run) → IsWidenedRow w row wide → ((i : ℤ) → in_runs new i ≡ (in_runs old i || in_runs wide i)) → ascend new ≡ true → AddsWidened w row old new
adds_joined w row wide old new h c a = record {
  keeps = λ i m. c i ∙ or_left (in_runs old i) (in_runs wide i) m;
  covers = λ k i m near. c i ∙ or_right (in_runs old i) (in_runs wide i) (h.covers k i m near);
  reached = λ i m. ⊎_elim (λ e. inl e) (λ e. inr (h.reached i e)) (or_cases (in_runs old i) (in_runs wide i) (sym (c i) ∙ m));
  ascends = a;
}

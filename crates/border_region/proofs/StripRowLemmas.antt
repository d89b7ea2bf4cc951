-- The runs of a row, from the strips that reach it.
use Rattle.std.proofs.Common.{◌≡◌, ℕ, zero, suc, ◌+◌, ◌<◌, ◌≤◌, Bool, true, false, ◌&&◌, ◌||◌, cond, ℤ, pos, neg_ℤ, ◌-ℤ◌, ◌≤ℤ◌, ◌<ℤ◌, ◌⊎◌, ⊎_elim, refl, sym, ap, subst, ◌∙◌, arith, int_lt, int_le, List, [], ◌∷◌, ◌++◌, length, get_or, take, filter, All, Contains}
use Rattle.std.proofs.lemmas.Int.{ints}
use Rattle.std.proofs.lemmas.Bool.{cases_lt}
use Rattle.std.proofs.lemmas.List.{take_more, get_or_default, take_all}
use Rattle.std.proofs.lemmas.List.Elements.{All-filter, All-get_or, All-nil, All-push, Contains-append_left, Contains-get_or, Contains-push, Contains-push_cases}
use Rattle.std.proofs.lemmas.List.Sorted.{All-permutation, Contains-permutation}
use Rattle.std.specs.List.Sorted.{IsPermutation}
use Rattle.ass_num.specs.Regions.{in_runs, ascend}
use Rattle.ass_num.specs.declared.region.Run.{Run}
use Rattle.ass_num.proofs.LimitLemmas.{run_covers}
use Rattle.ass_num.proofs.OrderLemmas.{lt_true}
use Rattle.region_rows.specs.Growths.{IsRowHolding}
use Rattle.region_rows.specs.Joins.{AllBegin, IsJoinedTo}
use Rattle.region_rows.proofs.JoinLemmas.{in_runs-push}
use Rattle.border_region.specs.Held.{BeginInOrder, AreStripSpans, HasRow, no_span, row_run, strip_span}
use Rattle.border_region.specs.StripRows.{AddsRowRun, AreRowRuns, BeginAfter, IsFullRun, AreLive, IsRising, IsRowHeld, IsRowRun}
use Rattle.border_region.specs.Limits.{max_key}
use Rattle.border_region.specs.Strips.{no_run, run_in}
use Rattle.border_region.specs.declared.wide_strips.Span.{Span}
use Rattle.border_region.proofs.HeldLemmas.{in_runs-found}

-- ---- live strips
-- a filter keeps what passes
passes_at : {X : Type 0} (p : X → Bool) (xs : List X) (x : X) (k : ℕ) → k < length xs → get_or xs k x ≡ x → p x ≡ true → Contains (filter p xs) x
passes_at p [] x k l e h = absurd (omega arith)
passes_at p (y ∷ ys) x zero l e h = let here : p y ≡ true = rw e h in rw here (0, omega arith, e)
passes_at p (y ∷ ys) x (suc k) l e h = put (p y) (passes_at p ys x k (omega arith) e h)
  where
    put : (b : Bool) → Contains (filter p ys) x → Contains (cond b (y ∷ filter p ys) (filter p ys)) x
    put true q = let m = q.1 in (suc q.0, omega arith, q.2)
    put false q = q

passes_filter : {X : Type 0} (p : X → Bool) (xs : List X) (x : X) → Contains xs x → p x ≡ true → Contains (filter p xs) x
passes_filter p xs x q h = passes_at p xs x q.0 q.1 q.2 h

pub live_kept : (j : ℤ) (spans : List Span) (begun : ℕ) (old new : List Span) → new ≡ filter (λ (span : Span). int_lt j span.end) old → AreLive j spans begun old → AreLive j spans begun new
live_kept j spans begun old new e live = rw e (record {
  are = All-filter (λ (span : Span). int_lt j span.end) (Contains spans) old live.are;
  kept = λ s b l h. passes_filter (λ (span : Span). int_lt j span.end) old (strip_span spans s) (live.kept s b l h) (lt_true j (strip_span spans s).end h);
})

pub live_more : (j : ℤ) (spans : List Span) (n : ℕ) (live : List Span) → n < length spans → AreLive j spans n live → AreLive j spans (n + 1) (live ++ strip_span spans n ∷ [])
live_more j spans n live within old = record {
  are = All-push (Contains spans) live (strip_span spans n) old.are (Contains-get_or spans n no_span within);
  kept = λ s b l h. ⊎_elim
      (λ (a : s < n). Contains-append_left live (strip_span spans n ∷ []) (strip_span spans s) (old.kept s a l h))
      (λ (a : n ≤ s). let e : s ≡ n = omega arith in rw e (Contains-push live (strip_span spans n)))
      (cases_lt s n);
}

-- those that end later are among those that end late enough
pub live_later : (j k : ℤ) (spans : List Span) (begun : ℕ) (live : List Span) → j ≤ℤ k → AreLive j spans begun live → AreLive k spans begun live
live_later j k spans begun live l old = record { are = old.are; kept = λ s b h m. old.kept s b h (omega (arith, ints)) }

pub live_none : (j : ℤ) (spans : List Span) → AreLive j spans 0 []
live_none j spans = record { are = All-nil (Contains spans); kept = λ s b l h. absurd (omega arith) }

-- where one strip begins below the row, all later ones do
pub begin_after : (j : ℤ) (spans : List Span) (n : ℕ) → BeginInOrder spans → j <ℤ (strip_span spans n).first → BeginAfter j spans n
begin_after j spans n up h = λ s a l. let o = up n s a l in omega (arith, ints)

pub none_after : (j : ℤ) (spans : List Span) (n : ℕ) → length spans ≤ n → BeginAfter j spans n
none_after j spans n past = λ s a l. absurd (omega arith)

-- ---- the runs of the live strips
pub row_runs_none : (spans : List Span) (strips : List (List Run)) (j : ℤ) (live : List Span) → AreRowRuns spans strips j (take 0 live) []
row_runs_none spans strips j live = record { are = All-nil (IsRowRun spans strips j); all = λ s m q h. absurd (let l = q.1 in omega arith) }

pub row_runs_more : (spans : List Span) (strips : List (List Run)) (j : ℤ) (live : List Span) (n : ℕ) (old new : List Run) → n < length live → AddsRowRun spans strips j (strip_span live n) old new → AreRowRuns spans strips j (take n live) old → AreRowRuns spans strips j (take (n + 1) live) new
row_runs_more spans strips j live n old new l step was = record {
  are = step.are was.are;
  all = λ s m q h. ⊎_elim
      (λ a. step.keeps (row_run strips s m) (was.all s m a h))
      (λ (e : strip_span live n ≡ strip_span spans s). step.gains s m (sym e) h)
      (Contains-push_cases (take n live) (strip_span live n) (strip_span spans s) (rw (take_more live n no_span l) at q));
}

pub row_runs_all : (spans : List Span) (strips : List (List Run)) (j : ℤ) (live : List Span) (n : ℕ) (found : List Run) → length live ≤ n → AreRowRuns spans strips j (take n live) found → AreRowRuns spans strips j live found
row_runs_all spans strips j live n found past was = rw (take_all n live past) at was

-- a strip without a run in the row adds none
pub adds_no_run : (spans : List Span) (strips : List (List Run)) (j : ℤ) (span : Span) (found : List Run) → AreStripSpans spans strips → (j <ℤ span.first) ⊎ (span.end ≤ℤ j) → AddsRowRun spans strips j span found found
adds_no_run spans strips j span found are outside = record {
  keeps = λ run q. q;
  gains = λ s m e h.
      let first = ap (λ (z : Span). z.first) e in
      let end = ap (λ (z : Span). z.end) e in
      let ends = are.end s h.strip in
      let row = h.row in
      let within = h.within in
      absurd (⊎_elim (λ (a : j <ℤ span.first). omega (arith, ints)) (λ (a : span.end ≤ℤ j). omega (arith, ints)) outside);
  are = λ all. all;
}

-- the one at place s adds its own
pub adds_row_run : (spans : List Span) (strips : List (List Run)) (j : ℤ) (s m : ℕ) (found : List Run) → AreStripSpans spans strips → HasRow spans strips j s m → AddsRowRun spans strips j (strip_span spans s) found (found ++ row_run strips s m ∷ [])
adds_row_run spans strips j s m found are has = record {
  keeps = λ run q. Contains-append_left found (row_run strips s m ∷ []) run q;
  gains = λ t n e h.
      let place = sym (are.place t h.strip) ∙ ap (λ (z : Span). z.place) e ∙ are.place s has.strip in
      let same : t ≡ s = place in
      let row = rw same at h.row in
      let here = has.row in
      let row_same : n ≡ m = omega (arith, ints) in
      rw (same, row_same) (Contains-push found (row_run strips s m));
  are = λ all. All-push (IsRowRun spans strips j) found (row_run strips s m) all (s, m, has, refl);
}

-- ---- runs that rise are united
pub record IsUnited (found : List Run) (n : ℕ) (runs : List Run) : Type 0 where
  pub covers : (i : ℤ) → in_runs runs i ≡ in_runs (take n found) i
  pub ascends : ascend runs ≡ true
  pub begin : n < length found → AllBegin (run_in found n).from runs

pub united_none : (found : List Run) → IsUnited found 0 []
united_none found = record { covers = λ i. refl; ascends = refl; begin = λ l. All-nil (λ (r : Run). r.from ≤ℤ (run_in found 0).from) }

pub united_more : (found : List Run) (n : ℕ) (old new : List Run) → IsRising found → n < length found → IsUnited found n old → IsJoinedTo old (run_in found n) new → IsUnited found (n + 1) new
united_more found n old new up l was step =
    let run : Run = run_in found n in
    record {
      covers = λ i. step.covers i ∙ ap (λ b. b || (int_le run.from i && int_lt i run.to)) (was.covers i) ∙ sym (in_runs-push (take n found) run i) ∙ ap (λ rs. in_runs rs i) (sym (take_more found n no_run l));
      ascends = step.ascends;
      begin = λ h. step.begin (run_in found (n + 1)).from (up n (n + 1) no_run (omega arith) h);
    }

-- ---- the row
held_in_row : (spans : List Span) (strips : List (List Run)) (j i : ℤ) (found : List Run) (run : Run) → Contains found run → run.from ≤ℤ i → i <ℤ run.to → in_runs found i ≡ true
held_in_row spans strips j i found run q a b = run_covers found q.0 run i q.1 (rw q.2 a) (rw q.2 b)

pub row_held : (spans : List Span) (strips : List (List Run)) (j : ℤ) (begun : ℕ) (live : List Span) (found sorted runs : List Run) → AreStripSpans spans strips → AreLive j spans begun live → BeginAfter j spans begun → AreRowRuns spans strips j live found → IsPermutation found sorted
    → IsRowHolding (in_runs sorted) runs → IsRowHeld spans strips j runs
row_held spans strips j begun live found sorted runs are alive rest row moved united = record {
  held = λ i h.
      let r = h.2 in
      let has = r.has in
      let l = has.strip in
      let at = has.row in
      let within = has.within in
      let end = are.end h.0 l in
      let begins : h.0 < begun = ⊎_elim (λ (a : h.0 < begun). a) (λ (a : begun ≤ h.0). absurd (let b = rest h.0 a l in omega (arith, ints))) (cases_lt h.0 begun) in
      let one : Contains live (strip_span spans h.0) = alive.kept h.0 begins l (omega (arith, ints)) in
      let there = Contains-permutation found sorted (row_run strips h.0 h.1) moved (row.all h.0 h.1 one has) in
      united.covers i ∙ held_in_row spans strips j i sorted (row_run strips h.0 h.1) there r.left r.right;
  are = λ i m.
      let q = in_runs-found sorted i (sym (united.covers i) ∙ m) in
      let one : IsRowRun spans strips j (run_in sorted q.0) = All-get_or (IsRowRun spans strips j) sorted q.0 no_run q.1 (All-permutation (IsRowRun spans strips j) found sorted moved row.are) in
      (one.0, one.1, record { has = one.2; left = rw one.3 q.2; right = rw one.3 q.3 });
  ascends = united.ascends;
}

-- each run of a row has a sample
pub runs_full : (spans : List Span) (strips : List (List Run)) (j : ℤ) (live : List Span) (found sorted : List Run) → AreStripSpans spans strips → AreRowRuns spans strips j live found → IsPermutation found sorted → All IsFullRun sorted
runs_full spans strips j live found sorted are row moved k d l =
    let one : IsRowRun spans strips j (get_or sorted k d) = All-get_or (IsRowRun spans strips j) sorted k d l (All-permutation (IsRowRun spans strips j) found sorted moved row.are) in
    let has = one.2 in
    rw one.3 at (are.full one.0 one.1 has.strip has.within)

-- a span of the list stands at its place, and begins near the region
at_index : (spans : List Span) (span : Span) (q : Contains spans span) → strip_span spans q.0 ≡ span
at_index spans span q = sym (get_or_default spans q.0 span no_span q.1) ∙ q.2

pub span_place : (spans : List Span) (strips : List (List Run)) (span : Span) → AreStripSpans spans strips → Contains spans span → span.place < length strips
span_place spans strips span are q =
    let place : span.place ≡ q.0 = ap (λ (z : Span). z.place) (sym (at_index spans span q)) ∙ are.place q.0 q.1 in
    let c = are.count in
    let l = q.1 in
    omega arith

pub span_low : (spans : List Span) (strips : List (List Run)) (span : Span) → AreStripSpans spans strips → Contains spans span → neg_ℤ (pos max_key) ≤ℤ span.first
span_low spans strips span are q = rw (at_index spans span q) at (are.low q.0 q.1)

-- a strip that reaches the row adds the run that stands as far down in it
pub at_span : (spans : List Span) (strips : List (List Run)) (j : ℤ) (span : Span) (m : ℕ) (found : List Run) → AreStripSpans spans strips → Contains spans span → span.first ≤ℤ j → j <ℤ span.end → pos m ≡ j -ℤ span.first
    → (m < length (get_or strips span.place [])) × AddsRowRun spans strips j span found (found ++ run_in (get_or strips span.place []) m ∷ [])
at_span spans strips j span m found are q low high e =
    let is = at_index spans span q in
    let place : span.place ≡ q.0 = ap (λ (z : Span). z.place) (sym is) ∙ are.place q.0 q.1 in
    let first = ap (λ (z : Span). z.first) is in
    let end = ap (λ (z : Span). z.end) is in
    let ends = are.end q.0 q.1 in
    let within : m < length (get_or strips q.0 []) = omega (arith, ints) in
    subst (λ (p : ℕ). (m < length (get_or strips p [])) × AddsRowRun spans strips j span found (found ++ run_in (get_or strips p []) m ∷ [])) (sym place)
    (within, rw is at (adds_row_run spans strips j q.0 m found are (record { strip = q.1; within = within; row = omega (arith, ints) })))

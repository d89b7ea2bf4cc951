-- The span of a row, and of several.
use Rattle.std.proofs.Common.{◌≡◌, ℕ, suc, ◌+◌, ◌-◌, ◌<◌, Bool, true, false, ◌||◌, ◌&&◌, ℤ, pos, ◌-ℤ◌, ◌<ℤ◌, ◌≤ℤ◌, refl, sym, arith, int_lt, int_le, List, [], ◌∷◌, length, get_or}
use Rattle.std.proofs.lemmas.Int.{ints, by_lt_z, clamps}
use Rattle.std.proofs.lemmas.Bool.{and_parts, false≢true}
use Rattle.std.specs.Int.{int_min, int_max}
use Rattle.ass_num.specs.Regions.{in_runs, ascend, has_run}
use Rattle.ass_num.specs.declared.region.Run.{Run}
use Rattle.std.proofs.Math.Bool.{or-true}
use Rattle.ass_num.proofs.RegionLemmas.{ascends_parts, first_ascends, rest_ascends, below}
use Rattle.ass_num.proofs.OrderLemmas.{first_in, lt_false, lt_is, le_is}
use Rattle.mask_cover.specs.Columns.{IsSpan, IsSpanOfRows}

-- what stands where a list has no run
abbrev pub none : Run
none = record { from = pos 0; to = pos 0 }

or_none : (b : Bool) → (b || false) ≡ true → b ≡ true
or_none true h = refl
or_none false h = h

no_and : (b c : Bool) → (b && false) || c ≡ true → c ≡ true
no_and true c h = h
no_and false c h = h

run_of : (r : Run) (i : ℤ) → (int_le r.from i && int_lt i r.to) ≡ true → (r.from ≤ℤ i) × (i <ℤ r.to)
run_of r i h = let p = and_parts (int_le r.from i) (int_lt i r.to) h in (le_is r.from i p.0, lt_is i r.to p.1)

-- an ascending row spans from its first run's begin to its last run's end
pub span_cons : (rs : List Run) (r d : Run) → ascend (r ∷ rs) ≡ true → IsSpan (r ∷ rs) (record { from = r.from; to = (get_or (r ∷ rs) (length rs) d).to })
span_cons [] r d h =
    let p = (first_ascends r [] h).0 in
    record {
      inside = λ i e. run_of r i (or_none _ e);
      first = first_in r [] r.from (omega (arith, ints)) p;
      last = first_in r [] (r.to -ℤ pos 1) (omega (arith, ints)) (omega (arith, ints));
    }
span_cons (s ∷ rs) r d h =
    let p = first_ascends r (s ∷ rs) h in
    let full = p.0 in
    let rest = span_cons rs s d (rest_ascends r (s ∷ rs) h) in
    let begin = rest.inside s.from rest.first in
    let behind : r.to <ℤ s.from = (ascends_parts r.to s rs p.1).0 in
    record {
      inside = λ i e. by_lt_z i r.to
          (λ (l : i <ℤ r.to).
          let no = below r.to i (s ∷ rs) p.1 (omega (arith, ints)) in
          let here = run_of r i (or_none _ (rw no at e)) in
          (here.0, omega (arith, ints, begin.1)))
          (λ (l : r.to ≤ℤ i).
          let later = rest.inside i (no_and (int_le r.from i) _ (rw (lt_false i r.to l) at e)) in
          (omega (arith, ints), later.1));
      first = first_in r (s ∷ rs) r.from (omega (arith, ints)) full;
      last = rw rest.last (or-true _);
    }

pub span_row : (runs : List Run) (d : Run) → ascend runs ≡ true → has_run runs ≡ true → IsSpan runs (record { from = (get_or runs 0 d).from; to = (get_or runs (length runs - 1) d).to })
span_row [] d h some = absurd (false≢true some)
span_row (r ∷ rs) d h some = let e : suc (length rs) - 1 ≡ length rs = omega arith in rw e (span_cons rs r d h)

-- ---- several rows

pub span_first : (rows : List (List Run)) (r : Run) → IsSpan (get_or rows 0 []) r → IsSpanOfRows rows 1 r
span_first rows r h = record {
  inside = λ k i p e. let z : k ≡ 0 = omega arith in h.inside i (rw z at e);
  first = (0, omega arith, h.first);
  last = (0, omega arith, h.last);
}

pub span_skip : (rows : List (List Run)) (n : ℕ) (r : Run) → IsSpanOfRows rows n r → get_or rows n [] ≡ [] → IsSpanOfRows rows (n + 1) r
span_skip rows n r h empty = record {
  inside = λ k i p e. by_lt_z (pos k) (pos n)
      (λ (l : pos k <ℤ pos n). h.inside k i (omega (arith, ints)) e)
      (λ (l : pos n ≤ℤ pos k). let z : k ≡ n = omega (arith, ints) in absurd (false≢true (rw (z, empty) at e)));
  first = (h.first.0, omega (arith, h.first.1), h.first.2);
  last = (h.last.0, omega (arith, h.last.1), h.last.2);
}

abbrev Reaches : List (List Run) → ℕ → ℤ → Type 0
Reaches rows n i = (k : ℕ) × (k < n) × (in_runs (get_or rows k []) i ≡ true)

earlier : (rows : List (List Run)) (n : ℕ) (i j : ℤ) → i ≡ j → Reaches rows n i → Reaches rows (n + 1) j
earlier rows n i j e h = (h.0, omega (arith, h.1), rw (sym e) h.2)

now : (rows : List (List Run)) (n : ℕ) (i j : ℤ) → i ≡ j → in_runs (get_or rows n []) i ≡ true → Reaches rows (n + 1) j
now rows n i j e h = (n, omega arith, rw (sym e) h)

pub span_more : (rows : List (List Run)) (n : ℕ) (s r : Run) → IsSpanOfRows rows n s → IsSpan (get_or rows n []) r → IsSpanOfRows rows (n + 1) (record { from = int_min s.from r.from; to = int_max s.to r.to })
span_more rows n s r h here = record {
  inside = λ k i p e. by_lt_z (pos k) (pos n)
      (λ (l : pos k <ℤ pos n). let was = h.inside k i (omega (arith, ints)) e in (omega (arith, ints, clamps, was.0), omega (arith, ints, clamps, was.1)))
      (λ (l : pos n ≤ℤ pos k). let z : k ≡ n = omega (arith, ints) in let was = here.inside i (rw z at e) in (omega (arith, ints, clamps, was.0), omega (arith, ints, clamps, was.1)));
  first = by_lt_z r.from s.from
      (λ (l : r.from <ℤ s.from). now rows n r.from (int_min s.from r.from) (omega (arith, ints, clamps)) here.first)
      (λ (l : s.from ≤ℤ r.from). earlier rows n s.from (int_min s.from r.from) (omega (arith, ints, clamps)) h.first);
  last = by_lt_z s.to r.to
      (λ (l : s.to <ℤ r.to). now rows n (r.to -ℤ pos 1) (int_max s.to r.to -ℤ pos 1) (omega (arith, ints, clamps)) here.last)
      (λ (l : r.to ≤ℤ s.to). earlier rows n (s.to -ℤ pos 1) (int_max s.to r.to -ℤ pos 1) (omega (arith, ints, clamps)) h.last);
}

-- a list of the length 0
pub no_items : {X : Type 0} (xs : List X) → length xs ≡ 0 → xs ≡ []
no_items [] h = refl
no_items (x ∷ xs) h = absurd (omega arith)

-- What the rows on one side of a row reach in it.
use Rattle.std.proofs.Common.{◌≡◌, ℕ, zero, suc, ◌+◌, ◌-◌, ◌<◌, ◌≤◌, Bool, true, false, ℤ, pos, ◌+ℤ◌, ◌-ℤ◌, ◌⊎◌, inl, inr, ⊎_elim, sym, ap, ◌∙◌, arith, int_le, List, length, slice_index, get_or}
use Rattle.std.proofs.lemmas.Int.{ints}
use Rattle.std.proofs.lemmas.Bool.{cases_lt}
use Rattle.std.proofs.lemmas.List.{get_or_default}
use Rattle.std.specs.List.Sorted.{IsPartitionedBy, IsPartitionPoint}
use Rattle.ass_num.specs.Limits.{IsWithin}
use Rattle.ass_num.specs.Regions.{RegionValue, in_runs, ascend}
use Rattle.ass_num.specs.declared.region.Run.{Run}
use Rattle.ass_num.proofs.LimitLemmas.{IsWithin-wider}
use Rattle.ass_num.proofs.OrderLemmas.{le_is, le_not, le_true}
use Rattle.border_region.specs.Ellipse.{AreFalling}
use Rattle.border_region.specs.Frontier.{IsFrontier, is_seen}
use Rattle.border_region.specs.Keys.{AreAscending, AreUpTo, key_at}
use Rattle.border_region.specs.Sides.{IsReachedFrom, AddsSide, HoldsMiddle}
use Rattle.border_region.specs.Widths.{AddsWidened}

-- the keys before the n-th one are done
pub record HasAdded (region : RegionValue) (upwards : Bool) (keys : List ℤ) (widths : List ℕ) (key : ℤ) (n : ℕ) (old new : List Run) : Type 0 where
  pub keeps : (i : ℤ) → in_runs old i ≡ true → in_runs new i ≡ true
  pub covers : (m d : ℕ) (i k : ℤ) → 0 < d → m < n → key_at keys m ≡ key +ℤ pos d → is_seen region upwards (key +ℤ pos d) k ≡ true → IsWithin (slice_index widths d) (i -ℤ k) → in_runs new i ≡ true
  pub reached : (i : ℤ) → in_runs new i ≡ true → (in_runs old i ≡ true) ⊎ ((d : ℕ) × (k : ℤ) × IsReachedFrom region upwards widths key i d k)
  pub ascends : ascend new ≡ true

-- ---- ascending keys, cut at one
pub parted : (key : ℤ) (keys : List ℤ) → AreAscending keys → IsPartitionedBy (λ (z : ℤ). int_le z key) keys
parted key keys up m n d l h e =
    let a = le_is (get_or keys n d) key e in
    let b = rw (get_or_default keys n (pos 0) d h, get_or_default keys m (pos 0) d (omega arith)) at (up m n l h) in
    le_true (get_or keys m d) key (omega (arith, ints))

pub up_to : (key : ℤ) (keys : List ℤ) (count : ℕ) → count ≤ length keys → IsPartitionPoint (λ (z : ℤ). int_le z key ≡ true) (λ (z : ℤ). int_le z key ≡ false) keys count → AreUpTo key keys count
up_to key keys count b p = record {
  within = b;
  before = λ n l. le_is (key_at keys n) key (p.0 n (pos 0) (omega arith) l);
  after = λ n l h. le_not (key_at keys n) key (p.1 n (pos 0) l h);
}

-- ---- one side
pub adds_none : (region : RegionValue) (upwards : Bool) (keys : List ℤ) (widths : List ℕ) (key : ℤ) (n : ℕ) (runs : List Run) → AreUpTo key keys n → ascend runs ≡ true → HasAdded region upwards keys widths key n runs runs
adds_none region upwards keys widths key n runs up a = record {
  keeps = λ i m. m;
  covers = λ m d i k p l e s near. absurd (let b = up.before m l in omega (arith, ints));
  reached = λ i m. inl m;
  ascends = a;
}

-- the row at the n-th key, d rows on, is added
pub adds_more : (region : RegionValue) (upwards : Bool) (keys : List ℤ) (widths : List ℕ) (key : ℤ) (n d : ℕ) (row first old new : List Run) → pos d ≡ key_at keys n -ℤ key → d < length widths → ((i : ℤ) → in_runs row i ≡ is_seen region upwards (key_at keys n) i)
    → HasAdded region upwards keys widths key n first old → AddsWidened (slice_index widths d) row old new → HasAdded region upwards keys widths key (n + 1) first new
adds_more region upwards keys widths key n d row first old new e l seen before step =
    let at : key_at keys n ≡ key +ℤ pos d = omega (arith, ints) in
    record {
      keeps = λ i m. step.keeps i (before.keeps i m);
      covers = λ m c i k p h f s near. ⊎_elim
          (λ (a : m < n). step.keeps i (before.covers m c i k p a f s near))
          (λ (a : n ≤ m).
          let q : m ≡ n = omega arith in
          let g : key_at keys n ≡ key +ℤ pos c = rw q at f in
          let w : c ≡ d = omega (arith, ints) in
          step.covers k i (seen k ∙ ap (λ z. is_seen region upwards z k) g ∙ s) (rw w at near))
          (cases_lt m n);
      reached = λ i m. ⊎_elim
          (λ a. before.reached i a)
          (λ r. inr (d, r.0, record { within = l; seen = ap (λ z. is_seen region upwards z r.0) (sym at) ∙ sym (seen r.0) ∙ r.1; near = r.2 }))
          (step.reached i m);
      ascends = step.ascends;
    }

-- what the rows that are no frontier reach, those before them reach too
side_covers : (region : RegionValue) (upwards : Bool) (keys : List ℤ) (widths : List ℕ) (key : ℤ) (count n : ℕ) (first new : List Run) → IsFrontier region upwards keys → AreFalling widths → HoldsMiddle region upwards widths key first → AreUpTo (key +ℤ pos (length widths - 1)) keys count → count ≤ n → HasAdded region upwards keys widths key n first new
    → (d : ℕ) (i k : ℤ) → IsReachedFrom region upwards widths key i d k → in_runs new i ≡ true
side_covers region upwards keys widths key count n first new all falls middle up over added zero i k r =
    let e : key +ℤ pos 0 ≡ key = omega (arith, ints) in
    added.keeps i (middle i k (rw e at r.seen) r.near)
side_covers region upwards keys widths key count n first new all falls middle up over added (suc d) i k r =
    let l = r.within in
    let e : (key +ℤ pos (suc d)) -ℤ pos 1 ≡ key +ℤ pos d = omega (arith, ints) in
    let f = falls.falls d (omega arith) in
    let g : d + 1 ≡ suc d = omega arith in
    ⊎_elim
    (λ s. side_covers region upwards keys widths key count n first new all falls middle up over added d i k (record {
      within = omega arith;
      seen = rw e at s;
      near = IsWithin-wider (slice_index widths (suc d)) (slice_index widths d) (i -ℤ k) (rw g at f) r.near;
    }))
    (λ q.
    let q1 = q.1 in
    let q2 = q.2 in
    let m : q.0 < count = ⊎_elim (λ (a : q.0 < count). a) (λ (a : count ≤ q.0). absurd (let b = up.after q.0 a q1 in omega (arith, ints))) (cases_lt q.0 count) in
    added.covers q.0 (suc d) i k (omega arith) (omega arith) q.2 r.seen r.near)
    (all.complete (key +ℤ pos (suc d)) k r.seen)

pub side_added : (region : RegionValue) (upwards : Bool) (keys : List ℤ) (widths : List ℕ) (key : ℤ) (count n : ℕ) (first new : List Run) → IsFrontier region upwards keys → AreFalling widths → HoldsMiddle region upwards widths key first → AreUpTo (key +ℤ pos (length widths - 1)) keys count → count ≤ n → HasAdded region upwards keys widths key n first new → AddsSide region upwards widths key first new
side_added region upwards keys widths key count n first new all falls middle up over added = record {
  keeps = added.keeps;
  covers = λ i d k r. side_covers region upwards keys widths key count n first new all falls middle up over added d i k r;
  reached = added.reached;
  ascends = added.ascends;
}

-- A row of the widened region.
use Rattle.std.proofs.Common.{◌≡◌, ℕ, zero, suc, ◌+◌, ◌≤◌, Bool, true, false, ℤ, pos, negsuc, neg_ℤ, ◌+ℤ◌, ◌-ℤ◌, ◌≤ℤ◌, ◌<ℤ◌, ⊎_elim, refl, sym, ◌∙◌, arith, unsigned_abs, List, length, slice_index}
use Rattle.std.proofs.lemmas.Int.{ints}
use Rattle.std.proofs.lemmas.Bool.{false_from_ne_true, false≢true}
use Rattle.std.proofs.lemmas.List.{nil_from_length}
use Rattle.ass_num.specs.Regions.{RegionValue, in_runs, member}
use Rattle.ass_num.specs.Limits.{IsRegionWithin, IsWithin}
use Rattle.ass_num.specs.declared.region.Run.{Run}
use Rattle.region_rows.specs.Growths.{IsRowHolding}
use Rattle.region_rows.specs.Widened.{in_widened}
use Rattle.ass_num.proofs.LimitLemmas.{member_near}
use Rattle.region_rows.proofs.GrowthLemmas.{empty_members}
use Rattle.region_rows.proofs.JoinLemmas.{member_above, member_below}
use Rattle.region_rows.proofs.WidenedLemmas.{IsInEllipse, in_widened-found, in_widened-from}
use Rattle.border_region.specs.Ellipse.{AreHalfWidths}
use Rattle.border_region.specs.Frontier.{is_seen}
use Rattle.border_region.specs.Sides.{IsReachedFrom, AddsSide, HoldsMiddle}
use Rattle.border_region.specs.Widths.{IsWidenedRow}

-- ---- distances
abs_between : (k i : ℤ) (w : ℕ) → IsWithin w (i -ℤ k) → unsigned_abs (k -ℤ i) ≤ w
abs_between k i w h = let a = h.0 in let b = h.1 in abs_le (k -ℤ i) w (omega (arith, ints)) (omega (arith, ints))
  where
    abs_le : (z : ℤ) (w : ℕ) → neg_ℤ (pos w) ≤ℤ z → z ≤ℤ pos w → unsigned_abs z ≤ w
    abs_le (pos n) w a b = omega (arith, ints)
    abs_le (negsuc n) w a b = omega (arith, ints)

pub between_from : (i a : ℤ) (w : ℕ) → unsigned_abs a ≤ w → IsWithin w (i -ℤ (i +ℤ a))
between_from i (pos n) w h = (omega (arith, ints), omega (arith, ints))
between_from i (negsuc n) w h = (omega (arith, ints), omega (arith, ints))

-- ---- the ellipse by its half widths
pub reached_by : (region : RegionValue) (rx ry : ℕ) (widths : List ℕ) (i j k b : ℤ) → AreHalfWidths rx ry widths → unsigned_abs b ≤ ry → IsWithin (slice_index widths (unsigned_abs b)) (i -ℤ k) → member region.top region.rows k (j +ℤ b) ≡ true → in_widened (member region.top region.rows) rx ry i j ≡ true
reached_by region rx ry widths i j k b w l near m =
    let p = (w.each (unsigned_abs b) l (unsigned_abs (k -ℤ i))).0 (abs_between k i (slice_index widths (unsigned_abs b)) near) in
    let e : i +ℤ (k -ℤ i) ≡ k = omega (arith, ints) in
    in_widened-from (member region.top region.rows) rx ry i j (k -ℤ i) b (record { across = p.0; down = l; round = p.1 }) (rw e m)

-- what lies d rows down, or up
down : (region : RegionValue) (rx ry : ℕ) (widths : List ℕ) (i j k : ℤ) (d : ℕ) → AreHalfWidths rx ry widths → IsReachedFrom region false widths j i d k → in_widened (member region.top region.rows) rx ry i j ≡ true
down region rx ry widths i j k d w r = let c = w.count in let l = r.within in reached_by region rx ry widths i j k (pos d) w (omega arith) r.near r.seen

abs_neg : (d : ℕ) → unsigned_abs (neg_ℤ (pos d)) ≡ d
abs_neg zero = refl
abs_neg (suc d) = refl

up : (region : RegionValue) (rx ry : ℕ) (widths : List ℕ) (i j k : ℤ) (d : ℕ) → AreHalfWidths rx ry widths → IsReachedFrom region true widths (neg_ℤ j) i d k → in_widened (member region.top region.rows) rx ry i j ≡ true
up region rx ry widths i j k d w r =
    let c = w.count in
    let l = r.within in
    let a = abs_neg d in
    let e : neg_ℤ (neg_ℤ j +ℤ pos d) ≡ j +ℤ neg_ℤ (pos d) = omega (arith, ints) in
    reached_by region rx ry widths i j k (neg_ℤ (pos d)) w (omega arith) (rw a r.near) (rw e at r.seen)

-- ---- the row
pub bool_same : (x y : Bool) → (x ≡ true → y ≡ true) → (y ≡ true → x ≡ true) → x ≡ y
bool_same true y h k = sym (h refl)
bool_same false y h k = sym (false_from_ne_true y (λ e. false≢true (k e)))

-- the row itself, then what lies above, then what lies below
pub row_is : (region : RegionValue) (rx ry : ℕ) (widths : List ℕ) (j : ℤ) (row first second third : List Run) → AreHalfWidths rx ry widths → ((i : ℤ) → in_runs row i ≡ is_seen region false j i) → IsWidenedRow (slice_index widths 0) row first → AddsSide region true widths (neg_ℤ j) first second → AddsSide region false widths j second third → IsRowHolding (λ i. in_widened (member region.top region.rows) rx ry i j) third
row_is region rx ry widths j row first second third w seen middle above below = record {
  covers = λ i. bool_same (in_runs third i) (in_widened (member region.top region.rows) rx ry i j) (reached i) (covered i);
  ascends = below.ascends;
}
  where
    from_row : (i : ℤ) → in_runs first i ≡ true → in_widened (member region.top region.rows) rx ry i j ≡ true
    from_row i m =
        let r = middle.reached i m in
        let c = w.count in
        let e : j +ℤ pos 0 ≡ j = omega (arith, ints) in
        down region rx ry widths i j r.0 0 w (record { within = omega arith; seen = rw e (sym (seen r.0) ∙ r.1); near = r.2 })

    reached : (i : ℤ) → in_runs third i ≡ true → in_widened (member region.top region.rows) rx ry i j ≡ true
    reached i m = ⊎_elim
        (λ a. ⊎_elim (λ b. from_row i b) (λ r. up region rx ry widths i j r.1 r.0 w r.2) (above.reached i a))
        (λ r. down region rx ry widths i j r.1 r.0 w r.2)
        (below.reached i m)

    covered_at : (i a b : ℤ) → IsInEllipse rx ry a b → member region.top region.rows (i +ℤ a) (j +ℤ b) ≡ true → in_runs third i ≡ true
    covered_at i a (pos d) e m =
        let c = w.count in
        let l = e.down in
        let h = (w.each d l (unsigned_abs a)).1 (e.across, e.round) in
        below.covers i d (i +ℤ a) (record { within = omega arith; seen = m; near = between_from i a (slice_index widths d) h })
    covered_at i a (negsuc d) e m =
        let c = w.count in
        let l = e.down in
        let h = (w.each (suc d) l (unsigned_abs a)).1 (e.across, e.round) in
        let f : j +ℤ negsuc d ≡ neg_ℤ (neg_ℤ j +ℤ pos (suc d)) = omega (arith, ints) in
        below.keeps i (above.covers i (suc d) (i +ℤ a) (record { within = omega arith; seen = rw f at m; near = between_from i a (slice_index widths (suc d)) h }))

    covered : (i : ℤ) → in_widened (member region.top region.rows) rx ry i j ≡ true → in_runs third i ≡ true
    covered i m = let q = in_widened-found (member region.top region.rows) rx ry i j m in covered_at i q.0 q.1 q.2 q.3

-- the middle, seen from below and from above
pub middle_below : (region : RegionValue) (widths : List ℕ) (j : ℤ) (row runs : List Run) → ((i : ℤ) → in_runs row i ≡ is_seen region false j i) → IsWidenedRow (slice_index widths 0) row runs → HoldsMiddle region false widths j runs
middle_below region widths j row runs seen middle = λ i k s near. middle.covers k i (seen k ∙ s) near

pub middle_above : (region : RegionValue) (widths : List ℕ) (j : ℤ) (row runs : List Run) → ((i : ℤ) → in_runs row i ≡ is_seen region false j i) → IsWidenedRow (slice_index widths 0) row runs → HoldsMiddle region true widths (neg_ℤ j) runs
middle_above region widths j row runs seen middle = λ i k s near. let e : neg_ℤ (neg_ℤ j) ≡ j = omega (arith, ints) in middle.covers k i (seen k ∙ rw e at s) near

-- ---- what lies too far away
pub unreached : (region : RegionValue) (rx ry : ℕ) (i j : ℤ) → ((k : ℤ) (b : ℤ) → unsigned_abs b ≤ ry → member region.top region.rows k (j +ℤ b) ≡ false) → in_widened (member region.top region.rows) rx ry i j ≡ false
unreached region rx ry i j none = false_from_ne_true (in_widened (member region.top region.rows) rx ry i j) (λ m. let q = in_widened-found (member region.top region.rows) rx ry i j m in let w = q.2 in false≢true (sym (none (i +ℤ q.0) q.1 w.down) ∙ q.3))

near_sum : (limit further : ℕ) (i a : ℤ) → unsigned_abs a ≤ further → IsWithin limit (i +ℤ a) → IsWithin (limit + further) i
near_sum limit further i (pos n) h w = let x = w.0 in let y = w.1 in (omega (arith, ints), omega (arith, ints))
near_sum limit further i (negsuc n) h w = let x = w.0 in let y = w.1 in (omega (arith, ints), omega (arith, ints))

-- a widened region reaches no further than its radii
pub widened_near : (region : RegionValue) (rx ry limit further : ℕ) (i j : ℤ) → rx ≤ further → ry ≤ further → IsRegionWithin limit region.top region.rows → in_widened (member region.top region.rows) rx ry i j ≡ true → IsWithin (limit + further) i × IsWithin (limit + further) j
widened_near region rx ry limit further i j h k within m =
    let q = in_widened-found (member region.top region.rows) rx ry i j m in
    let w = q.2 in
    let a = w.across in
    let b = w.down in
    let n = member_near limit region.top region.rows (i +ℤ q.0) (j +ℤ q.1) within q.3 in
    (near_sum limit further i q.0 (omega arith) n.0, near_sum limit further j q.1 (omega arith) n.1)

-- rows so far above and below are empty
pub above_all : (region : RegionValue) (rx ry : ℕ) (i j : ℤ) → j <ℤ (region.top -ℤ pos ry) → in_widened (member region.top region.rows) rx ry i j ≡ false
above_all region rx ry i j l = unreached region rx ry i j (λ k b h. member_above region.top region.rows k (j +ℤ b) (reach b h))
  where
    reach : (b : ℤ) → unsigned_abs b ≤ ry → (j +ℤ b) <ℤ region.top
    reach (pos n) h = omega (arith, ints)
    reach (negsuc n) h = omega (arith, ints)

pub below_all : (region : RegionValue) (rx ry : ℕ) (i j : ℤ) → ((region.top +ℤ pos (length region.rows)) +ℤ pos ry) ≤ℤ j → in_widened (member region.top region.rows) rx ry i j ≡ false
below_all region rx ry i j l = unreached region rx ry i j (λ k b h. member_below region.top region.rows k (j +ℤ b) (reach b h))
  where
    reach : (b : ℤ) → unsigned_abs b ≤ ry → (region.top +ℤ pos (length region.rows)) ≤ℤ (j +ℤ b)
    reach (pos n) h = omega (arith, ints)
    reach (negsuc n) h = omega (arith, ints)

pub none_widened : (region : RegionValue) (rx ry : ℕ) (i j : ℤ) → length region.rows ≡ 0 → in_widened (member region.top region.rows) rx ry i j ≡ false
none_widened region rx ry i j e = unreached region rx ry i j (λ k b h. rw (nil_from_length region.rows e) (empty_members region.top k (j +ℤ b)))

-- Widened strips hold just the samples of the widened region.
use Rattle.std.proofs.Common.{◌≡◌, ℕ, suc, ◌+◌, ◌-◌, ◌<◌, ◌≤◌, true, ◌&&◌, ℤ, pos, negsuc, neg_ℤ, unsigned_abs, ◌+ℤ◌, ◌-ℤ◌, ◌≤ℤ◌, ◌<ℤ◌, ◌⊎◌, inl, inr, ⊎_elim, refl, ap, ◌∙◌, arith, int_lt, int_le, List, [], ◌∷◌, ◌++◌, length, get_or, slice_index}
use Rattle.std.proofs.lemmas.Int.{ints}
use Rattle.std.proofs.lemmas.Bool.{and_parts, or_cases, cases_lt, false≢true}
use Rattle.std.proofs.lemmas.List.{get_or_append_left, get_or_push, get_or_past, length_push}
use Rattle.ass_num.specs.Limits.{IsRegionWithin, IsWithin, max_sample}
use Rattle.ass_num.specs.Regions.{RegionValue, in_runs, member, row_at}
use Rattle.ass_num.specs.declared.region.Run.{Run}
use Rattle.ass_num.proofs.LimitLemmas.{run_covers}
use Rattle.ass_num.proofs.OrderLemmas.{le_is, lt_is}
use Rattle.region_rows.specs.Widened.{in_widened}
use Rattle.region_rows.proofs.WidenedLemmas.{IsInEllipse, in_widened-found}
use Rattle.border_region.specs.Ellipse.{AreFalling, AreHalfWidths}
use Rattle.border_region.specs.Finders.{IsWideStrip}
use Rattle.border_region.specs.Held.{AreStripSpans, IsRunBefore, HoldStrips, HoldWidened, IsInStrips, IsReachHeld, no_span, strip_span}
use Rattle.border_region.specs.Keys.{key_at}
use Rattle.border_region.specs.Limits.{max_key}
use Rattle.border_region.specs.Reach.{IsProfile, IsProfileOf, IsRowAt}
use Rattle.border_region.specs.Strips.{AreSidesOf, FollowsOne, IsStripFrom, StripHas, no_run, run_in, runs_of_row}
use Rattle.border_region.specs.declared.wide_strips.Span.{Span}
use Rattle.border_region.proofs.ChainLemmas.{IsReachedFromRow, between_full, between_sides, reached_between}
use Rattle.border_region.proofs.ReachLemmas.{profile_is}
use Rattle.border_region.proofs.RowLemmas.{between_from, reached_by}
use Rattle.border_region.proofs.StripLemmas.{has_from_above, has_within, strip_rows_within}
use Rattle.border_region.proofs.WideLemmas.{nearest}

-- ---- a sample of a region and its run
pub in_runs-found : (rs : List Run) (i : ℤ) → in_runs rs i ≡ true → (n : ℕ) × (n < length rs) × ((run_in rs n).from ≤ℤ i) × (i <ℤ (run_in rs n).to)
in_runs-found [] i h = absurd (false≢true h)
in_runs-found (r ∷ rs) i h = ⊎_elim
    (λ e. let p = and_parts (int_le r.from i) (int_lt i r.to) e in (0, omega arith, le_is r.from i p.0, lt_is i r.to p.1))
    (λ e. let q = in_runs-found rs i e in let l = q.1 in (suc q.0, omega arith, q.2, q.3))
    (or_cases (int_le r.from i && int_lt i r.to) (in_runs rs i) h)

member-row : (rows : List (List Run)) (z i : ℤ) → in_runs (row_at rows z) i ≡ true → (y : ℕ) × (z ≡ pos y) × (in_runs (runs_of_row rows y) i ≡ true)
member-row rows (pos y) i h = (y, refl, h)
member-row rows (negsuc y) i h = absurd (false≢true h)

row_sample : (region : RegionValue) (y q : ℕ) (x : ℤ) → q < length (runs_of_row region.rows y) → (run_in (runs_of_row region.rows y) q).from ≤ℤ x → x <ℤ (run_in (runs_of_row region.rows y) q).to → member region.top region.rows x (region.top +ℤ pos y) ≡ true
row_sample region y q x l a b =
    let e : (region.top +ℤ pos y) -ℤ region.top ≡ pos y = omega (arith, ints) in
    ap (λ z. in_runs (row_at region.rows z) x) e ∙ run_covers (runs_of_row region.rows y) q no_run x l a b

-- ---- one strip, widened
-- what is known of it, from its first row on
pub record IsStripOf (region : RegionValue) (rx ry : ℕ) (widths : List ℕ) (k n : ℕ) (profile lefts rights : List ℤ) (runs : List Run) : Type 0 where
  pub half_widths : AreHalfWidths rx ry widths
  pub falling : AreFalling widths
  pub is_profile : IsProfileOf widths profile
  pub strip : IsStripFrom region.rows k n lefts rights
  pub wide : IsWideStrip profile lefts rights runs

abbrev first_of : RegionValue → ℕ → ℕ → ℤ
first_of region ry k = (region.top +ℤ pos k) -ℤ pos ry

pub ready_profile : (rx ry : ℕ) (widths : List ℕ) (profile : List ℤ) → AreHalfWidths rx ry widths → AreFalling widths → IsProfileOf widths profile → IsProfile ry profile
ready_profile rx ry widths profile w falling is = let c = w.count in let e : length widths - 1 ≡ ry = omega arith in rw e at (profile_is widths profile falling is)

-- row p of the profile lies so far above its middle, or below it
above_or_below : (ry p : ℕ) → (b : ℤ) × (b ≡ pos ry -ℤ pos p) × IsRowAt ry (unsigned_abs b) p
above_or_below ry p = ⊎_elim
    (λ (l : ry < p). let e : suc (p - ry - 1) ≡ p - ry = omega arith in (negsuc (p - ry - 1), omega (arith, ints), inl (omega arith)))
    (λ (l : p ≤ ry). (pos (ry - p), omega (arith, ints), inr (omega arith)))
    (cases_lt ry p)

row_back : (top j b : ℤ) (ry k m y p : ℕ) → ((top +ℤ pos k) -ℤ pos ry) +ℤ pos m ≡ j → y + p ≡ m → b ≡ pos ry -ℤ pos p → j +ℤ b ≡ top +ℤ pos (k + y)
row_back top j b ry k m y p e f g = omega (arith, ints)

-- a sample of one of its rows belongs to the widened region
pub strip_reached : (region : RegionValue) (rx ry : ℕ) (widths : List ℕ) (k n : ℕ) (profile lefts rights : List ℤ) (runs : List Run) (m : ℕ) (i j : ℤ) → IsStripOf region rx ry widths k n profile lefts rights runs
    → m < length runs → first_of region ry k +ℤ pos m ≡ j → (run_in runs m).from ≤ℤ i → i <ℤ (run_in runs m).to → in_widened (member region.top region.rows) rx ry i j ≡ true
strip_reached region rx ry widths k n profile lefts rights runs m i j s l e a b =
    let w = s.wide in
    let count = w.between.count in
    let left = w.between.left m (omega arith) in
    let right = w.between.right m (omega arith) in
    let r = reached_between ry profile lefts rights w.wide_lefts w.wide_rights m i (ready_profile rx ry widths profile s.half_widths s.falling s.is_profile) s.strip.strip w.left w.right (omega arith) (rw left at a) (rw right at b) in
    let at = r.2 in
    let sum = at.sum in
    let al = at.left in
    let ar = at.right in
    let within = at.within in
    let h = s.strip.held r.0 at.row in
    let run : Run = run_in (runs_of_row region.rows (k + r.0)) h.0 in
    let sides : AreSidesOf run lefts rights r.0 = h.2 in
    let from = sides.0 in
    let to = sides.1 in
    let full = s.strip.strip.full r.0 at.row in
    let c = s.half_widths.count in
    let cp = s.is_profile.count in
    let z = above_or_below ry r.1 in
    let zb = z.1 in
    let d : ℕ = unsigned_abs z.0 in
    let near : d ≤ ry = ⊎_elim (λ (x : r.1 ≡ ry + d). omega arith) (λ (x : r.1 + d ≡ ry). omega arith) z.2 in
    let middle : length widths - 1 ≡ ry = omega arith in
    let width : key_at profile r.1 ≡ pos (slice_index widths d) = s.is_profile.each d r.1 (omega arith) (rw middle z.2) in
    let x = nearest (slice_index widths d) run i (omega (arith, ints)) (omega (arith, ints)) (omega (arith, ints)) in
    let row : j +ℤ z.0 ≡ region.top +ℤ pos (k + r.0) = row_back region.top j z.0 ry k m r.0 r.1 e sum zb in
    reached_by region rx ry widths i j x.0 z.0 s.half_widths near x.2 (rw row (row_sample region (k + r.0) h.0 x.0 (has_within region.rows k n r.0 h.0 h.1) x.1.0 x.1.1))

-- what a run of the strip reaches lies in one of the rows
abbrev pub IsInStrip : ℤ → List Run → ℤ → ℤ → Type 0
IsInStrip first runs i j = (m : ℕ) × (m < length runs) × (first +ℤ pos m ≡ j) × ((run_in runs m).from ≤ℤ i) × (i <ℤ (run_in runs m).to)

strip_holds_at : (region : RegionValue) (rx ry : ℕ) (widths : List ℕ) (k n : ℕ) (profile lefts rights : List ℤ) (runs : List Run) (d q e p : ℕ) (x i j : ℤ) → IsStripOf region rx ry widths k n profile lefts rights runs → StripHas region.rows k n d q
    → (run_in (runs_of_row region.rows (k + d)) q).from ≤ℤ x → x <ℤ (run_in (runs_of_row region.rows (k + d)) q).to → e < length widths → IsWithin (slice_index widths e) (i -ℤ x) → IsRowAt ry e p → p < length profile → first_of region ry k +ℤ pos (d + p) ≡ j
    → IsInStrip (first_of region ry k) runs i j
strip_holds_at region rx ry widths k n profile lefts rights runs d q e p x i j s has a b l near at lp row =
    let w = s.wide in
    let c = s.half_widths.count in
    let middle : length widths - 1 ≡ ry = omega arith in
    let count = w.between.count in
    let all = s.strip.all d q has in
    let from = all.1.0 in
    let to = all.1.1 in
    let width : key_at profile p ≡ pos (slice_index widths e) = s.is_profile.each e p l (rw middle at) in
    let nl = near.0 in
    let nr = near.1 in
    let r : IsReachedFromRow profile lefts rights (d + p) i d p = record { row = all.0; within = lp; sum = refl; left = omega (arith, ints); right = omega (arith, ints) } in
    let z = between_sides profile lefts rights w.wide_lefts w.wide_rights (d + p) i d p s.strip.strip w.left w.right r in
    let z0 = z.0 in
    (d + p, omega arith, row, rw (w.between.left (d + p) z.0) z.1, rw (w.between.right (d + p) z.0) z.2)

pub strip_holds : (region : RegionValue) (rx ry : ℕ) (widths : List ℕ) (k n : ℕ) (profile lefts rights : List ℤ) (runs : List Run) (d q e : ℕ) (x i j : ℤ) → IsStripOf region rx ry widths k n profile lefts rights runs → StripHas region.rows k n d q
    → (run_in (runs_of_row region.rows (k + d)) q).from ≤ℤ x → x <ℤ (run_in (runs_of_row region.rows (k + d)) q).to → e < length widths → IsWithin (slice_index widths e) (i -ℤ x)
    → ((j ≡ (region.top +ℤ pos (k + d)) +ℤ pos e) ⊎ (j ≡ (region.top +ℤ pos (k + d)) -ℤ pos e)) → IsInStrip (first_of region ry k) runs i j
strip_holds region rx ry widths k n profile lefts rights runs d q e x i j s has a b l near row =
    let c = s.half_widths.count in
    let cp = s.is_profile.count in
    ⊎_elim
    (λ (h : j ≡ (region.top +ℤ pos (k + d)) +ℤ pos e). strip_holds_at region rx ry widths k n profile lefts rights runs d q e (ry + e) x i j s has a b l near (inl refl) (omega arith) (omega (arith, ints)))
    (λ (h : j ≡ (region.top +ℤ pos (k + d)) -ℤ pos e).
    let back : (ry - e) + e ≡ ry = omega arith in
    strip_holds_at region rx ry widths k n profile lefts rights runs d q e (ry - e) x i j s has a b l near (inr back) (omega arith) (omega (arith, ints)))
    row

-- the run of each of its rows has a sample
pub strip_full : (region : RegionValue) (rx ry : ℕ) (widths : List ℕ) (k n : ℕ) (profile lefts rights : List ℤ) (runs : List Run) (m : ℕ) → IsStripOf region rx ry widths k n profile lefts rights runs → m < length runs → (run_in runs m).from <ℤ (run_in runs m).to
strip_full region rx ry widths k n profile lefts rights runs m s l =
    let w = s.wide in
    let count = w.between.count in
    rw (w.between.left m (omega arith), w.between.right m (omega arith)) (between_full ry profile lefts rights w.wide_lefts w.wide_rights m (ready_profile rx ry widths profile s.half_widths s.falling s.is_profile) s.strip.strip w.left w.right (omega arith))

-- its rows lie near the region's
pub strip_near : (region : RegionValue) (rx ry : ℕ) (widths : List ℕ) (k n : ℕ) (profile lefts rights : List ℤ) (runs : List Run) → IsRegionWithin max_sample region.top region.rows → IsStripOf region rx ry widths k n profile lefts rights runs
    → (neg_ℤ (pos max_key) ≤ℤ first_of region ry k) × ((first_of region ry k +ℤ pos (length runs)) ≤ℤ pos max_key)
strip_near region rx ry widths k n profile lefts rights runs near s =
    let above = near.above in
    let below = near.below in
    let c = s.half_widths.count in
    let few = s.falling.few in
    let cp = s.is_profile.count in
    let cb = s.wide.between.count in
    let cl = s.wide.left.count in
    let rows = strip_rows_within region.rows k n lefts rights s.strip in
    (omega (arith, ints), omega (arith, ints))

-- ---- one more strip among others
span_before : (spans : List Span) (span : Span) (s : ℕ) → s < length spans → strip_span (spans ++ span ∷ []) s ≡ strip_span spans s
span_before spans span s l = get_or_append_left spans (span ∷ []) no_span s l

span_last : (spans : List Span) (span : Span) (s : ℕ) → length spans ≡ s → strip_span (spans ++ span ∷ []) s ≡ span
span_last spans span s e = get_or_push spans span no_span s e

runs_before : (strips : List (List Run)) (runs : List Run) (s : ℕ) → s < length strips → get_or (strips ++ runs ∷ []) s [] ≡ get_or strips s []
runs_before strips runs s l = get_or_append_left strips (runs ∷ []) [] s l

runs_last : (strips : List (List Run)) (runs : List Run) (s : ℕ) → length strips ≡ s → get_or (strips ++ runs ∷ []) s [] ≡ runs
runs_last strips runs s e = get_or_push strips runs [] s e

pub still_held : (spans : List Span) (strips : List (List Run)) (span : Span) (runs : List Run) (i j : ℤ) → length strips ≡ length spans → IsInStrips spans strips i j → IsInStrips (spans ++ span ∷ []) (strips ++ runs ∷ []) i j
still_held spans strips span runs i j c h =
    let r = h.2 in
    let l = r.has.strip in
    let more = length_push spans span in
    let es = span_before spans span h.0 l in
    let er = runs_before strips runs h.0 (omega arith) in (
      h.0,
      h.1,
      record {
        has = record { strip = omega arith; within = rw er r.has.within; row = rw es r.has.row };
        left = rw er r.left;
        right = rw er r.right;
      },
    )

pub now_held : (spans : List Span) (strips : List (List Run)) (span : Span) (runs : List Run) (i j : ℤ) → length strips ≡ length spans → IsInStrip span.first runs i j → IsInStrips (spans ++ span ∷ []) (strips ++ runs ∷ []) i j
now_held spans strips span runs i j c h =
    let more = length_push spans span in
    let es = span_last spans span (length spans) refl in
    let er = runs_last strips runs (length spans) c in (
      length spans,
      h.0,
      record {
        has = record { strip = omega arith; within = rw er h.1; row = rw es h.2 };
        left = rw er h.3;
        right = rw er h.4;
      },
    )

held_cases : (spans : List Span) (strips : List (List Run)) (span : Span) (runs : List Run) (i j : ℤ) → length strips ≡ length spans → IsInStrips (spans ++ span ∷ []) (strips ++ runs ∷ []) i j → IsInStrips spans strips i j ⊎ IsInStrip span.first runs i j
held_cases spans strips span runs i j c h =
    let r = h.2 in
    let l = r.has.strip in
    let more = length_push spans span in
    ⊎_elim
    (λ (a : h.0 < length spans).
    let es = span_before spans span h.0 a in
    let er = runs_before strips runs h.0 (omega arith) in
    inl (
      h.0,
      h.1,
      record {
        has = record { strip = a; within = rw er at r.has.within; row = rw es at r.has.row };
        left = rw er at r.left;
        right = rw er at r.right;
      },
    ))
    (λ (a : length spans ≤ h.0).
    let es = span_last spans span h.0 (omega arith) in
    let er = runs_last strips runs h.0 (omega arith) in
    inr (h.1, rw er at r.has.within, rw es at r.has.row, rw er at r.left, rw er at r.right))
    (cases_lt h.0 (length spans))

abbrev spanned : ℤ → List Run → ℕ → Span
spanned first runs place = record { first = first; end = first +ℤ pos (length runs); place = place }

spans_more : (spans : List Span) (strips : List (List Run)) (first : ℤ) (runs : List Run) → AreStripSpans spans strips → ((s : ℕ) → s < length spans → (strip_span spans s).first ≤ℤ first) → neg_ℤ (pos max_key) ≤ℤ first → (first +ℤ pos (length runs)) ≤ℤ pos max_key
    → ((m : ℕ) → m < length runs → (run_in runs m).from <ℤ (run_in runs m).to) → AreStripSpans (spans ++ spanned first runs (length strips) ∷ []) (strips ++ runs ∷ [])
spans_more spans strips first runs old before low high full =
    let span : Span = spanned first runs (length strips) in
    let c = old.count in
    let ms = length_push spans span in
    let mr = length_push strips runs in
    record {
      count = omega arith;
      place = λ s l. ⊎_elim
          (λ (a : s < length spans). rw (span_before spans span s a) (old.place s a))
          (λ (a : length spans ≤ s). rw (span_last spans span s (omega arith)) (omega arith))
          (cases_lt s (length spans));
      end = λ s l. ⊎_elim
          (λ (a : s < length spans). rw (span_before spans span s a, runs_before strips runs s (omega arith)) (old.end s a))
          (λ (a : length spans ≤ s). rw (span_last spans span s (omega arith), runs_last strips runs s (omega arith)) refl)
          (cases_lt s (length spans));
      low = λ s l. ⊎_elim (λ (a : s < length spans). rw (span_before spans span s a) (old.low s a)) (λ (a : length spans ≤ s). rw (span_last spans span s (omega arith)) low) (cases_lt s (length spans));
      high = λ s l. ⊎_elim (λ (a : s < length spans). rw (span_before spans span s a) (old.high s a)) (λ (a : length spans ≤ s). rw (span_last spans span s (omega arith)) high) (cases_lt s (length spans));
      ordered = λ s t h l. ⊎_elim
          (λ (a : t < length spans). rw (span_before spans span s (omega arith), span_before spans span t a) (old.ordered s t h a))
          (λ (a : length spans ≤ t). rw (span_last spans span t (omega arith)) (⊎_elim
          (λ (b : s < length spans). rw (span_before spans span s b) (before s b))
          (λ (b : length spans ≤ s). rw (span_last spans span s (omega arith)) (omega (arith, ints)))
          (cases_lt s (length spans))))
          (cases_lt t (length spans));
      full = λ s m l h. ⊎_elim
          (λ (a : s < length spans). rw (runs_before strips runs s (omega arith)) (old.full s m a (rw (runs_before strips runs s (omega arith)) at h)))
          (λ (a : length spans ≤ s). rw (runs_last strips runs s (omega arith)) (full m (rw (runs_last strips runs s (omega arith)) at h)))
          (cases_lt s (length spans));
    }

-- ---- the strips of all runs before run n of row k
pub held_none : (region : RegionValue) (rx ry : ℕ) (widths : List ℕ) → HoldStrips region rx ry widths 0 0 [] []
held_none region rx ry widths = record {
  are_spans = record {
    count = refl;
    place = λ s l. absurd (omega arith);
    end = λ s l. absurd (omega arith);
    low = λ s l. absurd (omega arith);
    high = λ s l. absurd (omega arith);
    ordered = λ s t h l. absurd (omega arith);
    full = λ s m l h. absurd (omega arith);
  };
  before = λ s l. absurd (omega arith);
  reached = λ i j h. absurd (let l = h.2.has.strip in omega arith);
  held = λ y q b l. absurd (⊎_elim (λ (a : y < 0). omega arith) (λ (a : (y ≡ 0) × (q < 0)). let q0 = a.1 in omega arith) b);
}

-- the strip that begins with the run is added
pub held_more : (region : RegionValue) (rx ry : ℕ) (widths : List ℕ) (k n : ℕ) (profile lefts rights : List ℤ) (runs : List Run) (spans : List Span) (strips : List (List Run)) → IsStripOf region rx ry widths k n profile lefts rights runs
    → neg_ℤ (pos max_key) ≤ℤ first_of region ry k → (first_of region ry k +ℤ pos (length runs)) ≤ℤ pos max_key → HoldStrips region rx ry widths k n spans strips
    → HoldStrips region rx ry widths k (n + 1) (spans ++ spanned (first_of region ry k) runs (length strips) ∷ []) (strips ++ runs ∷ [])
held_more region rx ry widths k n profile lefts rights runs spans strips s low high old =
    let first : ℤ = first_of region ry k in
    let span : Span = spanned first runs (length strips) in
    let c = old.are_spans.count in
    record {
      are_spans = spans_more spans strips first runs old.are_spans old.before low high (λ m l. strip_full region rx ry widths k n profile lefts rights runs m s l);
      before = λ t l. let more = length_push spans span in ⊎_elim
          (λ (a : t < length spans). rw (span_before spans span t a) (old.before t a))
          (λ (a : length spans ≤ t). rw (span_last spans span t (omega arith)) (omega (arith, ints)))
          (cases_lt t (length spans));
      reached = λ i j h. ⊎_elim
          (λ o. old.reached i j o)
          (λ m. strip_reached region rx ry widths k n profile lefts rights runs m.0 i j s m.1 m.2 m.3 m.4)
          (held_cases spans strips span runs i j c h);
      held = λ y q b l d m has x i j e a z h near row. ⊎_elim
          (λ o. still_held spans strips span runs i j c (old.held y q o l d m has x i j e a z h near row))
          (λ (same : (y ≡ k) × (q ≡ n)).
          let y0 = same.0 in
          let q0 = same.1 in
          now_held spans strips span runs i j c
          (strip_holds region rx ry widths k n profile lefts rights runs d m e x i j s (rw (y0, q0) at has) (rw y0 at a) (rw y0 at z) h near (rw y0 at row)))
          (before_or_same y q k n b);
    }
  where
    before_or_same : (y q k n : ℕ) → IsRunBefore y q k (n + 1) → IsRunBefore y q k n ⊎ ((y ≡ k) × (q ≡ n))
    before_or_same y q k n b = ⊎_elim
        (λ (a : y < k). inl (inl a))
        (λ (a : (y ≡ k) × (q < n + 1)). let a1 = a.1 in ⊎_elim (λ (h : q < n). inl (inr (a.0, h))) (λ (h : n ≤ q). inr (a.0, omega arith)) (cases_lt q n))
        b

-- no strip begins with the run: it belongs to the one of the run above that goes on in it
pub held_same : (region : RegionValue) (rx ry : ℕ) (widths : List ℕ) (k n : ℕ) (spans : List Span) (strips : List (List Run)) → FollowsOne region.rows k n → HoldStrips region rx ry widths k n spans strips → HoldStrips region rx ry widths k (n + 1) spans strips
held_same region rx ry widths k n spans strips f old = record {
  are_spans = old.are_spans;
  before = old.before;
  reached = old.reached;
  held = λ y q b l d m has. ⊎_elim
      (λ (a : y < k). old.held y q (inl a) l d m has)
      (λ (a : (y ≡ k) × (q < n + 1)).
      let a1 = a.1 in ⊎_elim
      (λ (h : q < n). old.held y q (inr (a.0, h)) l d m has)
      (λ (h : n ≤ q). let y0 = a.0 in let q0 : q ≡ n = omega arith in rw y0 (belongs d m (rw (y0, q0) at has)))
      (cases_lt q n))
      b;
}
  where
    belongs : (d m : ℕ) → StripHas region.rows k n d m → IsReachHeld region.top widths spans strips (k + d) (run_in (runs_of_row region.rows (k + d)) m)
    belongs d m has =
        let e : f.0 + 1 ≡ k = f.2 in
        let place : f.0 + suc d ≡ k + d = omega arith in
        rw place at (old.held f.0 f.1 (inl (omega arith)) f.3.from (suc d) m (has_from_above region.rows f.0 f.1 k n d m e f.3 has))

-- all runs of the row are done
pub held_row : (region : RegionValue) (rx ry : ℕ) (widths : List ℕ) (k n : ℕ) (spans : List Span) (strips : List (List Run)) → length (runs_of_row region.rows k) ≤ n → HoldStrips region rx ry widths k n spans strips → HoldStrips region rx ry widths (k + 1) 0 spans strips
held_row region rx ry widths k n spans strips past old = record {
  are_spans = old.are_spans;
  before = λ s l. let b = old.before s l in omega (arith, ints);
  reached = old.reached;
  held = λ y q b l. ⊎_elim
      (λ (a : y < k + 1). ⊎_elim
      (λ (c : y < k). old.held y q (inl c) l)
      (λ (c : k ≤ y). let e : y ≡ k = omega arith in old.held y q (inr (e, (let l0 = rw e at l in omega arith))) l)
      (cases_lt y k))
      (λ (a : (y ≡ k + 1) × (q < 0)). absurd (let q0 = a.1 in omega arith))
      b;
}

-- all rows are
pub held_all : (region : RegionValue) (rx ry : ℕ) (widths : List ℕ) (k : ℕ) (spans : List Span) (strips : List (List Run)) → AreHalfWidths rx ry widths → length region.rows ≤ k → HoldStrips region rx ry widths k 0 spans strips → HoldWidened region rx ry spans strips
held_all region rx ry widths k spans strips w past old = record {
  are_spans = old.are_spans;
  reached = old.reached;
  held = λ i j h. let q = in_widened-found (member region.top region.rows) rx ry i j h in found i j q.0 q.1 q.2 q.3;
}
  where
    within_rows : (y q : ℕ) → q < length (runs_of_row region.rows y) → y < k
    within_rows y q l = ⊎_elim (λ (a : y < length region.rows). omega arith) (λ (a : length region.rows ≤ y). absurd (let e = ap length (get_or_past region.rows y [] a) in omega arith)) (cases_lt y (length region.rows))

    above_below : (b j : ℤ) (y : ℕ) → (j +ℤ b) -ℤ region.top ≡ pos y → (j ≡ (region.top +ℤ pos y) +ℤ pos (unsigned_abs b)) ⊎ (j ≡ (region.top +ℤ pos y) -ℤ pos (unsigned_abs b))
    above_below (pos d) j y e = inr (omega (arith, ints))
    above_below (negsuc d) j y e = inl (omega (arith, ints))

    -- the row and the run of the sample that is near
    found : (i j a b : ℤ) → IsInEllipse rx ry a b → member region.top region.rows (i +ℤ a) (j +ℤ b) ≡ true → IsInStrips spans strips i j
    found i j a b e m =
        let row = member-row region.rows ((j +ℤ b) -ℤ region.top) (i +ℤ a) m in
        let run = in_runs-found (runs_of_row region.rows row.0) (i +ℤ a) row.2 in
        let c = w.count in
        let l = e.down in
        let is = row.1 in
        let reach = (w.each (unsigned_abs b) l (unsigned_abs a)).1 (e.across, e.round) in
        let here : row.0 + 0 ≡ row.0 = omega arith in
        let held = rw here at (old.held row.0 run.0 (inl (within_rows row.0 run.0 run.1)) run.1 0 run.0 (refl, run.1)) in
        held (i +ℤ a) i j (unsigned_abs b) run.2 run.3 (omega arith) (between_from i a (slice_index widths (unsigned_abs b)) reach) (above_below b j row.0 is)

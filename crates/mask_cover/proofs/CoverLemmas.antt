-- A mask whose bytes are the counts of the cells of its box is the mask of the region.
use Rattle.std.proofs.Common.{◌≡◌, ℕ, zero, suc, ◌+◌, ◌-◌, ◌*◌, ◌<◌, Bool, true, false, ◌==◌, inl, inr, ℤ, pos, negsuc, ◌+ℤ◌, ◌-ℤ◌, ◌<ℤ◌, ◌≤ℤ◌, refl, sym, ap, ◌∙◌, arith, List, [], ◌∷◌, length, get_or, w32, w64, to_z, of_z, ◌^◌}
use Rattle.std.proofs.lemmas.Int.{ints, by_lt_z}
use Rattle.std.proofs.lemmas.Bool.{and_parts, false≢true}
use Rattle.std.proofs.lemmas.Bool.Decides.{nat_tests}
use Rattle.std.specs.Int.RustNames.{FitsSigned}
use Rattle.std.specs.List.{All}
use Rattle.ass_num.specs.Coverage.{sum_from, first_sample, counted, samples_of, coverage_byte, box_of, PixelBox, InBox, IsCover}
use Rattle.ass_num.specs.Floor.{floor_div}
use Rattle.ass_num.specs.Masks.{MaskValue, value_at, is_mask}
use Rattle.ass_num.specs.Regions.{RegionValue, in_runs, row_at, member, ascend, all_ascend, has_run, first_has_run, last_has_run, is_canonical}
use Rattle.ass_num.specs.declared.region.Run.{Run}
use Rattle.ass_num.proofs.Floor.{floor_div-below, floor_div-above}
use Rattle.ass_num.proofs.MaskLemmas.{cell_below, value_inside, value_beside, value_over}
use Rattle.std.proofs.Math.Bool.{or-true}
use Rattle.std.proofs.lemmas.List.{get_or_default}
use Rattle.ass_num.proofs.OrderLemmas.{first_in}
use Rattle.ass_num.proofs.RegionLemmas.{first_ascends, rest_ascends, row_ascends, last_full}
use Rattle.ass_num.proofs.SumLemmas.{sum_from-same, sum_from-positive, some_positive}
use Rattle.mask_cover.proofs.SampleLemmas.{bit}
use Rattle.mask_cover.proofs.SpanLemmas.{span_row}
use Rattle.mask_cover.specs.Columns.{IsSpanOfRows, Falls}
use Rattle.mask_cover.specs.Steps.{cell_count, row_count, IsInside, HasCells}

natural : (z : ℤ) → pos 0 ≤ℤ z → (b : ℕ) × (z ≡ pos b)
natural (pos b) h = (b, refl)
natural (negsuc b) h = absurd (omega (arith, ints))

-- how far v lies behind u
pub distance : (u v : ℤ) → u ≤ℤ v → (b : ℕ) × (v ≡ u +ℤ pos b)
distance u v h = let n = natural (v -ℤ u) (omega (arith, ints)) in (n.0, omega (arith, ints, n.1))

bit_positive : (b : Bool) → 0 < bit b → b ≡ true
bit_positive true h = refl
bit_positive false h = absurd (omega arith)

-- ---- samples and pixels

falls_somewhere : (phase : ℕ) (i : ℤ) → (x : ℤ) × Falls phase i x
falls_somewhere phase i =
    let x = floor_div (i +ℤ pos phase) (pos 16) in
    (x, record { low = floor_div-below (i +ℤ pos phase) 16 (omega arith); high = floor_div-above (i +ℤ pos phase) 16 (omega arith) })

-- a sample makes the count of its pixel positive
pub sample_counts : (has : ℤ → ℤ → Bool) (px py : ℕ) (i j x y : ℤ) → has i j ≡ true → Falls px i x → Falls py j y → 0 < samples_of has px py x y
unfolding samples_of
sample_counts has px py i j x y is across down =
    let al = across.low in let ah = across.high in let dl = down.low in let dh = down.high in
    let a = distance (first_sample px x) i (omega (arith, ints)) in
    let b = distance (first_sample py y) j (omega (arith, ints)) in
    let here : 0 < counted has (first_sample px x +ℤ pos a.0) (first_sample py y +ℤ pos b.0) = rw (sym a.1, sym b.1, is) (omega arith) in
    sum_from-positive (λ t. sum_from (λ s. counted has s t) (first_sample px x) 16) (first_sample py y) 16 b.0 (omega (arith, ints, b.1))
    (sum_from-positive (λ s. counted has s (first_sample py y +ℤ pos b.0)) (first_sample px x) 16 a.0 (omega (arith, ints, a.1)) here)

-- a pixel with a positive count has a sample
pub counted_sample : (has : ℤ → ℤ → Bool) (px py : ℕ) (x y : ℤ) → 0 < samples_of has px py x y → (i : ℤ) × (j : ℤ) × (has i j ≡ true) × Falls px i x × Falls py j y
unfolding samples_of
counted_sample has px py x y some =
    let b = some_positive (λ t. sum_from (λ s. counted has s t) (first_sample px x) 16) (first_sample py y) 16 some in
    let a = some_positive (λ s. counted has s (first_sample py y +ℤ pos b.0)) (first_sample px x) 16 b.2 in
    let al = a.1 in let bl = b.1 in (
      first_sample px x +ℤ pos a.0,
      first_sample py y +ℤ pos b.0,
      bit_positive _ a.2,
      record { low = omega (arith, ints); high = omega (arith, ints) },
      record { low = omega (arith, ints); high = omega (arith, ints) },
    )

-- a sample stands in a row of the region
pub sample_row : (rows : List (List Run)) (i z : ℤ) → in_runs (row_at rows z) i ≡ true → (k : ℕ) × (k < length rows) × (z ≡ pos k) × (in_runs (get_or rows k []) i ≡ true)
sample_row rows i (negsuc k) h = absurd (false≢true h)
sample_row rows i (pos k) h = (k, inner rows k h, refl, h)
  where
    inner : (rows : List (List Run)) (k : ℕ) → in_runs (get_or rows k []) i ≡ true → k < length rows
    inner [] k h = absurd (false≢true h)
    inner (r ∷ rows) zero h = omega arith
    inner (r ∷ rows) (suc k) h = omega (arith, inner rows k h)

row_member : (region : RegionValue) (k : ℕ) (i : ℤ) → in_runs (get_or region.rows k []) i ≡ true → member region.top region.rows i (region.top +ℤ pos k) ≡ true
row_member region k i h = let e : (region.top +ℤ pos k) -ℤ region.top ≡ pos k = omega (arith, ints) in rw e h

-- ---- the first and the last row

row_sample : (runs : List Run) → ascend runs ≡ true → has_run runs ≡ true → (i : ℤ) × (in_runs runs i ≡ true)
row_sample runs h some = let s = span_row runs (record { from = pos 0; to = pos 0 }) h some in (_, s.first)

pub end_rows : (top : ℤ) (rows : List (List Run)) → is_canonical top rows ≡ true → 0 < length rows
    → ((i : ℤ) × (in_runs (get_or rows 0 []) i ≡ true)) × ((i : ℤ) × (in_runs (get_or rows (length rows - 1) []) i ≡ true))
end_rows top [] h some = absurd (omega arith)
end_rows top (r ∷ rows) h some =
    let p = and_parts (all_ascend (r ∷ rows)) _ h in
    let q = and_parts (first_has_run (r ∷ rows)) _ p.1 in
    let s = and_parts (last_has_run (r ∷ rows)) _ q.1 in
    let e : suc (length rows) - 1 ≡ length rows = omega arith in (
      row_sample r (row_ascends (r ∷ rows) 0 p.0) q.0,
      rw e (row_sample (get_or (r ∷ rows) (length rows) []) (row_ascends (r ∷ rows) (length rows) p.0) (last_full r rows s.0)),
    )

-- ---- the box

-- The box from the pixel (x, y) on has the pixels of the region's span.
pub record Spans (region : RegionValue) (px py : ℕ) (b : PixelBox) : Type 0 where
  pub span : Run
  pub is_span : IsSpanOfRows region.rows (length region.rows) span
  pub canonical : is_canonical region.top region.rows ≡ true
  pub some : 0 < length region.rows
  pub left : Falls px span.from b.x
  pub right : Falls px (span.to -ℤ pos 1) ((b.x +ℤ pos b.w) -ℤ pos 1)
  pub top : Falls py region.top b.y
  pub bottom : Falls py ((region.top +ℤ pos (length region.rows)) -ℤ pos 1) ((b.y +ℤ pos b.h) -ℤ pos 1)

in_order : (phase : ℕ) (i j x y : ℤ) → i ≤ℤ j → Falls phase i x → Falls phase j y → x ≤ℤ y
in_order phase i j x y order f g = let a = f.low in let b = g.high in omega (arith, ints)

pub spanned_has : (region : RegionValue) (px py : ℕ) (b : PixelBox) → Spans region px py b → (x y : ℤ) → 0 < samples_of (member region.top region.rows) px py x y → InBox b x y
spanned_has region px py b s x y some =
    let c = counted_sample (member region.top region.rows) px py x y some in
    let row = sample_row region.rows c.0 (c.1 -ℤ region.top) c.2 in
    let within = s.is_span.inside row.0 c.0 row.1 row.3 in
    let last : c.0 ≤ℤ (s.span.to -ℤ pos 1) = omega (arith, ints, within.1) in
    let down : c.1 ≤ℤ ((region.top +ℤ pos (length region.rows)) -ℤ pos 1) = omega (arith, ints, row.1, row.2) in
    let from : region.top ≤ℤ c.1 = omega (arith, ints, row.2) in
    let r = in_order px c.0 (s.span.to -ℤ pos 1) x _ last c.3 s.right in
    let t = in_order py c.1 ((region.top +ℤ pos (length region.rows)) -ℤ pos 1) y _ down c.4 s.bottom in
    record {
      left = in_order px s.span.from c.0 b.x x within.0 s.left c.3;
      right = omega (arith, ints, r);
      top = in_order py region.top c.1 b.y y from s.top c.4;
      bottom = omega (arith, ints, t);
    }

pub spanned_least : (region : RegionValue) (px py : ℕ) (b : PixelBox) → Spans region px py b
    → (other : PixelBox) → ((x y : ℤ) → 0 < samples_of (member region.top region.rows) px py x y → InBox other x y) → (x y : ℤ) → InBox b x y → InBox other x y
spanned_least region px py b s other has x y in_b =
    let ends = end_rows region.top region.rows s.canonical s.some in
    let a = s.is_span.first in
    let z = s.is_span.last in
    let ya = falls_somewhere py (region.top +ℤ pos a.0) in
    let yz = falls_somewhere py (region.top +ℤ pos z.0) in
    let xt = falls_somewhere px ends.0.0 in
    let xb = falls_somewhere px ends.1.0 in
    let top_row : region.top +ℤ pos 0 ≡ region.top = omega (arith, ints) in
    let some = s.some in
    let last_row : region.top +ℤ pos (length region.rows - 1) ≡ (region.top +ℤ pos (length region.rows)) -ℤ pos 1 = omega (arith, ints) in
    let left = has b.x ya.0 (sample_counts (member region.top region.rows) px py s.span.from (region.top +ℤ pos a.0) b.x ya.0 (row_member region a.0 s.span.from a.2) s.left ya.1) in
    let right = has ((b.x +ℤ pos b.w) -ℤ pos 1) yz.0 (sample_counts (member region.top region.rows) px py (s.span.to -ℤ pos 1) (region.top +ℤ pos z.0) _ yz.0 (row_member region z.0 (s.span.to -ℤ pos 1) z.2) s.right yz.1) in
    let top = has xt.0 b.y (sample_counts (member region.top region.rows) px py ends.0.0 region.top xt.0 b.y (rw top_row at (row_member region 0 ends.0.0 ends.0.1)) xt.1 s.top) in
    let bottom = has xb.0 ((b.y +ℤ pos b.h) -ℤ pos 1) (sample_counts (member region.top region.rows) px py ends.1.0 ((region.top +ℤ pos (length region.rows)) -ℤ pos 1) xb.0 _ (rw last_row at (row_member region (length region.rows - 1) ends.1.0 ends.1.1)) xb.1 s.bottom) in
    let bl = in_b.left in let br = in_b.right in let bt = in_b.top in let bb = in_b.bottom in
    record { left = omega (arith, ints, left.left); right = omega (arith, ints, right.right); top = omega (arith, ints, top.top); bottom = omega (arith, ints, bottom.bottom) }

-- ---- the bytes

pub cell_is : (region : RegionValue) (px py : ℕ) (x y left : ℤ) (above i j : ℕ) → left ≡ first_sample px x → pos above ≡ region.top -ℤ first_sample py y
    → samples_of (member region.top region.rows) px py (x +ℤ pos i) (y +ℤ pos j) ≡ cell_count region.rows left above j i 16
unfolding samples_of cell_count row_count
cell_is region px py x y left above i j e f =
    sum_from-same _ _ (first_sample py (y +ℤ pos j)) (pos (16 * j) -ℤ pos above) 16 (λ b less. row b)
  where
    row : (b : ℕ) → sum_from (λ s. counted (member region.top region.rows) s (first_sample py (y +ℤ pos j) +ℤ pos b)) (first_sample px (x +ℤ pos i)) 16 ≡ row_count (row_at region.rows ((pos (16 * j) -ℤ pos above) +ℤ pos b)) left i
    row b =
        let down : (first_sample py (y +ℤ pos j) +ℤ pos b) -ℤ region.top ≡ (pos (16 * j) -ℤ pos above) +ℤ pos b = omega (arith, ints, f) in
        let across : first_sample px (x +ℤ pos i) ≡ left +ℤ pos (16 * i) = omega (arith, ints, e) in
        ap (λ z. sum_from (λ s. bit (in_runs (row_at region.rows z) s)) (first_sample px (x +ℤ pos i)) 16) down
        ∙ ap (λ z. sum_from (λ s. bit (in_runs (row_at region.rows ((pos (16 * j) -ℤ pos above) +ℤ pos b)) s)) z 16) across

none_counted : (n : ℕ) → (0 < n → ⊥) → coverage_byte n ≡ 0
none_counted zero h = refl
none_counted (suc n) h = absurd (h (omega arith))

pub is_cover : (region : RegionValue) (px py : ℕ) (m : MaskValue) (left : ℤ) (above : ℕ) → Spans region px py (box_of m) → left ≡ first_sample px m.x → pos above ≡ region.top -ℤ first_sample py m.y
    → ((i j : ℕ) → i < m.w → j < m.h → get_or m.bytes (j * m.w + i) 0 ≡ coverage_byte (cell_count region.rows left above j i 16)) → IsCover (member region.top region.rows) px py m
is_cover region px py m left above s e f bytes = record {
  value = λ x y. by_lt_z x m.x
      (λ (l : x <ℤ m.x). outside x y (value_beside m x y (inl l)) (λ b. let z = b.left in omega (arith, ints)))
      (λ (l : m.x ≤ℤ x). by_lt_z x (m.x +ℤ pos m.w)
      (λ (r : x <ℤ (m.x +ℤ pos m.w)). by_lt_z y m.y
      (λ (t : y <ℤ m.y). outside x y (value_over m x y (inl t)) (λ b. let z = b.top in omega (arith, ints)))
      (λ (t : m.y ≤ℤ y). by_lt_z y (m.y +ℤ pos m.h)
      (λ (b : y <ℤ (m.y +ℤ pos m.h)). within x y l r t b)
      (λ (b : (m.y +ℤ pos m.h) ≤ℤ y). outside x y (value_over m x y (inr b)) (λ q. let z = q.bottom in omega (arith, ints)))))
      (λ (r : (m.x +ℤ pos m.w) ≤ℤ x). outside x y (value_beside m x y (inr r)) (λ b. let z = b.right in omega (arith, ints))));
  box = record { has = spanned_has region px py (box_of m) s; least = spanned_least region px py (box_of m) s };
}
  where
    outside : (x y : ℤ) → value_at m x y ≡ 0 → (InBox (box_of m) x y → ⊥) → value_at m x y ≡ coverage_byte (samples_of (member region.top region.rows) px py x y)
    outside x y zero_there out = zero_there ∙ sym (none_counted (samples_of (member region.top region.rows) px py x y) (λ some. out (spanned_has region px py (box_of m) s x y some)))

    within : (x y : ℤ) → m.x ≤ℤ x → x <ℤ (m.x +ℤ pos m.w) → m.y ≤ℤ y → y <ℤ (m.y +ℤ pos m.h) → value_at m x y ≡ coverage_byte (samples_of (member region.top region.rows) px py x y)
    within x y l r t b =
        let i = distance m.x x l in
        let j = distance m.y y t in
        let a : i.0 < m.w = omega (arith, ints, i.1) in
        let c : j.0 < m.h = omega (arith, ints, j.1) in
        value_inside m x y i.0 j.0 i.1 j.1 a c ∙ bytes i.0 j.0 a c ∙ ap coverage_byte (sym (rw (sym i.1, sym j.1) at (cell_is region px py m.x m.y left above i.0 j.0 e f)))

abbrev pub no_pixels : MaskValue
no_pixels = record { x = pos 0; y = pos 0; w = 0; h = 0; bytes = [] }

nowhere : (region : RegionValue) (px py : ℕ) → region.rows ≡ [] → (x y : ℤ) → 0 < samples_of (member region.top region.rows) px py x y → ⊥
nowhere region px py none x y some =
    let c = counted_sample (member region.top region.rows) px py x y some in
    let row = sample_row region.rows c.0 (c.1 -ℤ region.top) c.2 in
    let e : length region.rows ≡ 0 = rw none refl in
    omega (arith, row.1, e)

-- the mask without pixels has no value but 0
pub no_value : (x y : ℤ) → value_at no_pixels x y ≡ 0
no_value x y = by_lt_z x (pos 0)
    (λ (l : x <ℤ pos 0). value_beside no_pixels x y (inl l))
    (λ (l : pos 0 ≤ℤ x). value_beside no_pixels x y (inr l))

-- a region without rows
pub empty_cover : (region : RegionValue) (px py : ℕ) → region.rows ≡ [] → IsCover (member region.top region.rows) px py no_pixels
empty_cover region px py none = record {
  value = λ x y. no_value x y ∙ sym (none_counted (samples_of (member region.top region.rows) px py x y) (nowhere region px py none x y));
  box = record { has = λ x y some. absurd (nowhere region px py none x y some); least = λ other has x y b. let l = b.left in let r = b.right in absurd (omega (arith, ints)) };
}

-- ---- the runs of the rows lie in the box

pub falls_same : (phase : ℕ) (i j x : ℤ) → i ≡ j → Falls phase i x → Falls phase j x
falls_same phase i j x e h = rw (sym e) h

run_in : (runs : List Run) (k : ℕ) (d : Run) → ascend runs ≡ true → k < length runs → (in_runs runs (get_or runs k d).from ≡ true) × (in_runs runs ((get_or runs k d).to -ℤ pos 1) ≡ true)
run_in [] k d h p = absurd (omega arith)
run_in (r ∷ rs) zero d h p =
    let full = (first_ascends r rs h).0 in
    (first_in r rs r.from (omega (arith, ints)) full, first_in r rs (r.to -ℤ pos 1) (omega (arith, ints)) (omega (arith, ints)))
run_in (r ∷ rs) (suc k) d h p =
    let rest = run_in rs k d (rest_ascends r rs h) (omega arith) in
    (rw rest.0 (or-true _), rw rest.1 (or-true _))

pub spans_inside : (rows : List (List Run)) (px : ℕ) (span : Run) (first start : ℤ) (count : ℕ) → all_ascend rows ≡ true → IsSpanOfRows rows (length rows) span
    → Falls px span.from first → Falls px (span.to -ℤ pos 1) ((first +ℤ pos count) -ℤ pos 1) → start ≡ first_sample px first → All (IsInside start (count + 2)) rows
spans_inside rows px span first start count h s f g e = λ k d p.
    rw (get_or_default rows k d [] p) (λ n o q.
    let ends = run_in (get_or rows k []) n o (row_ascends rows k h) q in
    let low = s.inside k (get_or (get_or rows k []) n o).from p ends.0 in
    let high = s.inside k ((get_or (get_or rows k []) n o).to -ℤ pos 1) p ends.1 in
    let fl = f.low in
    let gh = g.high in
    (omega (arith, ints, low.0), omega (arith, ints, high.1)))

pub some_pixels : (phase : ℕ) (i j x : ℤ) (count : ℕ) → i ≤ℤ j → Falls phase i x → Falls phase j ((x +ℤ pos count) -ℤ pos 1) → 0 < count
some_pixels phase i j x count order f g = let h = in_order phase i j x _ order f g in omega (arith, ints, h)

pub span_order : (rows : List (List Run)) (n : ℕ) (span : Run) → IsSpanOfRows rows n span → span.from ≤ℤ (span.to -ℤ pos 1)
span_order rows n span s = let a = s.first in let h = s.inside a.0 span.from a.1 a.2 in omega (arith, ints, h.1)

pub spans_full : (region : RegionValue) (px py : ℕ) (b : PixelBox) → Spans region px py b → (0 < b.w) × (0 < b.h)
spans_full region px py b s =
    let some = s.some in
    let order : region.top ≤ℤ ((region.top +ℤ pos (length region.rows)) -ℤ pos 1) = omega (arith, ints) in (
      some_pixels px s.span.from (s.span.to -ℤ pos 1) b.x b.w (span_order region.rows (length region.rows) s.span s.is_span) s.left s.right,
      some_pixels py region.top ((region.top +ℤ pos (length region.rows)) -ℤ pos 1) b.y b.h order s.top s.bottom,
    )

pub mask_ok : (x y : ℤ) (w h : ℕ) (bytes : List ℕ) → length bytes ≡ w * h → 0 < w → 0 < h → is_mask (record { x = x; y = y; w = w; h = h; bytes = bytes }) ≡ true
mask_ok x y w h bytes e a b =
    let some : 0 < w * h = omega (arith, cell_below 0 0 w h a b) in
    let full : (length bytes == 0) ≡ false = grind (arith, nat_tests) in
    let same : (length bytes == w * h) ≡ true = grind (arith, nat_tests) in
    rw (same, full) refl

pub last_row : (top f : ℤ) (n m : ℕ) → FitsSigned w32 top → f ≡ top → m ≡ n → (top +ℤ pos n) ≤ℤ pos (2 ^ 31) → (to_z w64 (of_z w64 (to_z w64 (of_z w64 f) +ℤ to_z w64 m)) -ℤ pos 1) ≡ ((top +ℤ pos n) -ℤ pos 1)
last_row top f n m fits e len high = omega (arith, ints)

pub cells_for : (rows others : List (List Run)) (left other : ℤ) (above w h : ℕ) (bytes : List ℕ) → rows ≡ others → left ≡ other → HasCells rows left above w h bytes → HasCells others other above w h bytes
cells_for rows others left other above w h bytes e f cells = rw (sym e, sym f) cells

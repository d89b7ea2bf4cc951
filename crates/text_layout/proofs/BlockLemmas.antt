-- Lines and items lie within their block, and there are so many of them.
use Rattle.std.proofs.Common.{◌≡◌, ℕ, zero, suc, ◌+◌, ◌-◌, ◌<◌, ◌≤◌, ◌==◌, Bool, true, false, cond, List, [], ◌∷◌, ◌++◌, map, length, take, drop, get_or, ℤ, pos, ◌+ℤ◌, ◌-ℤ◌, ◌≤ℤ◌, refl, sym, ap, subst, ◌∙◌, length-append, arith}
use Rattle.std.proofs.lemmas.Bool.{eqb-true}
use Rattle.std.proofs.lemmas.Int.{ints}
use Rattle.std.proofs.lemmas.List.{drop-map, length-map, take-map}
use Rattle.std.proofs.lemmas.List.Elements.{All-append, All-cons, All-head, All-map, All-nil, All-tail}
use Rattle.std.proofs.lemmas.List.FromFn.{length-map-range_with_len}
use Rattle.std.proofs.Math.Seq.{take-add}
use Rattle.std.specs.List.{All, range_with_len}
use Rattle.ass_num.specs.Limits.{max_text_bytes}
use Rattle.ass_num.proofs.Floor.{floor_div_nonnegative}
use Rattle.line_layout.specs.Breaks.{IsItemWidth, IsParagraph, pen, width}
use Rattle.line_layout.proofs.PenLemmas.{pen-le, pen-more}
use Rattle.text_layout.specs.declared.anchors.AnchorSide.{AnchorSide}
use Rattle.text_layout.specs.declared.anchors.AnchorSide.TheVariants.{Near, Middle, Far}
use Rattle.text_layout.specs.declared.extents.Extent.{Extent}
use Rattle.text_layout.specs.declared.laid.Line.{Line}
use Rattle.text_layout.specs.declared.metrics.Metrics.{Metrics}
use Rattle.text_layout.specs.declared.spans.Span.{Span}
use Rattle.override_tags.specs.declared.view.EventView.{EventView}
use Rattle.override_tags.specs.declared.view.Shown.{Shown}
use Rattle.text_layout.specs.Anchors.{edge_across, edge_within}
use Rattle.text_layout.specs.Extents.{IsItemExtent}
use Rattle.text_layout.specs.Limits.{max_block, max_line}
use Rattle.text_layout.specs.Layouts.{IsWithinBlock, laid_out}
use Rattle.text_layout.specs.Lines.{IsLineExtent, IsLineWithin, IsPlacedWithin, advances_of, blank_extent, block_height, block_width, heights_of, joined_extent, line_extent, line_extents, line_at, lines_from, placed_from, placed_in, placed_item, length_sum}
use Rattle.text_layout.specs.Spans.{AreSpans, IsSpanWithin}
use Rattle.text_layout.proofs.SpanLemmas.{AreSpans-length}
use Rattle.text_layout.proofs.LineLemmas.{total-append, total-cons, width-from_zero, width-most, width-widest}

-- ---- spans

pub spans-within : (from items : ℕ) (spans : List Span) → AreSpans from (items + 1) spans → All (IsSpanWithin items) spans
spans-within from items [] h = All-nil (IsSpanWithin items)
spans-within from items (s ∷ ss) h =
    let first = h.0 in
    let ordered = h.1 in
    let below = h.2 in
    All-cons (IsSpanWithin items) s ss (record { ordered = omega (arith, first, ordered); within = omega (arith, below) }) (spans-within (s.last + 1) items ss h.3)

pub spans-some : (items : ℕ) (spans : List Span) → AreSpans 0 (items + 1) spans → 0 < length spans
spans-some items [] h = absurd (omega (arith, h))
spans-some items (s ∷ ss) h = omega arith

-- ---- edges

pub edge-inner : (edge : AnchorSide) (len : ℤ) → pos 0 ≤ℤ len → (pos 0 ≤ℤ edge_within edge len) × (edge_within edge len ≤ℤ len)
edge-inner Near len l = (omega (arith, ints), l)
edge-inner Middle len l = let h = floor_div_nonnegative (pos 0 +ℤ len) 2 (omega arith) (omega (arith, ints, l)) in let most = h.1 in (h.0, omega (arith, ints, most))
edge-inner Far len l = (l, omega (arith, ints))

-- ---- lines

pub height-from_zero : (es : List Extent) → All IsLineExtent es → pos 0 ≤ℤ block_height es
height-from_zero [] h = omega (arith, ints)
height-from_zero (e ∷ es) h =
    let x = All-head IsLineExtent e es h in
    let sum = total-cons (e.ascent +ℤ e.descent) (heights_of es) in
    let rest = height-from_zero es (All-tail IsLineExtent e es h) in
    let up = x.ascent.0 in
    let down = x.descent.0 in
    omega (arith, ints, sum, rest, up, down)

-- A line lies within the block, and is as wide as its items.
abbrev pub HoldsItems : List ℤ → ℤ → ℤ → Line → Type 0
HoldsItems ws across down line = IsLineWithin (length ws) across down line × (line.width ≡ width ws line.first line.last)

pub lines-within : (edge : AnchorSide) (ws : List ℤ) (across down top : ℤ) (f : Span → Extent) (spans : List Span)
    → ((s : Span) → IsSpanWithin (length ws) s → (f s).advance ≡ width ws s.first s.last)
    → All (IsSpanWithin (length ws)) spans → All IsLineExtent (map f spans) → All (λ (e : Extent). e.advance ≤ℤ across) (map f spans)
    → pos 0 ≤ℤ top → (top +ℤ block_height (map f spans)) ≤ℤ down
    → All (HoldsItems ws across down) (lines_from edge across top spans (map f spans))
lines-within edge ws across down top f [] each h x w t b = All-nil (HoldsItems ws across down)
lines-within edge ws across down top f (s ∷ ss) each h x w t b =
    let P = HoldsItems ws across down in
    let e = f s in
    let span = All-head (IsSpanWithin (length ws)) s ss h in
    let reach = All-head IsLineExtent e (map f ss) x in
    let fits = All-head (λ (d : Extent). d.advance ≤ℤ across) e (map f ss) w in
    let up = reach.ascent.0 in
    let down_to = reach.descent.0 in
    let from_zero = reach.from_zero in
    let sum = total-cons (e.ascent +ℤ e.descent) (heights_of (map f ss)) in
    let rest = height-from_zero (map f ss) (All-tail IsLineExtent e (map f ss) x) in
    let inner = edge-inner edge (across -ℤ e.advance) (omega (arith, ints, fits)) in
    let near = inner.0 in
    let far = inner.1 in
    let below : ((top +ℤ (e.ascent +ℤ e.descent)) +ℤ block_height (map f ss)) ≤ℤ down = omega (arith, ints, sum, b) in
    All-cons P (line_at edge across s e top) (lines_from edge across (top +ℤ (e.ascent +ℤ e.descent)) ss (map f ss)) (
      record {
        ordered = span.ordered;
        within = span.within;
        left = near;
        wide = from_zero;
        right = omega (arith, ints, far);
        top = t;
        above = omega (arith, ints, up);
        below = omega (arith, ints, up, down_to);
        bottom = omega (arith, ints, below, rest);
      },
      each s span,
    )
    (lines-within edge ws across down (top +ℤ (e.ascent +ℤ e.descent)) f ss each
    (All-tail (IsSpanWithin (length ws)) s ss h) (All-tail IsLineExtent e (map f ss) x) (All-tail (λ (d : Extent). d.advance ≤ℤ across) e (map f ss) w)
    (omega (arith, ints, t, up, down_to)) below)

pub lines-count : (edge : AnchorSide) (across top : ℤ) (f : Span → Extent) (spans : List Span) → length (lines_from edge across top spans (map f spans)) ≡ length spans
lines-count edge across top f [] = refl
lines-count edge across top f (s ∷ ss) = ap suc (lines-count edge across (top +ℤ ((f s).ascent +ℤ (f s).descent)) f ss)

-- ---- items

-- numbers from one to another
range-all : (P : ℕ → Type 0) (a n : ℕ) → ((i : ℕ) → a ≤ i → i < a + n → P i) → All P (range_with_len a n)
range-all P a zero h = All-nil P
range-all P a (suc n) h = All-cons P a (range_with_len (a + 1) n) (h a (omega arith) (omega arith)) (range-all P (a + 1) n (λ i l m. h i (omega (arith, l)) (omega (arith, m))))

in_line : (ws : List ℤ) (count number : ℕ) (across down : ℤ) (line : Line) → IsParagraph ws [] → number < count → HoldsItems ws across down line
    → All (IsPlacedWithin (length ws) count across) (placed_in ws number line)
in_line ws count number across down line g less h =
    let P = IsPlacedWithin (length ws) count across in
    let l = h.0 in
    let same = h.1 in
    let ordered = l.ordered in
    let within = l.within in
    let left = l.left in
    let right = l.right in
    All-map P (placed_item ws number line) (range_with_len line.first (line.last - line.first))
    (range-all (λ (i : ℕ). P (placed_item ws number line i)) line.first (line.last - line.first)
    (λ i from to.
    let inside : i < length ws = omega (arith, to, ordered, within) in
    let before = pen-le ws [] line.first i g from in
    let after = pen-le ws [] (i + 1) line.last g (omega (arith, to, ordered)) in
    let more = pen-more ws i inside in
    let wide = (g.narrow i (pos 0) inside).0 in
    record {
      item = inside;
      line = less;
      left = omega (arith, ints, left, before);
      wide = wide;
      right = omega (arith, ints, more, after, same, right);
    }))

pub placed-within : (ws : List ℤ) (count number : ℕ) (across down : ℤ) (lines : List Line) → IsParagraph ws [] → number + length lines ≤ count
    → All (HoldsItems ws across down) lines → All (IsPlacedWithin (length ws) count across) (placed_from ws number lines)
placed-within ws count number across down [] g few h = All-nil (IsPlacedWithin (length ws) count across)
placed-within ws count number across down (line ∷ lines) g few h =
    All-append (IsPlacedWithin (length ws) count across) (placed_in ws number line) (placed_from ws (number + 1) lines)
    (in_line ws count number across down line g (omega (arith, few)) (All-head (HoldsItems ws across down) line lines h))
    (placed-within ws count (number + 1) across down lines g (omega (arith, few)) (All-tail (HoldsItems ws across down) line lines h))

-- Of each span its items are placed, and not the one behind it.
pub placed-count : (edge : AnchorSide) (ws : List ℤ) (number from end : ℕ) (across top : ℤ) (f : Span → Extent) (spans : List Span) → AreSpans from end spans
    → from + length (placed_from ws number (lines_from edge across top spans (map f spans))) + length spans ≤ end
placed-count edge ws number from end across top f [] h = omega (arith, h)
placed-count edge ws number from end across top f (s ∷ ss) h =
    let next = top +ℤ ((f s).ascent +ℤ (f s).descent) in
    let line = line_at edge across s (f s) top in
    let rest = placed_from ws (number + 1) (lines_from edge across next ss (map f ss)) in
    let first = h.0 in
    let ordered = h.1 in
    let here : length (placed_in ws number line) ≡ s.last - s.first = length-map-range_with_len (placed_item ws number line) s.first (s.last - s.first) in
    let both : length (placed_in ws number line ++ rest) ≡ length (placed_in ws number line) + length rest = length-append (placed_in ws number line) rest in
    let later = placed-count edge ws (number + 1) (s.last + 1) end across next f ss h.3 in
    omega (arith, first, ordered, here, both, later)

-- ---- widths

-- how wide the items of a part of a list are
pub slice-total : (es : List Extent) (a b : ℕ) → a ≤ b → length_sum (advances_of (take (b - a) (drop a es))) ≡ width (advances_of es) a b
slice-total es a b l =
    let g : Extent → ℤ = λ (e : Extent). e.advance in
    let ws = advances_of es in
    let part : advances_of (take (b - a) (drop a es)) ≡ take (b - a) (drop a ws) = sym (ap (take (b - a)) (drop-map g a es) ∙ take-map g (b - a) (drop a es)) in
    let sum = ap length_sum part in
    let all : pen ws b ≡ pen ws a +ℤ length_sum (take (b - a) (drop a ws)) =
    ap (pen ws) (let e : b ≡ a + (b - a) = omega (arith, l) in e) ∙ ap length_sum (take-add a (b - a) ws) ∙ total-append (take a ws) (take (b - a) (drop a ws)) in
    omega (arith, ints, sum, all)

by_test : (t : Bool) (blank joined : Extent) (z : ℤ) → (t ≡ true → blank.advance ≡ z) → joined.advance ≡ z → (cond t blank joined).advance ≡ z
by_test true blank joined z p q = p refl
by_test false blank joined z p q = q

-- A line is as wide as its items.
pub line-advance : (metrics : List Metrics) (items : List Shown) (es : List Extent) (s : Span) → s.first ≤ s.last
    → (line_extent metrics items es s).advance ≡ width (advances_of es) s.first s.last
line-advance metrics items es s ordered =
    by_test (s.first == s.last) (blank_extent metrics items s.last) (joined_extent (take (s.last - s.first) (drop s.first es))) (width (advances_of es) s.first s.last)
    (λ t. let e = ap (pen (advances_of es)) (eqb-true s.first s.last t) in omega (arith, ints, e))
    (slice-total es s.first s.last ordered)

-- ---- the block

-- the items have widths
pub advances-within : (es : List Extent) → All IsItemExtent es → All IsItemWidth (advances_of es)
advances-within es h = All-map IsItemWidth (λ (e : Extent). e.advance) es (λ k d l. (h k d l).advance)

pub paragraph_of_all : (es : List Extent) → length es ≤ max_text_bytes → All IsItemExtent es → IsParagraph (advances_of es) []
paragraph_of_all es few h = record {
  short = let same = length-map es (λ (e : Extent). e.advance) in omega (arith, same, few);
  narrow = advances-within es h;
  within = λ k l. absurd (omega (arith, l));
  ascending = λ k l. absurd (omega (arith, l));
}

-- Lines and items lie within the block, and it isn't too wide or high.
pub laid-within : (view : EventView) (metrics : List Metrics) (es : List Extent) (spans : List Span) → length es ≤ max_text_bytes → All IsItemExtent es
    → AreSpans 0 (length es + 1) spans → All IsLineExtent (line_extents metrics view.items es spans) → block_height (line_extents metrics view.items es spans) ≤ℤ pos max_block
    → All (HoldsItems (advances_of es) (laid_out view metrics es spans).width (laid_out view metrics es spans).height) (laid_out view metrics es spans).lines
    × IsWithinBlock (length es) (laid_out view metrics es spans)
laid-within view metrics es spans few each order reach high =
    let ws = advances_of es in
    let f = line_extent metrics view.items es in
    let extents = line_extents metrics view.items es spans in
    let across = block_width extents in
    let down = block_height extents in
    let edge = edge_across view.align in
    let laid = laid_out view metrics es spans in
    let same : length ws ≡ length es = length-map es (λ (e : Extent). e.advance) in
    let all : AreSpans 0 (length ws + 1) spans = subst (λ (n : ℕ). AreSpans 0 (n + 1) spans) (sym same) order in
    let lines =
    lines-within edge ws across down (pos 0) f spans (λ s h. line-advance metrics view.items es s h.ordered) (spans-within 0 (length ws) spans all) reach (width-widest extents)
    (omega (arith, ints)) (omega (arith, ints)) in
    let count = lines-count edge across (pos 0) f spans in
    let placed = placed-within ws (length laid.lines) 0 across down laid.lines (paragraph_of_all es few each) (omega arith) lines in
    let length_sum = placed-count edge ws 0 0 (length ws + 1) across (pos 0) f spans all in
    let some = spans-some (length ws) spans all in
    let most = AreSpans-length 0 (length ws + 1) spans all in
    let wide = width-most extents reach in (
      lines,
      subst (λ (n : ℕ). IsWithinBlock n laid) same (record {
        width = record { from_zero = width-from_zero extents; most = omega (arith, ints, wide) };
        height = record { from_zero = height-from_zero extents reach; most = high };
        some_line = omega (arith, count, some);
        few_lines = omega (arith, count, most);
        lines = λ k d l. (lines k d l).0;
        few_placed = omega (arith, length_sum, some);
        placed = placed;
      }),
    )

IsLineWithin-wider : (items : ℕ) (a b m n : ℤ) (line : Line) → a ≤ℤ m → b ≤ℤ n → IsLineWithin items a b line → IsLineWithin items m n line
IsLineWithin-wider items a b m n line l k h =
    let right = h.right in
    let bottom = h.bottom in
    record {
      ordered = h.ordered;
      within = h.within;
      left = h.left;
      wide = h.wide;
      right = omega (arith, ints, right, l);
      top = h.top;
      above = h.above;
      below = h.below;
      bottom = omega (arith, ints, bottom, k);
    }

-- Lines lie within the greatest block.
pub lines-most : (view : EventView) (metrics : List Metrics) (es : List Extent) (spans : List Span) → length es ≤ max_text_bytes → All IsItemExtent es
    → AreSpans 0 (length es + 1) spans → All IsLineExtent (line_extents metrics view.items es spans) → block_height (line_extents metrics view.items es spans) ≤ℤ pos max_block
    → All (IsLineWithin (length es) (pos max_line) (pos max_block)) (laid_out view metrics es spans).lines
lines-most view metrics es spans few each order reach high =
    let laid = laid_out view metrics es spans in
    let all = (laid-within view metrics es spans few each order reach high).1.lines in
    λ k d l. IsLineWithin-wider (length es) laid.width laid.height (pos max_line) (pos max_block) (get_or laid.lines k d) (width-most (line_extents metrics view.items es spans) reach) high (all k d l)

-- The items of a layout follow one another line by line.
use Rattle.std.proofs.Common.{◌≡◌, refl, sym, ap, ap₂, subst, ◌∙◌, ℕ, ◌+◌, ◌-◌, ◌<◌, ◌≤◌, Bool, true, false, List, [], ◌∷◌, ◌++◌, length, filter, ℤ, pos, ◌+ℤ◌, arith, append_assoc}
use Rattle.std.specs.List.{All, range_with_len, zip}
use Rattle.std.proofs.lemmas.Bool.Decides.{nat_tests}
use Rattle.std.proofs.lemmas.Int.{ints}
use Rattle.std.proofs.lemmas.List.{append-nil, drop_at, length-append, length-map, take_at}
use Rattle.std.proofs.lemmas.List.Elements.{All-append, All-from_get_or, All-head, All-map, All-nil, All-tail, All-weaker, filter-append}
use Rattle.std.proofs.lemmas.List.FromFn.{get_or-range_with_len, length-range_with_len}
use Rattle.std.proofs.lemmas.Slice.Zip.{length-zip}
use Rattle.ass_events.specs.declared.event.Event.{Event}
use Rattle.frame_view.specs.declared.view.FrameView.{FrameView}
use Rattle.ass_script.specs.Scripts.{ScriptValue}
use Rattle.bdf_font.specs.Fonts.{FontValue}
use Rattle.override_tags.specs.declared.view.EventView.{EventView}
use Rattle.text_layout.specs.Anchors.{IsBlockSide, edge_across, margins_of, wrapping_width}
use Rattle.text_layout.specs.Clusters.{cluster_ends}
use Rattle.text_layout.specs.Extents.{item_extents}
use Rattle.text_layout.specs.Kinds.{chars_of, roles_of}
use Rattle.text_layout.specs.LineScales.{line_scales}
use Rattle.text_layout.specs.Layouts.{IsLaid, IsWithinBlock, laid_out}
use Rattle.text_layout.specs.Lines.{IsLineWithin, IsPlacedWithin, advances_of, block_width, line_at, line_extents, lines_from, placed_from, placed_in, placed_item}
use Rattle.text_layout.specs.Metrics.{all_metrics}
use Rattle.text_layout.specs.Spans.{AreSpans, paragraphs_of}
use Rattle.text_layout.specs.declared.extents.Extent.{Extent}
use Rattle.text_layout.specs.declared.laid.Laid.{Laid}
use Rattle.text_layout.specs.declared.laid.Line.{Line}
use Rattle.text_layout.specs.declared.laid.Placed.{Placed}
use Rattle.text_layout.specs.declared.spans.Span.{Span}
use Rattle.text_layout.proofs.ClusterLemmas.{length-ends_behind}
use Rattle.event_draws.specs.Draws.{IsBlockLine}
use Rattle.event_draws.specs.EventDraws.{FollowLines, IsDrawnLayout}
use Rattle.event_draws.specs.Items.{IsBlockItem, is_of_line}
use Rattle.event_draws.proofs.LineSpans.{lines-spans, paragraphs-spans}

keep-all : {X : Type 0} (p : X → Bool) (xs : List X) → All (λ x. p x ≡ true) xs → filter p xs ≡ xs
keep-all p [] h = refl
keep-all p (x ∷ xs) h =
    grind (arith, All-head (λ y. p y ≡ true) x xs h, keep-all p xs (All-tail (λ y. p y ≡ true) x xs h))

keep-none : {X : Type 0} (p : X → Bool) (xs : List X) → All (λ x. p x ≡ false) xs → filter p xs ≡ []
keep-none p [] h = refl
keep-none p (x ∷ xs) h =
    grind (arith, All-head (λ y. p y ≡ false) x xs h, keep-none p xs (All-tail (λ y. p y ≡ false) x xs h))

abbrev StandsIn : ℕ → ℕ → Placed → Type 0
StandsIn from to q = (from ≤ q.item) × (q.item < to)

in-line : (ws : List ℤ) (number : ℕ) (line : Line) → All (StandsIn line.first line.last) (placed_in ws number line)
in-line ws number line =
    All-map (StandsIn line.first line.last) (placed_item ws number line) (range_with_len line.first (line.last - line.first))
    (All-from_get_or (λ k. (line.first ≤ k) × (k < line.last)) (range_with_len line.first (line.last - line.first)) 0
    (λ i h.
    let n : i < line.last - line.first = omega (arith, h, length-range_with_len line.first (line.last - line.first)) in
    let e = get_or-range_with_len line.first (line.last - line.first) i 0 n in
    (omega arith, omega arith)))

from-above : (align : ℕ) (ws : List ℤ) (number from end : ℕ) (across top : ℤ) (spans : List Span) (extents : List Extent) → AreSpans from end spans
    → All (λ (q : Placed). from ≤ q.item) (placed_from ws number (lines_from (edge_across align) across top spans extents))
from-above align ws number from end across top [] extents h = All-nil _
from-above align ws number from end across top (s ∷ spans) [] h = All-nil _
from-above align ws number from end across top (s ∷ spans) (e ∷ extents) h =
    let line = line_at (edge_across align) across s e top in
    All-append (λ (q : Placed). from ≤ q.item) (placed_in ws number line) _
    (All-weaker (StandsIn line.first line.last) (λ (q : Placed). from ≤ q.item) (λ q g. omega (arith, g, h.0)) _ (in-line ws number line))
    (All-weaker (λ (q : Placed). s.last + 1 ≤ q.item) (λ (q : Placed). from ≤ q.item) (λ q g. omega (arith, g, h.1)) _
    (from-above align ws (number + 1) (s.last + 1) end across (top +ℤ (e.ascent +ℤ e.descent)) spans extents h.3))

-- Lines that are made of spans one after the other.
pub follow : (laid : Laid) (align : ℕ) (ws : List ℤ) (number from end : ℕ) (across top : ℤ) (spans : List Span) (extents : List Extent) (front : List Placed) → AreSpans from end spans
    → All (λ (q : Placed). q.item < from) front → laid.placed ≡ front ++ placed_from ws number (lines_from (edge_across align) across top spans extents)
    → FollowLines laid (lines_from (edge_across align) across top spans extents) (placed_from ws number (lines_from (edge_across align) across top spans extents))
follow laid align ws number from end across top [] extents front h below e = tt
follow laid align ws number from end across top (s ∷ spans) [] front h below e = tt
follow laid align ws number from end across top (s ∷ spans) (x ∷ extents) front h below e =
    let line = line_at (edge_across align) across s x top in
    let below_it = top +ℤ (x.ascent +ℤ x.descent) in
    let mine = placed_in ws number line in
    let rest = placed_from ws (number + 1) (lines_from (edge_across align) across below_it spans extents) in
    let n = s.last - s.first in
    let test = is_of_line line in
    let long : length mine ≡ n = length-map (range_with_len s.first n) (placed_item ws number line) ∙ length-range_with_len s.first n in
    let none_before : filter test front ≡ [] = keep-none test front (All-weaker (λ (q : Placed). q.item < from) (λ q. test q ≡ false) (λ q g. grind (arith, nat_tests, h.0)) front below) in
    let all_mine : filter test mine ≡ mine = keep-all test mine (All-weaker (StandsIn s.first s.last) (λ q. test q ≡ true) (λ q g. grind (arith, nat_tests)) mine (in-line ws number line)) in
    let none_behind : filter test rest ≡ [] =
    keep-none test rest (All-weaker (λ (q : Placed). s.last + 1 ≤ q.item) (λ q. test q ≡ false) (λ q g. grind (arith, nat_tests)) rest
    (from-above align ws (number + 1) (s.last + 1) end across below_it spans extents h.3))
    in (
      omega (arith, h.0, h.1),
      omega (arith, length-append mine rest, long),
      ap (filter test) e ∙ filter-append test front (mine ++ rest) ∙ ap₂ (λ a b. a ++ b) none_before (filter-append test mine rest ∙ ap₂ (λ a b. a ++ b) all_mine none_behind ∙ append-nil mine)
          ∙ sym (take_at mine rest n long),
      subst (λ (z : List Placed). FollowLines laid (lines_from (edge_across align) across below_it spans extents) z) (sym (drop_at mine rest n long))
          (follow laid align ws (number + 1) (s.last + 1) end across below_it spans extents (front ++ mine) h.3
          (All-append (λ (q : Placed). q.item < s.last + 1) front mine
          (All-weaker (λ (q : Placed). q.item < from) (λ (q : Placed). q.item < s.last + 1) (λ q g. omega (arith, g, h.1)) front below)
          (All-weaker (StandsIn s.first s.last) (λ (q : Placed). q.item < s.last + 1) (λ q g. omega (arith, g)) mine (in-line ws number line)))
          (e ∙ sym (append_assoc front mine rest))),
    )

line_within : {items : ℕ} {width height : ℤ} {line : Line} → IsBlockSide width → IsBlockSide height → IsLineWithin items width height line → IsBlockLine line
line_within wide high h =
    let w = wide.most in let t = high.most in
    record {
      left = record { from_zero = h.left; most = omega (arith, ints, h.left, h.wide, h.right, w) };
      top = record { from_zero = h.top; most = omega (arith, ints, h.above, h.below, h.bottom, t) };
      baseline = record { from_zero = omega (arith, ints, h.top, h.above); most = omega (arith, ints, h.below, h.bottom, t) };
      width = record { from_zero = h.wide; most = omega (arith, ints, h.left, h.right, w) };
      height = record { from_zero = omega (arith, ints, h.above, h.below); most = omega (arith, ints, h.top, h.bottom, t) };
    }

placed_within : {items lines : ℕ} {width : ℤ} {placed : Placed} → IsBlockSide width → IsPlacedWithin items lines width placed → IsBlockItem items placed
placed_within wide h =
    let w = wide.most in
    record {
      item = h.item;
      left = record { from_zero = h.left; most = omega (arith, ints, h.wide, h.right, w) };
      wide = record { from_zero = h.wide; most = omega (arith, ints, h.left, h.right, w) };
    }

-- A layout has its lines and items within the block, and its items follow its lines.
pub drawn_layout : (script : ScriptValue) (fonts : List FontValue) (event : Event) (view : EventView) (frame : FrameView) (laid : Laid) → view.wrap ≤ 3
    → IsLaid script fonts event view frame laid → IsWithinBlock (length view.items) laid → IsDrawnLayout (length view.items) laid
drawn_layout script fonts event view frame laid style is within =
    let scales = line_scales script.header frame view in
    let metrics = all_metrics scales fonts view in
    let items = item_extents fonts metrics view.wrap view.items in
    let roles = roles_of view.wrap view.items in
    let max = wrapping_width (margins_of script event) scales in
    let extents = line_extents metrics view.items items is.0 in
    let flags : length (cluster_ends (chars_of view.wrap view.items)) ≡ length view.items = length-ends_behind [] (chars_of view.wrap view.items) ∙ length-map view.items _ in
    let same : length (advances_of items) ≡ length view.items =
    length-map items _ ∙ length-map (zip view.items (cluster_ends (chars_of view.wrap view.items))) _ ∙ omega (arith, length-zip view.items (cluster_ends (chars_of view.wrap view.items)), flags) in
    let spans = lines-spans view.wrap view.items (advances_of items) max 0 (length view.items + 1) (paragraphs_of roles) is.0 style same (omega arith) (paragraphs-spans view.wrap view.items) is.1 in
    record {
      lines = All-weaker (IsLineWithin (length view.items) laid.width laid.height) IsBlockLine (λ line h. line_within within.width within.height h) laid.lines within.lines;
      placed = All-weaker (IsPlacedWithin (length view.items) (length laid.lines) laid.width) (IsBlockItem (length view.items)) (λ q h. placed_within within.width h) laid.placed within.placed;
      in_turn =
          subst (λ (z : Laid). FollowLines z z.lines z.placed) (sym is.2)
          (follow (laid_out view metrics items is.0) view.align (advances_of items) 0 0 (length view.items + 1) (block_width extents) (pos 0) is.0 extents [] spans (All-nil _) refl);
    }

-- Lines of a layout lie below one another, and their items side by side.
use Rattle.std.proofs.Common.{◌≡◌, refl, sym, ap, ◌∙◌, ℕ, zero, suc, ◌+◌, ◌-◌, ◌≤◌, ◌%◌, ◌==◌, Bool, true, false, cond, List, [], ◌∷◌, length, map, fold, ℤ, pos, ◌+ℤ◌, ◌-ℤ◌, ◌*ℤ◌, ◌≤ℤ◌, ◌<ℤ◌, subst, arith}
use Rattle.std.specs.List.{All, range_with_len, zip}
use Rattle.std.specs.Prelude.{slice_index_or}
use Rattle.std.proofs.lemmas.Bool.{eq-eqb, eqb-true, false≢true}
use Rattle.std.proofs.lemmas.Int.{ints}
use Rattle.std.proofs.lemmas.List.{length-map}
use Rattle.std.proofs.lemmas.List.Elements.{All-cons, All-head, All-map, All-nil, All-tail}
use Rattle.std.proofs.lemmas.Slice.Zip.{length-zip}
use Rattle.ass_events.specs.declared.event.Event.{Event}
use Rattle.ass_num.proofs.Floor.{floor_div-above, floor_div-below}
use Rattle.ass_script.specs.Scripts.{ScriptValue}
use Rattle.bdf_font.specs.Fonts.{FontValue}
use Rattle.event_draws.proofs.LineSpans.{lines-spans, paragraphs-spans}
use Rattle.frame_view.specs.declared.view.FrameView.{FrameView}
use Rattle.line_layout.specs.Breaks.{width}
use Rattle.override_tags.specs.declared.view.EventView.{EventView}
use Rattle.override_tags.specs.declared.view.Shown.{Shown}
use Rattle.text_layout.proofs.BlockLemmas.{line-advance}
use Rattle.text_layout.proofs.ClusterLemmas.{length-ends_behind}
use Rattle.text_layout.proofs.LineLemmas.{width-more, width-none, width-widest}
use Rattle.text_layout.specs.Anchors.{edge_across, edge_within, margins_of, wrapping_width}
use Rattle.text_layout.specs.Clusters.{cluster_ends}
use Rattle.text_layout.specs.Extents.{item_extents}
use Rattle.text_layout.specs.Kinds.{chars_of, roles_of}
use Rattle.text_layout.specs.Layouts.{IsLaid}
use Rattle.text_layout.specs.LineScales.{line_scales}
use Rattle.text_layout.specs.Lines.{advances_of, block_width, heights_of, line_at, line_extent, line_extents, lines_from, placed_from, placed_in, placed_item}
use Rattle.text_layout.specs.Metrics.{all_metrics}
use Rattle.text_layout.specs.Spans.{AreSpans, paragraphs_of}
use Rattle.text_layout.specs.declared.extents.Extent.{Extent}
use Rattle.text_layout.specs.declared.laid.Laid.{Laid}
use Rattle.text_layout.specs.declared.laid.Line.{Line}
use Rattle.text_layout.specs.declared.laid.Placed.{Placed}
use Rattle.text_layout.specs.declared.metrics.Metrics.{Metrics}
use Rattle.text_layout.specs.declared.spans.Span.{Span}
use Rattle.draw_laws.proofs.Types.{Side}
use Rattle.draw_laws.specs.Stacks.{AreLinesOfItems, AreSideBySide, AreStacked, IsAligned, IsLineOfItems, IsStackedBlock}

-- ---- lines below one another

stacked : (column : Side) (across top : ℤ) (spans : List Span) (f : Span → Extent)
    → AreStacked top (fold ◌+ℤ◌ top (heights_of (map f spans))) (lines_from column across top spans (map f spans))
stacked column across top [] f = refl
stacked column across top (span ∷ spans) f = (refl, stacked column across (top +ℤ ((f span).ascent +ℤ (f span).descent)) spans f)

-- ---- items side by side

-- A pen that has gone on is the pen of the next item.
gone_on : (left here advance there : ℤ) → there ≡ here +ℤ advance → left +ℤ there ≡ (left +ℤ here) +ℤ advance
gone_on left here advance there e = omega (arith, ints, e)

side_by_side : (ws : List ℤ) (number : ℕ) (line : Line) (a n : ℕ) → a + n ≤ length ws
    → AreSideBySide a (a + n) (line.left +ℤ width ws line.first a) (line.left +ℤ width ws line.first (a + n)) (map (placed_item ws number line) (range_with_len a n))
side_by_side ws number line a zero within = (omega arith, ap (λ (m : ℕ). line.left +ℤ width ws line.first m) (let e : a ≡ a + 0 = omega arith in e))
side_by_side ws number line a (suc n) within =
    let here = line.left +ℤ width ws line.first a in
    let advance = slice_index_or ws a (pos 0) in
    let next : line.left +ℤ width ws line.first (a + 1) ≡ here +ℤ advance =
    gone_on line.left (width ws line.first a) advance (width ws line.first (a + 1)) (width-more ws line.first a (omega arith)) in
    let last : (a + 1) + n ≡ a + suc n = omega arith in (
      refl,
      refl,
      subst (λ (x : ℤ). AreSideBySide (a + 1) (a + suc n) x (line.left +ℤ width ws line.first (a + suc n)) (map (placed_item ws number line) (range_with_len (a + 1) n))) next
          (subst (λ (m : ℕ). AreSideBySide (a + 1) m (line.left +ℤ width ws line.first (a + 1)) (line.left +ℤ width ws line.first m) (map (placed_item ws number line) (range_with_len (a + 1) n))) last
          (side_by_side ws number line (a + 1) n (omega arith))),
    )

nothing_gone : (left none : ℤ) → none ≡ pos 0 → left +ℤ none ≡ left
nothing_gone left none e = omega (arith, ints, e)

line_of_items : (ws : List ℤ) (number : ℕ) (line : Line) → line.first ≤ line.last → line.last ≤ length ws → line.width ≡ width ws line.first line.last
    → IsLineOfItems number line (placed_in ws number line)
line_of_items ws number line ordered within wide =
    let items = map (placed_item ws number line) (range_with_len line.first (line.last - line.first)) in
    let last : line.first + (line.last - line.first) ≡ line.last = omega (arith, ordered) in
    let begins : line.left +ℤ width ws line.first line.first ≡ line.left = nothing_gone line.left (width ws line.first line.first) (width-none ws line.first) in
    record {
      numbered = All-map (λ (item : Placed). item.line ≡ number) (placed_item ws number line) (range_with_len line.first (line.last - line.first)) (λ k d h. refl);
      side_by_side =
          subst (λ (x : ℤ). AreSideBySide line.first line.last x (line.left +ℤ line.width) items) begins
          (subst (λ (z : ℤ). AreSideBySide line.first line.last (line.left +ℤ width ws line.first line.first) (line.left +ℤ z) items) (sym wide)
          (subst (λ (m : ℕ). AreSideBySide line.first m (line.left +ℤ width ws line.first line.first) (line.left +ℤ width ws line.first m) items) last
          (side_by_side ws number line line.first (line.last - line.first) (omega (arith, ordered, within)))));
    }

lines_of_items : (metrics : List Metrics) (shown : List Shown) (es : List Extent) (column : Side) (number from end : ℕ) (across top : ℤ) (spans : List Span)
    → AreSpans from end spans → end ≤ length (advances_of es) + 1
    → AreLinesOfItems number (lines_from column across top spans (line_extents metrics shown es spans))
    (placed_from (advances_of es) number (lines_from column across top spans (line_extents metrics shown es spans)))
lines_of_items metrics shown es column number from end across top [] h most = refl
lines_of_items metrics shown es column number from end across top (span ∷ spans) h most =
    let extent = line_extent metrics shown es span in
    let line = line_at column across span extent top in
    let below = top +ℤ (extent.ascent +ℤ extent.descent) in
    let ordered : span.first ≤ span.last = omega (arith, h.0, h.1) in (
      placed_in (advances_of es) number line,
      placed_from (advances_of es) (number + 1) (lines_from column across below spans (line_extents metrics shown es spans)),
      refl,
      line_of_items (advances_of es) number line ordered (omega (arith, h.2, most)) (line-advance metrics shown es span ordered),
      lines_of_items metrics shown es column (number + 1) (span.last + 1) end across below spans h.3 most,
    )

-- ---- the block

across_block : (column : Side) (across top : ℤ) (spans : List Span) (f : Span → Extent) → All (λ (e : Extent). e.advance ≤ℤ across) (map f spans)
    → All (λ (line : Line). line.width ≤ℤ across) (lines_from column across top spans (map f spans))
across_block column across top [] f h = All-nil (λ (line : Line). line.width ≤ℤ across)
across_block column across top (span ∷ spans) f h =
    All-cons (λ (line : Line). line.width ≤ℤ across) (line_at column across span (f span) top) _ (All-head (λ (e : Extent). e.advance ≤ℤ across) (f span) (map f spans) h)
    (across_block column across (top +ℤ ((f span).ascent +ℤ (f span).descent)) spans f (All-tail (λ (e : Extent). e.advance ≤ℤ across) (f span) (map f spans) h))

-- Where a line stands, by the edge of its column.
record IsColumnPlace (align : ℕ) (x room : ℤ) : Type 0 where
  left : align % 3 ≡ 1 → x ≡ pos 0
  least : align % 3 ≡ 2 → (pos 2 *ℤ x) ≤ℤ room
  most : align % 3 ≡ 2 → room <ℤ ((pos 2 *ℤ x) +ℤ pos 2)
  right : align % 3 ≡ 0 → x ≡ room

by_columns : (align : ℕ) (room : ℤ) (b c : Bool) → (align % 3 == 1) ≡ b → (align % 3 == 2) ≡ c → IsColumnPlace align (edge_within (cond b (edge_across 1) (cond c (edge_across 2) (edge_across 3))) room) room
by_columns align room true c eb ec =
    let is = eqb-true (align % 3) 1 eb in
    record { left = λ e. refl; least = λ e. absurd (omega (arith, is, e)); most = λ e. absurd (omega (arith, is, e)); right = λ e. absurd (omega (arith, is, e)) }
by_columns align room false true eb ec =
    let is = eqb-true (align % 3) 2 ec in
    record {
      left = λ e. absurd (omega (arith, is, e));
      least = λ e. omega (arith, ints, floor_div-below (pos 0 +ℤ room) 2 (omega arith));
      most = λ e. omega (arith, ints, floor_div-above (pos 0 +ℤ room) 2 (omega arith));
      right = λ e. absurd (omega (arith, is, e));
    }
by_columns align room false false eb ec = record {
  left = λ e. absurd (false≢true (sym eb ∙ eq-eqb (align % 3) 1 e));
  least = λ e. absurd (false≢true (sym ec ∙ eq-eqb (align % 3) 2 e));
  most = λ e. absurd (false≢true (sym ec ∙ eq-eqb (align % 3) 2 e));
  right = λ e. refl;
}

at_right : (left room across wide : ℤ) → left ≡ room → room ≡ across -ℤ wide → left +ℤ wide ≡ across
at_right left room across wide e f = omega (arith, ints, e, f)

line_aligned : (align : ℕ) (across top : ℤ) (span : Span) (extent : Extent) → IsAligned align across (line_at (edge_across align) across span extent top)
line_aligned align across top span extent =
    let room = across -ℤ extent.advance in
    let column = by_columns align room (align % 3 == 1) (align % 3 == 2) refl refl in
    record {
      left = column.left;
      least = column.least;
      most = column.most;
      right = λ e. at_right (edge_within (edge_across align) room) room across extent.advance (column.right e) refl;
    }

lines_aligned : (align : ℕ) (across top : ℤ) (spans : List Span) (f : Span → Extent) → All (IsAligned align across) (lines_from (edge_across align) across top spans (map f spans))
lines_aligned align across top [] f = All-nil (IsAligned align across)
lines_aligned align across top (span ∷ spans) f =
    All-cons (IsAligned align across) (line_at (edge_across align) across span (f span) top) _ (line_aligned align across top span (f span))
    (lines_aligned align across (top +ℤ ((f span).ascent +ℤ (f span).descent)) spans f)

pub layout_stacked : (script : ScriptValue) (fonts : List FontValue) (event : Event) (view : EventView) (frame : FrameView) (laid : Laid) → view.wrap ≤ 3
    → IsLaid script fonts event view frame laid → IsStackedBlock view.align laid
layout_stacked script fonts event view frame laid style is =
    let scales = line_scales script.header frame view in
    let metrics = all_metrics scales fonts view in
    let items = item_extents fonts metrics view.wrap view.items in
    let roles = roles_of view.wrap view.items in
    let max = wrapping_width (margins_of script event) scales in
    let f = line_extent metrics view.items items in
    let across = block_width (map f is.0) in
    let flags : length (cluster_ends (chars_of view.wrap view.items)) ≡ length view.items = length-ends_behind [] (chars_of view.wrap view.items) ∙ length-map view.items _ in
    let same : length (advances_of items) ≡ length view.items =
    length-map items _ ∙ length-map (zip view.items (cluster_ends (chars_of view.wrap view.items))) _ ∙ omega (arith, length-zip view.items (cluster_ends (chars_of view.wrap view.items)), flags) in
    let spans = lines-spans view.wrap view.items (advances_of items) max 0 (length view.items + 1) (paragraphs_of roles) is.0 style same (omega arith) (paragraphs-spans view.wrap view.items) is.1 in
    subst (λ (z : Laid). IsStackedBlock view.align z) (sym is.2)
    (record {
      stacked = stacked (edge_across view.align) across (pos 0) is.0 f;
      filled = lines_of_items metrics view.items items (edge_across view.align) 0 0 (length view.items + 1) across (pos 0) is.0 spans (omega (arith, same));
      within = across_block (edge_across view.align) across (pos 0) is.0 f (width-widest (map f is.0));
      aligned = lines_aligned view.align across (pos 0) is.0 f;
    })

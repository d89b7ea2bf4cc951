-- What an event shows can be laid out.
use Rattle.std.proofs.Common.{◌≡◌, ℕ, zero, suc, ◌+◌, ◌-◌, ◌<◌, ◌≤◌, ℤ, pos, ◌+ℤ◌, ◌-ℤ◌, ◌≤ℤ◌, Bool, true, false, Option, Some, None, List, [], ◌∷◌, ◌++◌, length, map, take, drop, get_or, inl, inr, refl, sym, subst, ◌∙◌, arith}
use Rattle.std.specs.Prelude.{slice_index_or, slice_range}
use Rattle.std.specs.List.{All, zip}
use Rattle.std.specs.Option.{option_map_or}
use Rattle.std.proofs.lemmas.Bool.{cases_lt}
use Rattle.std.proofs.lemmas.Int.{ints, by_lt_z}
use Rattle.std.proofs.lemmas.List.{length-drop, length-map, length-take}
use Rattle.std.proofs.lemmas.List.Elements.{All-drop, All-map, All-take}
use Rattle.std.proofs.lemmas.Slice.Zip.{length-zip}
use Rattle.ass_num.specs.Limits.{max_text_bytes}
use Rattle.ass_num.specs.Floor.{held}
use Rattle.ass_num.proofs.Floor.{held_within}
use Rattle.ass_script.specs.Scripts.{ScriptValue}
use Rattle.ass_events.specs.declared.event.Event.{Event}
use Rattle.bdf_font.specs.Fonts.{FontValue}
use Rattle.bdf_font.specs.Sets.{set_glyph_of}
use Rattle.frame_view.specs.declared.view.FrameView.{FrameView}
use Rattle.line_layout.specs.Breaks.{AreFilled, IsItemWidth, IsParagraph, max_width, pen}
use Rattle.line_layout.specs.Filling.{line_end, line_start}
use Rattle.line_layout.proofs.ExistLemmas.{best-exists}
use Rattle.line_layout.proofs.FillLemmas.{Filling, Filling-all, Filling-more, Filling-none, LineTo}
use Rattle.outline_points.specs.Drawings.{drawing_extent}
use Rattle.override_tags.specs.declared.view.EventView.{EventView}
use Rattle.override_tags.specs.declared.view.Shown.{Shown}
use Rattle.override_tags.specs.declared.view.ShownKind.{ShownKind}
use Rattle.override_tags.specs.declared.view.ShownKind.TheVariants as shown
use Rattle.text_layout.specs.Anchors.{margins_of, wrapping_width}
use Rattle.text_layout.specs.Clusters.{cluster_ends}
use Rattle.text_layout.specs.Extents.{char_extent, extent_of, found_advance, item_extents, kind_extent, no_extent, spacing_behind}
use Rattle.text_layout.specs.Kinds.{char_of, chars_of, role_of, roles_of, space_char}
use Rattle.text_layout.specs.Layouts.{IsLaid, laid_out}
use Rattle.text_layout.specs.LineScales.{line_scales}
use Rattle.text_layout.specs.Lines.{advances_of}
use Rattle.text_layout.specs.Metrics.{all_metrics, no_metrics}
use Rattle.text_layout.specs.Spans.{AreChosen, AreLines, AreLinesOf, ArePlacesInOrder, paragraphs_of, places_of, spans_between}
use Rattle.text_layout.specs.declared.extents.Extent.{Extent}
use Rattle.text_layout.specs.declared.laid.Laid.{Laid}
use Rattle.text_layout.specs.declared.metrics.Metrics.{Metrics}
use Rattle.text_layout.specs.declared.spans.Span.{Span}
use Rattle.text_layout.proofs.ClusterLemmas.{length-ends_behind}
use Rattle.text_layout.proofs.SpanLemmas.{paragraph_of, places_from-order}

-- ---- lines that are filled from the front

line_to_from : (ws : List ℤ) (s : List ℕ) (limit : ℤ) (first end d : ℕ) → end + d ≡ length s → first ≤ end
    → (first < end → (pen ws (line_end ws s end) -ℤ pen ws (line_start s first)) ≤ℤ limit) → (to : ℕ) × LineTo ws s limit first to
line_to_from ws s limit first end zero e l n = (end, record { onward = l; within = omega (arith, e); narrow = n; last = λ m. absurd (omega (arith, e, m)) })
line_to_from ws s limit first end (suc d) e l n =
    by_lt_z limit (pen ws (line_end ws s (end + 1)) -ℤ pen ws (line_start s first))
    (λ h. (end, record { onward = l; within = omega (arith, e); narrow = n; last = λ m. h }))
    (λ h. line_to_from ws s limit first (end + 1) d (omega (arith, e)) (omega (arith, l)) (λ m. h))

fill_on : (ws : List ℤ) (s : List ℕ) (limit : ℤ) (places : List ℕ) (first d : ℕ) → IsParagraph ws s → length s + 1 ≤ first + d → Filling ws s limit places first
    → (all : List ℕ) × AreFilled ws s limit 0 all
fill_on ws s limit places first zero g l r = let w = r.within in absurd (omega (arith, w, l))
fill_on ws s limit places first (suc d) g l r =
    let w = r.within in
    let t = line_to_from ws s limit first first (length s - first) (omega (arith, w)) (omega arith) (λ m. absurd (omega (arith, m))) in
    let o = t.1.onward in
    let v = t.1.within in
    elim (cases_lt t.0 (length s)) [
      | inl m ↦ fill_on ws s limit (places ++ get_or s t.0 0 ∷ []) (t.0 + 1) d g (omega (arith, o, l)) (Filling-more ws s limit places first t.0 g m t.1 r)
      | inr m ↦ (places, Filling-all ws s limit places first t.0 g (omega (arith, v, m)) t.1 r)
    ]

-- Lines can be filled.
filled : (ws : List ℤ) (s : List ℕ) (limit : ℤ) → IsParagraph ws s → (all : List ℕ) × AreFilled ws s limit 0 all
filled ws s limit g = fill_on ws s limit [] 0 (length s + 1) g (omega arith) (Filling-none ws s limit)

-- ---- the places of each wrap style

chosen_exists : (wrap : ℕ) (ws : List ℤ) (s : List ℕ) (max : ℤ) → IsParagraph ws s → (places : List ℕ) × AreChosen wrap ws s max places
chosen_exists zero ws s max g =
    let b = best-exists ws s max true g in
    (b.0, record { greatest = λ e. b.1; filled = λ e. absurd (omega (arith, e)); none = λ a. absurd (a refl); least = λ e. absurd (omega (arith, e)) })
chosen_exists (suc zero) ws s max g =
    let f = filled ws s max g in
    (f.0, record { greatest = λ e. absurd (omega (arith, e)); filled = λ e. f.1; none = λ a b. absurd (b refl); least = λ e. absurd (omega (arith, e)) })
chosen_exists (suc (suc zero)) ws s max g =
    ([], record { greatest = λ e. absurd (omega (arith, e)); filled = λ e. absurd (omega (arith, e)); none = λ a b c. refl; least = λ e. absurd (omega (arith, e)) })
chosen_exists (suc (suc (suc zero))) ws s max g =
    let b = best-exists ws s max false g in
    (b.0, record { greatest = λ e. absurd (omega (arith, e)); filled = λ e. absurd (omega (arith, e)); none = λ a b c. absurd (c refl); least = λ e. b.1 })
chosen_exists (suc (suc (suc (suc n)))) ws s max g =
    ([], record { greatest = λ e. absurd (omega (arith, e)); filled = λ e. absurd (omega (arith, e)); none = λ a b c. refl; least = λ e. absurd (omega (arith, e)) })

-- ---- the lines of all paragraphs

slice_paragraph : (wrap : ℕ) (items : List Shown) (advances : List ℤ) (p : Span) → length advances ≤ max_text_bytes → length items ≡ length advances → All IsItemWidth advances
    → IsParagraph (slice_range advances p.first p.last) (places_of (role_of 0 (shown.Char space_char)) (slice_range (roles_of wrap items) p.first p.last))
slice_paragraph wrap items advances p short same narrow =
    let a = p.first in
    let b = p.last in
    let roles = roles_of wrap items in
    let widths = take (b - a) (drop a advances) in
    let parts = take (b - a) (drop a roles) in
    let space = role_of 0 (shown.Char space_char) in
    let long = length-take (b - a) (drop a advances) in
    let rest = length-drop a advances in
    let counted = length-take (b - a) (drop a roles) in
    let left = length-drop a roles in
    let whole = length-map items (λ (shown : Shown). role_of wrap shown.kind) in
    let as_many : 0 + length parts ≡ length widths = omega (arith, long, rest, counted, left, whole, same) in
    paragraph_of widths (places_of space parts) (omega (arith, long, rest, short))
    (All-take IsItemWidth (b - a) (drop a advances) (All-drop IsItemWidth a advances narrow))
    (subst (λ (to : ℕ). ArePlacesInOrder 0 to (places_of space parts)) as_many (places_from-order space 0 0 parts (omega arith)))

module _ (wrap : ℕ) (items : List Shown) (advances : List ℤ) (max : ℤ) (short : length advances ≤ max_text_bytes) (same : length items ≡ length advances)
    (narrow : All IsItemWidth advances) where
  lines_of_exist : (p : Span) → (lines : List Span) × AreLinesOf wrap (roles_of wrap items) advances max p lines
  lines_of_exist p =
      let spaces = places_of (role_of 0 (shown.Char space_char)) (slice_range (roles_of wrap items) p.first p.last) in
      let c = chosen_exists wrap (slice_range advances p.first p.last) spaces max (slice_paragraph wrap items advances p short same narrow) in
      (spans_between p.first p.last (map (λ place. p.first + place) c.0), (c.0, c.1, refl))

  lines_exist : (ps : List Span) → (lines : List Span) × AreLines wrap (roles_of wrap items) advances max ps lines
  lines_exist [] = ([], refl)
  lines_exist (p ∷ ps) =
      let front = lines_of_exist p in
      let rest = lines_exist ps in
      (front.0 ++ rest.0, (front.0, rest.0, front.1, rest.1, refl))

-- ---- how far the items reach

held_width : (x : ℤ) → IsItemWidth (held (pos 0) (pos max_width) x)
held_width x = held_within (pos 0) (pos max_width) x (omega (arith, ints))

char_narrow : (fonts : List FontValue) (metrics : Metrics) (ends : Bool) (c : Option ℕ) → IsItemWidth (option_map_or (char_extent fonts metrics ends) c no_extent).advance
char_narrow fonts metrics ends None = (omega (arith, ints), omega (arith, ints))
char_narrow fonts metrics ends (Some c) = held_width (found_advance fonts metrics (set_glyph_of fonts metrics.font c) +ℤ spacing_behind metrics ends)

kind_narrow : (fonts : List FontValue) (metrics : Metrics) (wrap : ℕ) (ends : Bool) (kind : ShownKind) → IsItemWidth (kind_extent fonts metrics wrap ends kind).advance
kind_narrow fonts metrics wrap ends (shown.Drawing path) = held_width (drawing_extent metrics.drawing path.segs).x
kind_narrow fonts metrics wrap ends (shown.Char c) = char_narrow fonts metrics ends (char_of wrap (shown.Char c))
kind_narrow fonts metrics wrap ends shown.Hard = char_narrow fonts metrics ends (char_of wrap shown.Hard)
kind_narrow fonts metrics wrap ends shown.Soft = char_narrow fonts metrics ends (char_of wrap shown.Soft)

advances_narrow : (fonts : List FontValue) (metrics : List Metrics) (wrap : ℕ) (items : List Shown) → All IsItemWidth (advances_of (item_extents fonts metrics wrap items))
advances_narrow fonts metrics wrap items =
    let pairs = zip items (cluster_ends (chars_of wrap items)) in
    let extent = λ (x : Shown × Bool). extent_of fonts metrics wrap x.0 x.1 in
    All-map IsItemWidth (λ (e : Extent). e.advance) (map extent pairs)
    (All-map (λ (e : Extent). IsItemWidth e.advance) extent pairs
    (λ k d lt. let x = get_or pairs k d in kind_narrow fonts (slice_index_or metrics (x.0).state no_metrics) wrap x.1 (x.0).kind))

advances_many : (fonts : List FontValue) (metrics : List Metrics) (wrap : ℕ) (items : List Shown) → length (advances_of (item_extents fonts metrics wrap items)) ≡ length items
advances_many fonts metrics wrap items =
    let flags : length (cluster_ends (chars_of wrap items)) ≡ length items = length-ends_behind [] (chars_of wrap items) ∙ length-map items _ in
    length-map (item_extents fonts metrics wrap items) _
    ∙ (length-map (zip items (cluster_ends (chars_of wrap items))) _ ∙ omega (arith, length-zip items (cluster_ends (chars_of wrap items)), flags))

-- What isn't too long has a layout.
pub laid_exists : (script : ScriptValue) (fonts : List FontValue) (event : Event) (view : EventView) (frame : FrameView) → length view.items ≤ max_text_bytes
    → (laid : Laid) × IsLaid script fonts event view frame laid
laid_exists script fonts event view frame short =
    let scales = line_scales script.header frame view in
    let metrics = all_metrics scales fonts view in
    let items = item_extents fonts metrics view.wrap view.items in
    let roles = roles_of view.wrap view.items in
    let max = wrapping_width (margins_of script event) scales in
    let many = advances_many fonts metrics view.wrap view.items in
    let lines = lines_exist view.wrap view.items (advances_of items) max (omega (arith, many, short)) (sym many) (advances_narrow fonts metrics view.wrap view.items) (paragraphs_of roles) in
    (laid_out view metrics items lines.0, (lines.0, lines.1, refl))

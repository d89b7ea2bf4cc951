-- An event that is moved by a shift has one list of draws at an instant.
use Rattle.std.proofs.Common.{◌≡◌, ◌∙◌, sym, ap, subst, ℕ, ◌+◌, ◌-◌, ◌<◌, ◌≤◌, ℤ, pos, ◌+ℤ◌, List, [], ◌∷◌, length, Option, arith}
use Rattle.std.specs.List.{All, range_with_len, zip}
use Rattle.std.proofs.lemmas.Int.{ints}
use Rattle.std.proofs.lemmas.List.{length-map}
use Rattle.std.proofs.lemmas.List.Elements.{All-append, All-from_get_or, All-map, All-nil}
use Rattle.std.proofs.lemmas.List.FromFn.{get_or-range_with_len, length-range_with_len}
use Rattle.std.proofs.lemmas.Slice.Zip.{length-zip}
use Rattle.frame_view.specs.FrameScales.{scales_of}
use Rattle.frame_view.specs.declared.scales.Scales.{Scales}
use Rattle.frame_view.specs.declared.view.FrameView.{FrameView}
use Rattle.override_tags.specs.declared.tag.ClipTag.{ClipTag}
use Rattle.ass_events.specs.declared.event.Event.{Event}
use Rattle.ass_script.specs.Ranges.{IsScript}
use Rattle.ass_script.specs.Scripts.{ScriptValue}
use Rattle.bdf_font.specs.Fonts.{FontValue}
use Rattle.mask_keys.specs.declared.plans.Draw.{Draw}
use Rattle.override_tags.specs.declared.item.Item.{Item}
use Rattle.override_tags.specs.declared.view.EventView.{EventView}
use Rattle.override_tags.proofs.OneReadingLemmas.{one_items}
use Rattle.override_tags.proofs.RangeLemmas.{items_held}
use Rattle.tag_state.specs.Looks.{Look}
use Rattle.tag_state.specs.Views.{AreSeen, IsViewBy, IsViewOf, elapsed_at}
use Rattle.tag_state.proofs.RangeLemmas.{IsHeldEffect, past_held, wrap_held}
use Rattle.text_layout.specs.Anchors.{edge_across, margins_of, wrapping_width}
use Rattle.text_layout.specs.Clusters.{cluster_ends}
use Rattle.text_layout.specs.Extents.{item_extents}
use Rattle.text_layout.specs.Kinds.{chars_of, roles_of}
use Rattle.text_layout.specs.Layouts.{IsLaid, IsLaidBy}
use Rattle.text_layout.specs.LineScales.{is_typeset, line_scales}
use Rattle.text_layout.specs.Lines.{advances_of, block_width, line_at, line_extents, lines_from, placed_from, placed_in, placed_item}
use Rattle.text_layout.specs.Metrics.{all_metrics}
use Rattle.text_layout.specs.Spans.{AreSpans, paragraphs_of}
use Rattle.text_layout.specs.declared.extents.Extent.{Extent}
use Rattle.text_layout.specs.declared.laid.Laid.{Laid}
use Rattle.text_layout.specs.declared.laid.Line.{Line}
use Rattle.text_layout.specs.declared.spans.Span.{Span}
use Rattle.text_layout.proofs.ClusterLemmas.{length-ends_behind}
use Rattle.text_layout.proofs.OneLemmas.{one_laid}
use Rattle.event_places.proofs.OneStand.{laid_alike, one_looks, same_typeset}
use Rattle.event_draws.specs.EventDraws.{event_draws}
use Rattle.event_draws.specs.MovedDraws.{AreMovedDraws}
use Rattle.event_draws.specs.Stages.{stage_at}
use Rattle.event_draws.specs.declared.stage.Stage.{Stage}
use Rattle.event_draws.proofs.LineSpans.{lines-spans, paragraphs-spans}
use Rattle.picture_laws.proofs.Items.{ShowAlike}
use Rattle.picture_laws.proofs.Rows.{same_draws}
use Rattle.picture_laws.proofs.Runs.{IsItem}

-- ---- items of a layout

items_on : (items : ℕ) (ws : List ℤ) (number : ℕ) (line : Line) → line.last ≤ items → All (IsItem items) (placed_in ws number line)
items_on items ws number line most =
    All-map (IsItem items) (placed_item ws number line) (range_with_len line.first (line.last - line.first))
    (All-from_get_or (λ k. k < items) (range_with_len line.first (line.last - line.first)) 0
    (λ i h.
    let n : i < line.last - line.first = omega (arith, h, length-range_with_len line.first (line.last - line.first)) in
    let e = get_or-range_with_len line.first (line.last - line.first) i 0 n in
    omega (arith, e, n, most)))

items_from : (items align : ℕ) (ws : List ℤ) (number from : ℕ) (across top : ℤ) (spans : List Span) (extents : List Extent) → AreSpans from (items + 1) spans
    → All (IsItem items) (placed_from ws number (lines_from (edge_across align) across top spans extents))
items_from items align ws number from across top [] extents h = All-nil (IsItem items)
items_from items align ws number from across top (s ∷ spans) [] h = All-nil (IsItem items)
items_from items align ws number from across top (s ∷ spans) (e ∷ extents) h =
    let line = line_at (edge_across align) across s e top in
    All-append (IsItem items) (placed_in ws number line) _ (items_on items ws number line (omega (arith, h.2)))
    (items_from items align ws (number + 1) (s.last + 1) across (top +ℤ (e.ascent +ℤ e.descent)) spans extents h.3)

-- Each item of a layout is one of those that are shown.
pub items_laid : (script : ScriptValue) (fonts : List FontValue) (event : Event) (view : EventView) (frame : FrameView) (laid : Laid) → view.wrap ≤ 3
    → IsLaid script fonts event view frame laid → All (IsItem (length view.items)) laid.placed
items_laid script fonts event view frame laid style is =
    let scales = line_scales script.header frame view in
    let metrics = all_metrics scales fonts view in
    let items = item_extents fonts metrics view.wrap view.items in
    let roles = roles_of view.wrap view.items in
    let max = wrapping_width (margins_of script event) scales in
    let extents = line_extents metrics view.items items is.0 in
    let flags : length (cluster_ends (chars_of view.wrap view.items)) ≡ length view.items = length-ends_behind [] (chars_of view.wrap view.items) ∙ length-map view.items _ in
    let same : length (advances_of items) ≡ length view.items =
    length-map items _ ∙ length-map (zip view.items (cluster_ends (chars_of view.wrap view.items))) _ ∙ omega (arith, length-zip view.items (cluster_ends (chars_of view.wrap view.items)), flags) in
    let spans = lines-spans view.wrap view.items (advances_of items) max 0 (length view.items + 1) (paragraphs_of roles) is.0 style same (omega arith) (paragraphs-spans view.wrap view.items) is.1 in
    subst (λ (z : Laid). All (IsItem (length view.items)) z.placed) (sym is.2)
    (items_from (length view.items) view.align (advances_of items) 0 0 (block_width extents) (pos 0) is.0 extents spans)

-- ---- stages

same_stage : (script : ScriptValue) (event : Event) (t : ℤ) (frame : FrameView) (v w : EventView) (laid : Laid) (shift : ℤ) → v.align ≡ w.align → v.pos ≡ w.pos → v.org ≡ w.org → v.clip ≡ w.clip → v.fade ≡ w.fade
    → stage_at script event t frame v laid shift ≡ stage_at script event t frame w laid shift
same_stage script event t frame v w laid shift align place origin clip fade =
    let S = λ (z : EventView). stage_at script event t frame z laid shift in
    ap (λ (z : ℕ). S (record w { align = z; pos = v.pos; org = v.org; clip = v.clip; fade = v.fade })) align
    ∙ (ap (λ (z : Option (ℤ × ℤ)). S (record w { pos = z; org = v.org; clip = v.clip; fade = v.fade })) place
    ∙ (ap (λ (z : Option (ℤ × ℤ)). S (record w { org = z; clip = v.clip; fade = v.fade })) origin
    ∙ (ap (λ (z : Option ClipTag). S (record w { clip = z; fade = v.fade })) clip
    ∙ ap (λ (z : ℕ). S (record w { fade = z })) fade)))

-- ---- draws

same_natural : (m n : ℕ) → pos m ≡ pos n → m ≡ n
same_natural m n e = omega (arith, ints, e)

module _ (script : ScriptValue) (fonts : List FontValue) (frame : FrameView) (sound : IsScript script) (event : Event) (t : ℤ) where
  held_wrap : (view : EventView) → IsViewOf script event t view → view.wrap ≤ 3
  held_wrap view h =
      let effects = past_held event.duration (elapsed_at event t) [] h.items (All-nil IsHeldEffect) (items_held h.reading) in
      subst (λ (z : ℕ). z ≤ 3) (sym h.shown.wrap) (wrap_held script.header.wrap _ sound.header.wrap effects)

  pub one_moved : (shift : ℤ) (a b : List Draw) → AreMovedDraws script fonts event t frame shift a → AreMovedDraws script fonts event t frame shift b → a ≡ b
  one_moved shift a b h k =
      let v = h.view in
      let w = k.view in
      let elapsed = elapsed_at event t in
      let items : h.shows.items ≡ k.shows.items = one_items h.shows.reading k.shows.items k.shows.reading in
      let mine = h.shows.shown in
      let other : IsViewBy script event elapsed h.shows.items w = subst (λ (z : List Item). IsViewBy script event elapsed z w) (sym items) k.shows.shown in
      let looks : mine.looks ≡ other.looks = one_looks event.text event.duration elapsed mine.shows other.looks other.shows in
      let also : AreSeen script event.style w.names w.states w.items mine.looks = subst (λ (z : List Look). AreSeen script event.style w.names w.states w.items z) (sym looks) other.seen in
      let align : v.align ≡ w.align = mine.align ∙ sym other.align in
      let wrap : v.wrap ≡ w.wrap = mine.wrap ∙ sym other.wrap in
      let clip : v.clip ≡ w.clip = mine.clip ∙ sym other.clip in
      let typeset : is_typeset v ≡ is_typeset w = same_typeset v w (mine.position ∙ sym other.position) (mine.origin ∙ sym other.origin) clip in
      let scales = line_scales script.header frame v in
      let laid_out : IsLaidBy script fonts event w scales k.laid =
      subst (λ (z : Scales). IsLaidBy script fonts event w z k.laid) (ap (scales_of script.header frame) (sym typeset)) k.laid_out in
      let laid = laid_alike script event.style fonts scales v w mine.looks _ mine.seen also mine.last other.last event k.laid align wrap laid_out in
      let style = held_wrap v h.shows in
      let same : h.laid ≡ k.laid = one_laid script fonts event v frame h.laid k.laid style h.laid_out laid in
      let fade : v.fade ≡ w.fade = same_natural v.fade w.fade (mine.fade ∙ sym other.fade) in
      let stage = same_stage script event t frame v w k.laid shift align (mine.position ∙ sym other.position) (mine.origin ∙ sym other.origin) clip fade in
      let alike : ShowAlike script event.style v w = record {
        looks = mine.looks;
        seen = mine.seen;
        seen_too = also;
        once = h.shows.once;
        once_too = k.shows.once;
        colours = h.colours;
        colours_too = k.colours;
        wrap = wrap;
      } in
      let draws = same_draws script event.style v w alike (stage_at script event t frame w k.laid shift) fonts k.laid (items_laid script fonts event v frame k.laid style laid) clip in
      h.value
      ∙ (ap (λ (z : Laid). event_draws (stage_at script event t frame v z shift) fonts v z) same
      ∙ (ap (λ (z : Stage). event_draws z fonts v k.laid) stage
      ∙ (draws ∙ sym k.value)))

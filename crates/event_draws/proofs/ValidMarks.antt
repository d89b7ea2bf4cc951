-- The outlines of marks are valid keys.
use Rattle.std.proofs.Common.{◌≡◌, sym, subst, ℕ, ◌+◌, ◌*◌, ◌<◌, Bool, true, false, cond, Option, Some, None, List, [], ◌∷◌, length, get_or, slice_get, slice_index, slice_index_or, option_and_then, ℤ, pos, ◌*ℤ◌, arith}
use Rattle.std.specs.List.{All}
use Rattle.std.specs.Option.{IfSome, option_map, option_map_or}
use Rattle.std.proofs.lemmas.Int.{ints}
use Rattle.std.proofs.lemmas.List.{get_or-map, length-map}
use Rattle.std.proofs.lemmas.List.Elements.{All-weaker}
use Rattle.ass_num.specs.Floor.{floor_div}
use Rattle.ass_num.specs.Paths.{IsPath}
use Rattle.ass_num.specs.declared.geometry.Path.{Path}
use Rattle.ass_num.specs.declared.geometry.Point.{Point}
use Rattle.ass_num.specs.declared.geometry.Seg.{Seg}
use Rattle.frame_view.specs.FrameScales.{magnified}
use Rattle.frame_view.specs.declared.scales.Scales.{Scales}
use Rattle.ass_num.proofs.Floor.{held_within}
use Rattle.bdf_font.specs.Fonts.{FontValue}
use Rattle.bdf_font.specs.Sets.{IsGlyphPlaceIn, no_font, set_glyph_of}
use Rattle.bdf_font.specs.declared.sets.GlyphPlace.{GlyphPlace}
use Rattle.bdf_font.proofs.SetLemmas.{chosen_within, set_glyph_within}
use Rattle.mask_keys.specs.Keys.{IsValidOutline}
use Rattle.mask_keys.specs.declared.outline_key.OutlineKey.{OutlineKey}
use Rattle.mask_keys.specs.declared.outline_key.OutlineKey.TheVariants.{Glyph}
use Rattle.mask_keys.specs.Outlines.{glyph_counts}
use Rattle.outline_points.specs.Limits.{max_scale}
use Rattle.outline_points.specs.Placing.{IsMatrix, IsScale}
use Rattle.override_tags.specs.Views.{IsShownItem, IsShownKind, IsState, IsView}
use Rattle.override_tags.specs.declared.view.EventView.{EventView}
use Rattle.override_tags.specs.declared.view.ShownKind.{ShownKind}
use Rattle.override_tags.specs.declared.view.ShownKind.TheVariants as shown
use Rattle.override_tags.specs.declared.view.State.{State}
use Rattle.text_layout.specs.Fonts.{font_of_state, needs_bold_step}
use Rattle.text_layout.specs.Kinds.{char_of}
use Rattle.text_layout.specs.Scales.{clip_matrix, drawing_matrix, drawing_scale, em_height, fine_parts, held_scale, level_parts, text_matrix, text_scale, whole_milli, whole_per_cent}
use Rattle.text_layout.specs.declared.laid.Line.{Line}
use Rattle.text_layout.specs.declared.laid.Placed.{Placed}
use Rattle.event_draws.specs.Items.{IsBlockItem, no_shown, no_state, shown_of, state_of}
use Rattle.event_draws.specs.Marks.{char_mark, char_outline, drawing_mark, glyph_outline, is_marked, mark_by, mark_of, marks_of, pen_on}
use Rattle.event_draws.specs.declared.marks.Mark.{Mark}
use Rattle.event_draws.specs.declared.stage.Stage.{Stage}
use Rattle.event_draws.proofs.ListAlls.{all-filter_map}
use Rattle.event_draws.proofs.ShiftBounds.{shift_within}

abbrev pub IsValidMark : List FontValue → Mark → Type 0
IsValidMark fonts mark = IsValidOutline (glyph_counts fonts) mark.outline

-- ---- matrices

scale_held : (z : ℤ) → IsScale (held_scale z)
scale_held z =
    let h = held_within (pos 0) (pos max_scale) z (omega (arith, ints)) in
    record { least = h.0; most = h.1 }

text_held : (size scale : ℤ) (side res em : ℕ) → IsScale (text_scale size scale side res em)
text_held size scale side res em = scale_held (floor_div ((size *ℤ scale) *ℤ pos (fine_parts side)) (pos (whole_milli * whole_per_cent * res * em)))

drawing_held : (scale : ℤ) (level side res : ℕ) → IsScale (drawing_scale scale level side res)
drawing_held scale level side res = scale_held (floor_div (scale *ℤ pos (fine_parts side)) (pos (whole_per_cent * res * level_parts level)))

text_is_matrix : (scales : Scales) (font : FontValue) (state : State) → IsMatrix (text_matrix scales font state)
text_is_matrix scales font state =
    let size = magnified scales.letter_scale state.size in
    record {
      ux = text_held size state.scale_x scales.letters.x.pixels scales.letters.x.units (em_height font);
      uy = text_held size state.scale_y scales.letters.y.pixels scales.letters.y.units (em_height font);
    }

drawing_is_matrix : (scales : Scales) (state : State) → IsMatrix (drawing_matrix scales state)
drawing_is_matrix scales state = record {
  ux = drawing_held (magnified scales.letter_scale state.scale_x) state.draw scales.canvas.x.pixels scales.canvas.x.units;
  uy = drawing_held (magnified scales.letter_scale state.scale_y) state.draw scales.canvas.y.pixels scales.canvas.y.units;
}

pub clip_is_matrix : (scales : Scales) (level : ℕ) → IsMatrix (clip_matrix scales level)
clip_is_matrix scales level = record {
  ux = drawing_held (pos whole_per_cent) level scales.canvas.x.pixels scales.canvas.x.units;
  uy = drawing_held (pos whole_per_cent) level scales.canvas.y.pixels scales.canvas.y.units;
}

-- ---- marks of characters

marked_valid : (glyphs : List ℕ) (b : Bool) (key : OutlineKey) → IsValidOutline glyphs key → IfSome (cond b (Some key) None) (IsValidOutline glyphs)
marked_valid glyphs true key h = h
marked_valid glyphs false key h = tt

-- a glyph that is there in a font that is there
glyph_valid : (stage : Stage) (fonts : List FontValue) (state : State) (place : GlyphPlace) → IsGlyphPlaceIn fonts place
    → IfSome (glyph_outline stage fonts state place) (IsValidOutline (glyph_counts fonts))
glyph_valid stage fonts state place there =
    let font = slice_index_or fonts place.font no_font in
    let n : length (glyph_counts fonts) ≡ length fonts = length-map fonts (λ (f : FontValue). length f.glyphs) in
    let e : slice_index (glyph_counts fonts) place.font ≡ length font.glyphs = get_or-map (λ (f : FontValue). length f.glyphs) fonts place.font no_font 0 there.0 in
    marked_valid (glyph_counts fonts) (option_map_or (is_marked state) (slice_get font.glyphs place.glyph) false)
    (Glyph place.font place.glyph (text_matrix stage.scales font state) (needs_bold_step font state) state.underline state.strikeout)
    (record {
      in_fonts = subst (λ (k : ℕ). place.font < k) (sym n) there.0;
      in_font = subst (λ (k : ℕ). place.glyph < k) (sym e) there.1;
      matrix = text_is_matrix stage.scales font state;
    })

found_valid : (stage : Stage) (fonts : List FontValue) (state : State) (o : Option GlyphPlace) → IfSome o (IsGlyphPlaceIn fonts)
    → IfSome (option_and_then (glyph_outline stage fonts state) o) (IsValidOutline (glyph_counts fonts))
found_valid stage fonts state None h = tt
found_valid stage fonts state (Some place) h = glyph_valid stage fonts state place h

outline_valid : (stage : Stage) (fonts : List FontValue) (names : List (List ℕ)) (state : State) (c : ℕ) → 0 < length fonts
    → IfSome (char_outline stage fonts names state c) (IsValidOutline (glyph_counts fonts))
outline_valid stage fonts names state c some =
    let number = font_of_state fonts names state in
    let within : number < length fonts = chosen_within (slice_index_or names state.font []) state.bold state.italic fonts some in
    found_valid stage fonts state (set_glyph_of fonts number c) (set_glyph_within fonts number c within)

mark_with : (fonts : List FontValue) (pen : Point) (o : Option OutlineKey) → IfSome o (IsValidOutline (glyph_counts fonts))
    → IfSome (option_map (λ (key : OutlineKey). let mark : Mark = record { outline = key; pen = pen } in mark) o) (IsValidMark fonts)
mark_with fonts pen None h = tt
mark_with fonts pen (Some key) h = h

chars_valid : (stage : Stage) (fonts : List FontValue) (names : List (List ℕ)) (state : State) (pen : Point) (o : Option ℕ) → 0 < length fonts
    → IfSome (option_and_then (char_mark stage fonts names state pen) o) (IsValidMark fonts)
chars_valid stage fonts names state pen None some = tt
chars_valid stage fonts names state pen (Some c) some = mark_with fonts pen (char_outline stage fonts names state c) (outline_valid stage fonts names state c some)

-- ---- marks of drawings and of all items

drawing_valid : (stage : Stage) (fonts : List FontValue) (names : ℕ) (state : State) (pen : Point) (path : Path) (segs : List Seg) → IsPath path.segs → IsState names state
    → IfSome (drawing_mark stage state pen path segs) (IsValidMark fonts)
drawing_valid stage fonts names state pen path [] h held = tt
drawing_valid stage fonts names state pen path (s ∷ segs) h held =
    let m = drawing_is_matrix stage.scales state in
    record { segments = h; matrix = m; shifted = shift_within state (drawing_matrix stage.scales state).uy held.offset m.uy }

by_valid : (stage : Stage) (fonts : List FontValue) (view : EventView) (state : State) (pen : Point) (kind : ShownKind) → 0 < length fonts → IsState (length view.names) state
    → IsShownKind kind → IfSome (mark_by stage fonts view state pen kind) (IsValidMark fonts)
by_valid stage fonts view state pen (shown.Drawing path) some held h = drawing_valid stage fonts (length view.names) state pen path path.segs h held
by_valid stage fonts view state pen (shown.Char c) some held h = chars_valid stage fonts view.names state pen (char_of view.wrap (shown.Char c)) some
by_valid stage fonts view state pen shown.Hard some held h = chars_valid stage fonts view.names state pen (char_of view.wrap shown.Hard) some
by_valid stage fonts view state pen shown.Soft some held h = chars_valid stage fonts view.names state pen (char_of view.wrap shown.Soft) some

mark_valid : (stage : Stage) (fonts : List FontValue) (view : EventView) (line : Line) (placed : Placed) → 0 < length fonts → IsView view
    → IsBlockItem (length view.items) placed → IfSome (mark_of stage fonts view line placed) (IsValidMark fonts)
mark_valid stage fonts view line placed some h within =
    let item : IsShownItem (length view.states) (shown_of view placed) = h.items placed.item no_shown within.item in
    let state : IsState (length view.names) (state_of view placed) = h.states (shown_of view placed).state no_state item.state in
    by_valid stage fonts view (state_of view placed) (pen_on stage line placed) (shown_of view placed).kind some state item.kind

pub marks_valid : (stage : Stage) (fonts : List FontValue) (view : EventView) (line : Line) (items : List Placed) → 0 < length fonts → IsView view
    → All (IsBlockItem (length view.items)) items → All (IsValidMark fonts) (marks_of stage fonts view line items)
marks_valid stage fonts view line items some h within =
    all-filter_map (mark_of stage fonts view line) (IsValidMark fonts) items
    (All-weaker (IsBlockItem (length view.items)) (λ placed. IfSome (mark_of stage fonts view line placed) (IsValidMark fonts))
    (λ placed k. mark_valid stage fonts view line placed some h k) items within)

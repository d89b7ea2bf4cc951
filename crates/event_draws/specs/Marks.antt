-- Public: what the items of a line leave on the frame: their outlines, and the pens at which these stand before they are turned.
use Rattle.std.specs.Prelude.{ℕ, ◌||◌, Bool, false, not, if◌then◌else◌, List, [], Option, Some, None, option_and_then, slice_get, slice_index_or, ℤ, pos, ◌+ℤ◌, ◌-ℤ◌, ◌*ℤ◌}
use Rattle.std.specs.List.{filter_map}
use Rattle.std.specs.Option.{option_map, option_map_or}
use Rattle.ass_num.specs.Floor.{floor_div}
use Rattle.ass_num.specs.Limits.{IsPointWithin}
use Rattle.ass_num.specs.declared.geometry.Path.{Path}
use Rattle.ass_num.specs.declared.geometry.Point.{Point}
use Rattle.ass_num.specs.declared.geometry.Seg.{Seg}
use Rattle.bdf_font.specs.Fonts.{FontValue}
use Rattle.bdf_font.specs.Sets.{no_font, set_glyph_of}
use Rattle.bdf_font.specs.declared.sets.GlyphPlace.{GlyphPlace}
use Rattle.bdf_font.specs.declared.glyphs.FontGlyph.{FontGlyph}
use Rattle.mask_keys.specs.declared.outline_key.OutlineKey.{OutlineKey}
use Rattle.mask_keys.specs.declared.outline_key.OutlineKey.TheVariants.{Glyph, Drawing}
use Rattle.outline_points.specs.Drawings.{path_unit}
use Rattle.override_tags.specs.declared.view.EventView.{EventView}
use Rattle.override_tags.specs.declared.view.ShownKind.{ShownKind}
use Rattle.override_tags.specs.declared.view.ShownKind.TheVariants as shown
use Rattle.override_tags.specs.declared.view.State.{State}
use Rattle.text_layout.specs.Extents.{drawn_extent}
use Rattle.text_layout.specs.Fonts.{font_of_state, needs_bold_step}
use Rattle.text_layout.specs.Kinds.{char_of}
use Rattle.text_layout.specs.Scales.{drawing_matrix, text_matrix}
use Rattle.text_layout.specs.declared.laid.Line.{Line}
use Rattle.text_layout.specs.declared.laid.Placed.{Placed}
use Rattle.event_draws.specs.Items.{shown_of, state_of}
use Rattle.event_draws.specs.Limits.{max_block_pen}
use Rattle.event_draws.specs.declared.marks.Mark.{Mark}
use Rattle.event_draws.specs.declared.stage.Stage.{Stage}

-- A glyph leaves something where it isn't blank, or where the state draws bars.
abbrev pub is_marked : State → FontGlyph → Bool
is_marked state glyph = (state.underline || state.strikeout) || not glyph.blank

-- The outline of a glyph of a set of fonts, with the scale of its own font; it is slanted, and bold, where that font isn't so itself.
abbrev pub glyph_outline : Stage → List FontValue → State → GlyphPlace → Option OutlineKey
glyph_outline stage fonts state place =
    let font = slice_index_or fonts place.font no_font in
    if option_map_or (is_marked state) (slice_get font.glyphs place.glyph) false
    then Some (Glyph place.font place.glyph (text_matrix stage.scales font state) (needs_bold_step font state) state.underline state.strikeout)
    else None

-- the outline of a character in a font, or in another one that has it; none without a glyph
abbrev pub font_outline : Stage → List FontValue → State → ℕ → ℕ → Option OutlineKey
font_outline stage fonts state number c = option_and_then (glyph_outline stage fonts state) (set_glyph_of fonts number c)

-- the outline of a character in the font of its state
abbrev pub char_outline : Stage → List FontValue → List (List ℕ) → State → ℕ → Option OutlineKey
char_outline stage fonts names state c = font_outline stage fonts state (font_of_state fonts names state) c

-- where the pen of a character of a line stands
abbrev pub pen_on : Stage → Line → Placed → Point
pen_on stage line placed = record { x = stage.corner.x +ℤ placed.x; y = stage.corner.y +ℤ line.baseline }

abbrev pub point_above : Point → ℤ → Point
point_above p height = record { x = p.x; y = p.y -ℤ height }

-- how far down a drawing of a state is moved under a matrix
abbrev pub drawing_shift : State → ℤ → ℤ
drawing_shift state uy = floor_div (state.offset *ℤ uy) (pos path_unit)

-- the mark of a drawing: its lower edge stands on the baseline; none without vertices
abbrev pub drawing_mark : Stage → State → Point → Path → List Seg → Option Mark
drawing_mark stage state pen path [] = None
drawing_mark stage state pen path segs =
    let m = drawing_matrix stage.scales state in
    Some (record { outline = Drawing path m (drawing_shift state m.uy); pen = point_above pen (drawn_extent m segs).ascent })

-- the mark of a character, if it leaves any
abbrev pub char_mark : Stage → List FontValue → List (List ℕ) → State → Point → ℕ → Option Mark
char_mark stage fonts names state pen c = option_map (λ (key : OutlineKey). record { outline = key; pen = pen }) (char_outline stage fonts names state c)

-- the mark of what is shown at a pen
abbrev pub mark_by : Stage → List FontValue → EventView → State → Point → ShownKind → Option Mark
mark_by stage fonts view state pen (shown.Drawing path) = drawing_mark stage state pen path path.segs
mark_by stage fonts view state pen kind = option_and_then (char_mark stage fonts view.names state pen) (char_of view.wrap kind)

-- the mark of an item of a line
abbrev pub mark_of : Stage → List FontValue → EventView → Line → Placed → Option Mark
mark_of stage fonts view line placed = mark_by stage fonts view (state_of view placed) (pen_on stage line placed) (shown_of view placed).kind

-- the marks of some items of a line, in order
abbrev pub marks_of : Stage → List FontValue → EventView → Line → List Placed → List Mark
marks_of stage fonts view line items = filter_map (mark_of stage fonts view line) items

-- ---- ranges

-- a mark whose pen lies where it may
abbrev pub IsMark : Mark → Type 0
IsMark mark = IsPointWithin max_block_pen mark.pen

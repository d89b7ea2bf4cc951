-- Public: layouts and marks in a set of bitmaps alone. A state has the first font of its name, whether bold or not and italic or not. Its
-- letters slant where it is italic, and are drawn a step wider where it is bold; and a character has the glyph of that font alone.
use Rattle.std.specs.Prelude.{◌≡◌, ℕ, ◌<◌, Bool, false, if◌then◌else◌, List, [], length, Option, Some, None, option_and_then, slice_get, slice_index_or, ℤ, pos, ◌+ℤ◌}
use Rattle.std.specs.Option.{option_map_or}
use Rattle.ass_num.specs.declared.geometry.Matrix.{Matrix}
use Rattle.bdf_font.specs.Fonts.{FontValue, glyph_of}
use Rattle.bdf_font.specs.Sets.{AreBitmapFonts, font_named, no_font}
use Rattle.frame_view.specs.declared.scales.Scales.{Scales}
use Rattle.mask_keys.specs.declared.outline_key.OutlineKey.{OutlineKey}
use Rattle.mask_keys.specs.declared.outline_key.OutlineKey.TheVariants.{Glyph}
use Rattle.override_tags.specs.declared.view.State.{State}
use Rattle.text_layout.specs.Extents.{char_extent, glyph_advance, spacing_behind}
use Rattle.text_layout.specs.Metrics.{HasFont, held_extent, metrics_of, scaled_pixels, state_metrics}
use Rattle.text_layout.specs.Scales.{text_matrix, turn_of}
use Rattle.text_layout.specs.declared.extents.Extent.{Extent}
use Rattle.text_layout.specs.declared.metrics.Metrics.{Metrics}
use Rattle.event_draws.specs.Marks.{char_outline, is_marked}
use Rattle.event_draws.specs.declared.stage.Stage.{Stage}

-- the place of the first font with the name of a state
abbrev pub font_of_name : List FontValue → List (List ℕ) → State → ℕ
font_of_name fonts names state = font_named (slice_index_or names state.font []) fonts

-- the metrics of a state in that font
abbrev pub named_metrics : Scales → List FontValue → List (List ℕ) → State → Metrics
named_metrics scales fonts names state =
    let number = font_of_name fonts names state in
    metrics_of scales number (slice_index_or fonts number no_font) state

-- the extent of a character by the glyph of one font
abbrev pub own_extent : Metrics → FontValue → Bool → ℕ → Extent
own_extent metrics font ends_cluster c = record {
  advance = held_extent (scaled_pixels (option_map_or (glyph_advance font.glyphs) (glyph_of font c) (pos 0)) metrics.ux +ℤ spacing_behind metrics ends_cluster);
  ascent = metrics.ascent;
  descent = metrics.descent;
}

-- the matrix of characters, which slant where the state is italic
abbrev pub slanting_matrix : Scales → FontValue → State → Matrix
slanting_matrix scales font state = record {
  ux = (text_matrix scales font state).ux;
  uy = (text_matrix scales font state).uy;
  italic = state.italic;
  turn = turn_of state.angle;
}

-- the outline of the glyph at a place of one font
abbrev pub own_glyph_outline : Stage → State → ℕ → FontValue → ℕ → Option OutlineKey
own_glyph_outline stage state number font place =
    if option_map_or (is_marked state) (slice_get font.glyphs place) false
    then Some (Glyph number place (slanting_matrix stage.scales font state) state.bold state.underline state.strikeout)
    else None

-- the outline of a character in the first font with the name of its state
abbrev pub named_outline : Stage → List FontValue → List (List ℕ) → State → ℕ → Option OutlineKey
named_outline stage fonts names state c =
    let number = font_of_name fonts names state in
    let font = slice_index_or fonts number no_font in
    option_and_then (own_glyph_outline stage state number font) (glyph_of font c)

-- In these fonts all metrics, extents and outlines are those.
pub record AreDrawnAsNamed (fonts : List FontValue) : Type 0 where
  pub metrics : (scales : Scales) (names : List (List ℕ)) (state : State) → state_metrics scales fonts names state ≡ named_metrics scales fonts names state
  pub extents : (metrics : Metrics) (ends_cluster : Bool) (c : ℕ) → HasFont fonts metrics
      → char_extent fonts metrics ends_cluster c ≡ own_extent metrics (slice_index_or fonts metrics.font no_font) ends_cluster c
  pub outlines : (stage : Stage) (names : List (List ℕ)) (state : State) (c : ℕ) → char_outline stage fonts names state c ≡ named_outline stage fonts names state c

abbrev pub BitmapsAreDrawnAsNamed : Type 0
BitmapsAreDrawnAsNamed = (fonts : List FontValue) → 0 < length fonts → AreBitmapFonts fonts → AreDrawnAsNamed fonts

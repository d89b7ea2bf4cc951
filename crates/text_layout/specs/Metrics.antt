-- Public: what the items of a state have in common: its font and that one's heights, its spacing and its scales, in 1/64 pixel.
-- (Aegisub tag reference, "\fs", "\fsp".)
use Rattle.std.specs.Prelude.{◌≡◌, ℕ, ◌*◌, ◌<◌, ◌≤◌, false, List, length, map, slice_index_or, ℤ, pos, ◌*ℤ◌}
use Rattle.ass_num.specs.Floor.{floor_div, held}
use Rattle.ass_num.specs.Limits.{one_16, IsHeldLength, IsWithin}
use Rattle.ass_num.specs.declared.geometry.Matrix.{Matrix}
use Rattle.bdf_font.specs.Fonts.{FontValue}
use Rattle.bdf_font.specs.Sets.{no_font}
use Rattle.frame_view.specs.FrameScales.{IsLetterRatio, magnified}
use Rattle.frame_view.specs.declared.scales.Ratio.{Ratio}
use Rattle.frame_view.specs.declared.scales.Scales.{Scales}
use Rattle.line_layout.specs.Breaks.{max_width, IsItemWidth}
use Rattle.outline_points.specs.Placing.{IsMatrix, IsScale}
use Rattle.override_tags.specs.declared.view.EventView.{EventView}
use Rattle.override_tags.specs.declared.view.State.{State}
use Rattle.text_layout.specs.declared.metrics.Metrics.{Metrics}
use Rattle.text_layout.specs.declared.metrics.TextSize.{TextSize}
use Rattle.text_layout.specs.Fonts.{font_of_state}
use Rattle.text_layout.specs.Limits.{max_framed}
use Rattle.text_layout.specs.Scales.{drawing_matrix, em_height, pixel, text_matrix, text_scale, whole_milli, whole_per_cent}

-- the nearest advance, ascent or descent that an item may have
abbrev pub held_extent : ℤ → ℤ
held_extent z = held (pos 0) (pos max_width) z

-- so many units of a font, scaled; those of a bitmap font are its pixels
abbrev pub scaled_pixels : ℤ → ℤ → ℤ
scaled_pixels pixels scale = floor_div (pixels *ℤ scale) (pos one_16)

-- the spacing behind a cluster (Aegisub tag reference, "\fsp")
abbrev pub spacing_of : ℤ → ℤ → ℕ → ℕ → ℤ
spacing_of spacing scale side res = floor_div ((spacing *ℤ scale) *ℤ pos (pixel * side)) (pos (whole_milli * whole_per_cent * res))

-- how large the letters of a state are across the frame, whatever their font
abbrev pub text_size : Scales → State → TextSize
text_size scales state = record { height = magnified scales.letter_scale state.size; scale_x = state.scale_x; across = scales.letters.x }

-- the horizontal scale of a font's letters
abbrev pub scale_across : TextSize → FontValue → ℤ
scale_across size font = text_scale size.height size.scale_x size.across.pixels size.across.units (em_height font)

-- What the items of a state have in common; its font is this one.
abbrev pub metrics_of : Scales → ℕ → FontValue → State → Metrics
metrics_of scales number font state =
    let m = text_matrix scales font state in
    record {
      font = number;
      size = text_size scales state;
      ux = m.ux;
      ascent = held_extent (scaled_pixels font.ascent m.uy);
      descent = held_extent (scaled_pixels font.descent m.uy);
      spacing = spacing_of (magnified scales.letter_scale state.spacing) state.scale_x scales.canvas.x.pixels scales.canvas.x.units;
      drawing = drawing_matrix scales state;
    }

-- the metrics of a state in the font of its name, bold and italic
abbrev pub state_metrics : Scales → List FontValue → List (List ℕ) → State → Metrics
state_metrics scales fonts names state =
    let number = font_of_state fonts names state in
    metrics_of scales number (slice_index_or fonts number no_font) state

-- the metrics of each state of a view
abbrev pub all_metrics : Scales → List FontValue → EventView → List Metrics
all_metrics scales fonts view = map (state_metrics scales fonts view.names) view.states

abbrev pub no_matrix : Matrix
no_matrix = record { ux = pos 0; uy = pos 0; italic = false; turn = pos 0 }

abbrev pub no_ratio : Ratio
no_ratio = record { pixels = 0; units = 0 }

abbrev pub no_text_size : TextSize
no_text_size = record { height = pos 0; scale_x = pos 0; across = no_ratio }

abbrev pub no_metrics : Metrics
no_metrics = record { font = 0; size = no_text_size; ux = pos 0; ascent = pos 0; descent = pos 0; spacing = pos 0; drawing = no_matrix }

-- ---- ranges

-- The font of the metrics is one of these, and its letters have their horizontal scale.
pub record HasFont (fonts : List FontValue) (metrics : Metrics) : Type 0 where
  pub font : metrics.font < length fonts
  pub scale : metrics.ux ≡ scale_across metrics.size (slice_index_or fonts metrics.font no_font)

pub record IsTextSize (size : TextSize) : Type 0 where
  pub height : IsHeldLength size.height
  pub scale_x : IsHeldLength size.scale_x
  pub across : IsLetterRatio size.across

-- the metrics of a state
pub record IsMetrics (metrics : Metrics) : Type 0 where
  pub size : IsTextSize metrics.size
  pub scale : IsScale metrics.ux
  pub ascent : IsItemWidth metrics.ascent
  pub descent : IsItemWidth metrics.descent
  pub spacing : IsWithin max_framed metrics.spacing
  pub drawing : IsMatrix metrics.drawing

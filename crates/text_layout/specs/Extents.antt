-- Public: how far each item of a view advances the pen, and how far it reaches above and below the baseline, in 1/64 pixel.
use Rattle.std.specs.Prelude.{ℕ, Bool, if◌then◌else◌, Option, Some, None, List, map, slice_index_or, slice_get, ℤ, pos, ◌+ℤ◌}
use Rattle.std.specs.List.{zip}
use Rattle.std.specs.Option.{option_map_or}
use Rattle.ass_num.specs.declared.geometry.Matrix.{Matrix}
use Rattle.ass_num.specs.declared.geometry.Seg.{Seg}
use Rattle.bdf_font.specs.Fonts.{FontValue}
use Rattle.bdf_font.specs.Sets.{no_font, set_glyph_of}
use Rattle.bdf_font.specs.declared.sets.GlyphPlace.{GlyphPlace}
use Rattle.bdf_font.specs.declared.glyphs.FontGlyph.{FontGlyph}
use Rattle.line_layout.specs.Breaks.{IsItemWidth}
use Rattle.outline_points.specs.Drawings.{drawing_extent}
use Rattle.override_tags.specs.declared.view.Shown.{Shown}
use Rattle.override_tags.specs.declared.view.ShownKind.{ShownKind}
use Rattle.override_tags.specs.declared.view.ShownKind.TheVariants as shown
use Rattle.text_layout.specs.declared.extents.Extent.{Extent}
use Rattle.text_layout.specs.declared.metrics.Metrics.{Metrics}
use Rattle.text_layout.specs.Clusters.{cluster_ends}
use Rattle.text_layout.specs.Kinds.{char_of, chars_of}
use Rattle.text_layout.specs.Metrics.{held_extent, no_metrics, scale_across, scaled_pixels}

-- the advance of the glyph at a place, in the units of its font
abbrev pub glyph_advance : List FontGlyph → ℕ → ℤ
glyph_advance glyphs place = option_map_or (λ (glyph : FontGlyph). glyph.advance) (slice_get glyphs place) (pos 0)

-- The advance of a glyph of a set of fonts at the scale that its own font has; 0 without one.
abbrev pub found_advance : List FontValue → Metrics → Option GlyphPlace → ℤ
found_advance fonts metrics None = pos 0
found_advance fonts metrics (Some place) =
    let font = slice_index_or fonts place.font no_font in
    scaled_pixels (glyph_advance font.glyphs place.glyph) (scale_across metrics.size font)

-- what is put behind a character: spacing stands behind the last one of a cluster
abbrev pub spacing_behind : Metrics → Bool → ℤ
spacing_behind metrics ends_cluster = if ends_cluster then metrics.spacing else pos 0

-- How far a character advances the pen. Its glyph is of the state's font, or of another one that has the character.
abbrev pub char_advance : List FontValue → Metrics → Bool → ℕ → ℤ
char_advance fonts metrics ends_cluster c =
    held_extent (found_advance fonts metrics (set_glyph_of fonts metrics.font c) +ℤ spacing_behind metrics ends_cluster)

-- the extent of a character, whose heights are those of the state's font
abbrev pub char_extent : List FontValue → Metrics → Bool → ℕ → Extent
char_extent fonts metrics ends_cluster c = record {
  advance = char_advance fonts metrics ends_cluster c;
  ascent = metrics.ascent;
  descent = metrics.descent;
}

-- the extent of a drawing: its largest x and y, before it is shifted and turned
abbrev pub drawn_extent : Matrix → List Seg → Extent
drawn_extent m segs =
    let largest = drawing_extent m segs in
    record { advance = held_extent largest.x; ascent = held_extent largest.y; descent = pos 0 }

-- the extent of a hard break, which is in no line
abbrev pub no_extent : Extent
no_extent = record { advance = pos 0; ascent = pos 0; descent = pos 0 }

-- the extent of a drawing, a character or a hard break
abbrev pub kind_extent : List FontValue → Metrics → ℕ → Bool → ShownKind → Extent
kind_extent fonts metrics wrap ends_cluster (shown.Drawing path) = drawn_extent metrics.drawing path.segs
kind_extent fonts metrics wrap ends_cluster kind =
    option_map_or (char_extent fonts metrics ends_cluster) (char_of wrap kind) no_extent

-- the extent of an item, in its state
abbrev pub extent_of : List FontValue → List Metrics → ℕ → Shown → Bool → Extent
extent_of fonts metrics wrap shown ends_cluster = kind_extent fonts (slice_index_or metrics shown.state no_metrics) wrap ends_cluster shown.kind

-- the extents of all items
abbrev pub item_extents : List FontValue → List Metrics → ℕ → List Shown → List Extent
item_extents fonts metrics wrap items = map (λ x. extent_of fonts metrics wrap x.0 x.1) (zip items (cluster_ends (chars_of wrap items)))

-- ---- ranges

-- how far an item may reach
pub record IsItemExtent (extent : Extent) : Type 0 where
  pub advance : IsItemWidth extent.advance
  pub ascent : IsItemWidth extent.ascent
  pub descent : IsItemWidth extent.descent

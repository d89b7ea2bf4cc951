-- Public: the layout of what an event shows.
use Rattle.std.specs.Prelude.{◌≡◌, ℕ, ◌+◌, ◌<◌, ◌≤◌, List, length, pos, All}
use Rattle.ass_script.specs.Scripts.{ScriptValue}
use Rattle.ass_events.specs.declared.event.Event.{Event}
use Rattle.bdf_font.specs.Fonts.{FontValue}
use Rattle.frame_view.specs.declared.scales.Scales.{Scales}
use Rattle.frame_view.specs.declared.view.FrameView.{FrameView}
use Rattle.override_tags.specs.declared.view.EventView.{EventView}
use Rattle.text_layout.specs.declared.extents.Extent.{Extent}
use Rattle.text_layout.specs.declared.laid.Laid.{Laid}
use Rattle.text_layout.specs.declared.metrics.Metrics.{Metrics}
use Rattle.text_layout.specs.declared.spans.Span.{Span}
use Rattle.text_layout.specs.Anchors.{IsBlockSide, edge_across, margins_of, wrapping_width}
use Rattle.text_layout.specs.Extents.{item_extents}
use Rattle.text_layout.specs.Metrics.{all_metrics}
use Rattle.text_layout.specs.Kinds.{roles_of}
use Rattle.text_layout.specs.LineScales.{line_scales}
use Rattle.text_layout.specs.Lines.{IsLineWithin, IsPlacedWithin, advances_of, block_height, block_width, line_extents, lines_from, placed_from}
use Rattle.text_layout.specs.Spans.{AreLines, paragraphs_of}

-- the spans as lines in a block
abbrev pub laid_out : EventView → List Metrics → List Extent → List Span → Laid
laid_out view metrics items spans =
    let extents = line_extents metrics view.items items spans in
    let width = block_width extents in
    let lines = lines_from (edge_across view.align) width (pos 0) spans extents in
    record { lines = lines; placed = placed_from (advances_of items) 0 lines; width = width; height = block_height extents }

-- The text of an event is laid out: its paragraphs are broken by the wrap style at the width that the margins leave, and the lines stand
-- in a block. (The lines are of one kind only, since there is one best way to break a paragraph.)
abbrev pub IsLaidBy : ScriptValue → List FontValue → Event → EventView → Scales → Laid → Type 0
IsLaidBy script fonts event view scales laid =
    let metrics = all_metrics scales fonts view in
    let items = item_extents fonts metrics view.wrap view.items in
    let roles = roles_of view.wrap view.items in
    let max = wrapping_width (margins_of script event) scales in
    (spans : List Span) × AreLines view.wrap roles (advances_of items) max (paragraphs_of roles) spans × (laid ≡ laid_out view metrics items spans)

-- by the scales of its lines in a frame
abbrev pub IsLaid : ScriptValue → List FontValue → Event → EventView → FrameView → Laid → Type 0
IsLaid script fonts event view frame laid = IsLaidBy script fonts event view (line_scales script.header frame view) laid

-- ---- ranges

-- The layout of so many items: it has a line at least, and no line or item lies outside the block.
pub record IsWithinBlock (items : ℕ) (laid : Laid) : Type 0 where
  pub width : IsBlockSide laid.width
  pub height : IsBlockSide laid.height
  pub some_line : 0 < length laid.lines
  pub few_lines : length laid.lines ≤ items + 1
  pub lines : All (IsLineWithin items laid.width laid.height) laid.lines
  pub few_placed : length laid.placed ≤ items
  pub placed : All (IsPlacedWithin items (length laid.lines) laid.width) laid.placed

-- Public: lines with their places in the block, and their items. Lengths are in 1/64 pixel.
use Rattle.std.specs.Prelude.{ℕ, ◌+◌, ◌-◌, ◌<◌, ◌≤◌, ◌==◌, if◌then◌else◌, List, [], ◌∷◌, ◌++◌, length, map, fold, slice_get, slice_index_or, slice_range, ℤ, pos, ◌+ℤ◌, ◌-ℤ◌, ◌≤ℤ◌}
use Rattle.std.specs.Int.{int_max}
use Rattle.std.specs.List.{range_with_len}
use Rattle.std.specs.Option.{option_map_or}
use Rattle.line_layout.specs.Breaks.{IsItemWidth, width}
use Rattle.override_tags.specs.declared.view.Shown.{Shown}
use Rattle.text_layout.specs.declared.anchors.AnchorSide.{AnchorSide}
use Rattle.text_layout.specs.declared.extents.Extent.{Extent}
use Rattle.text_layout.specs.declared.laid.Line.{Line}
use Rattle.text_layout.specs.declared.laid.Placed.{Placed}
use Rattle.text_layout.specs.declared.metrics.Metrics.{Metrics}
use Rattle.text_layout.specs.declared.spans.Span.{Span}
use Rattle.text_layout.specs.Anchors.{edge_within}
use Rattle.text_layout.specs.Metrics.{no_metrics}
use Rattle.text_layout.specs.Limits.{max_line}

-- the advance of each item
abbrev pub advances_of : List Extent → List ℤ
advances_of extents = map (λ (extent : Extent). extent.advance) extents

abbrev pub ascents_of : List Extent → List ℤ
ascents_of extents = map (λ (extent : Extent). extent.ascent) extents

abbrev pub descents_of : List Extent → List ℤ
descents_of extents = map (λ (extent : Extent). extent.descent) extents

-- how high each line is
abbrev pub heights_of : List Extent → List ℤ
heights_of extents = map (λ (extent : Extent). extent.ascent +ℤ extent.descent) extents

abbrev pub length_sum : List ℤ → ℤ
length_sum lengths = fold ◌+ℤ◌ (pos 0) lengths

-- the greatest of lengths that aren't below 0; 0 of none
abbrev pub greatest : List ℤ → ℤ
greatest lengths = fold int_max (pos 0) lengths

-- the extent of items side by side
abbrev pub joined_extent : List Extent → Extent
joined_extent extents = record { advance = length_sum (advances_of extents); ascent = greatest (ascents_of extents); descent = greatest (descents_of extents) }

-- the state at a place: that of its item, or at the end the last of so many states, which is the one after the whole text
abbrev pub state_at : ℕ → List Shown → ℕ → ℕ
state_at states items place = option_map_or (λ (shown : Shown). shown.state) (slice_get items place) (states - 1)

-- the extent of a line without items, which ends at the place
abbrev pub blank_extent : List Metrics → List Shown → ℕ → Extent
blank_extent metrics items place =
    let m = slice_index_or metrics (state_at (length metrics) items place) no_metrics in
    record { advance = pos 0; ascent = m.ascent; descent = m.descent }

-- the extent of a line: its advance is its width
abbrev pub line_extent : List Metrics → List Shown → List Extent → Span → Extent
line_extent metrics items extents span =
    if span.first == span.last then blank_extent metrics items span.last else joined_extent (slice_range extents span.first span.last)

abbrev pub line_extents : List Metrics → List Shown → List Extent → List Span → List Extent
line_extents metrics items extents spans = map (line_extent metrics items extents) spans

-- the width of a block is that of its widest line
abbrev pub block_width : List Extent → ℤ
block_width lines = greatest (advances_of lines)

-- its lines follow one another from the top
abbrev pub block_height : List Extent → ℤ
block_height lines = length_sum (heights_of lines)

-- a line of this extent whose top is here, in a block of this width
abbrev pub line_at : AnchorSide → ℤ → Span → Extent → ℤ → Line
line_at column width span extent top = record {
  first = span.first;
  last = span.last;
  top = top;
  baseline = top +ℤ extent.ascent;
  left = edge_within column (width -ℤ extent.advance);
  width = extent.advance;
  height = extent.ascent +ℤ extent.descent;
}

-- the lines, one below the other
abbrev pub lines_from : AnchorSide → ℤ → ℤ → List Span → List Extent → List Line
lines_from column width top [] extents = []
lines_from column width top (span ∷ spans) [] = []
lines_from column width top (span ∷ spans) (extent ∷ extents) =
    line_at column width span extent top ∷ lines_from column width (top +ℤ (extent.ascent +ℤ extent.descent)) spans extents

-- an item of a line: the pen has gone from the left of the line as far as the items before it advance it
abbrev pub placed_item : List ℤ → ℕ → Line → ℕ → Placed
placed_item advances number line item = record {
  item = item;
  line = number;
  x = line.left +ℤ width advances line.first item;
  advance = slice_index_or advances item (pos 0);
}

abbrev pub placed_in : List ℤ → ℕ → Line → List Placed
placed_in advances number line = map (placed_item advances number line) (range_with_len line.first (line.last - line.first))

-- the items of lines, of which the first has this number
abbrev pub placed_from : List ℤ → ℕ → List Line → List Placed
placed_from advances number [] = []
placed_from advances number (line ∷ lines) = placed_in advances number line ++ placed_from advances (number + 1) lines

-- ---- ranges

-- how far a line may reach
pub record IsLineExtent (extent : Extent) : Type 0 where
  pub from_zero : pos 0 ≤ℤ extent.advance
  pub advance : extent.advance ≤ℤ pos max_line
  pub ascent : IsItemWidth extent.ascent
  pub descent : IsItemWidth extent.descent

-- A line of so many items lies within a block of this width and height, and its baseline within the line.
pub record IsLineWithin (items : ℕ) (width height : ℤ) (line : Line) : Type 0 where
  pub ordered : line.first ≤ line.last
  pub within : line.last ≤ items
  pub left : pos 0 ≤ℤ line.left
  pub wide : pos 0 ≤ℤ line.width
  pub right : (line.left +ℤ line.width) ≤ℤ width
  pub top : pos 0 ≤ℤ line.top
  pub above : line.top ≤ℤ line.baseline
  pub below : line.baseline ≤ℤ (line.top +ℤ line.height)
  pub bottom : (line.top +ℤ line.height) ≤ℤ height

-- An item of one of so many lines lies within a block of this width.
pub record IsPlacedWithin (items lines : ℕ) (width : ℤ) (placed : Placed) : Type 0 where
  pub item : placed.item < items
  pub line : placed.line < lines
  pub left : pos 0 ≤ℤ placed.x
  pub wide : pos 0 ≤ℤ placed.advance
  pub right : (placed.x +ℤ placed.advance) ≤ℤ width

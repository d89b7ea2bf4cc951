-- Public: the draws of an event: shadows, then borders and boxes, then fills, each in the order of the text.
-- (Advanced SubStation Alpha, "BorderStyle"; Aegisub tag reference, "\kf", "\ko".)
use Rattle.std.specs.Prelude.{◌≡◌, ℕ, ◌-◌, ◌≤◌, ◌==◌, Bool, false, if◌then◌else◌, List, [], ◌∷◌, ◌++◌, length, filter, flat_map, take, drop, All, Option, Some, None, slice_get, ℤ, pos, ◌+ℤ◌}
use Rattle.std.specs.List.{filter_map}
use Rattle.std.specs.Option.{option_map_or}
use Rattle.bdf_font.specs.Fonts.{FontValue}
use Rattle.draw_numbers.specs.Colours.{fill_paint, is_swept}
use Rattle.draw_numbers.specs.declared.colours.Paint.{Paint}
use Rattle.mask_keys.specs.declared.plans.Clip.{Clip}
use Rattle.mask_keys.specs.declared.plans.Draw.{Draw}
use Rattle.override_tags.specs.declared.view.EventView.{EventView}
use Rattle.override_tags.specs.declared.view.State.{State}
use Rattle.override_tags.specs.declared.view.Syllable.{Syllable}
use Rattle.text_layout.specs.declared.laid.Laid.{Laid}
use Rattle.text_layout.specs.declared.laid.Line.{Line}
use Rattle.text_layout.specs.declared.laid.Placed.{Placed}
use Rattle.event_draws.specs.Clips.{clip_by}
use Rattle.event_draws.specs.Draws.{IsBlockLine, IsDrawnRun, IsDrawnState, box_border, box_shadow, run_border, run_fill, run_shadow}
use Rattle.event_draws.specs.Items.{IsBlockItem, items_of, state_of}
use Rattle.event_draws.specs.Marks.{marks_of}
use Rattle.event_draws.specs.Runs.{runs_of}
use Rattle.event_draws.specs.declared.runs.Row.{Row}
use Rattle.event_draws.specs.declared.runs.Run.{Run}
use Rattle.event_draws.specs.declared.stage.Stage.{Stage}

-- ---- sweeps

abbrev pub same_syllable : Option Syllable → Option Syllable → Bool
same_syllable (Some a) (Some b) = a.index == b.index
same_syllable _ _ = false

abbrev pub is_sung_with : EventView → State → Placed → Bool
is_sung_with view state placed = same_syllable state.sung (state_of view placed).sung

-- the items of a line that belong to the syllable of a state
abbrev pub sung_with : EventView → State → List Placed → List Placed
sung_with view state items = filter (is_sung_with view state) items

-- where the items stand in the frame
abbrev pub left_of : Stage → Placed → ℤ
left_of stage placed = stage.corner.x +ℤ placed.x

abbrev pub right_of : Stage → Placed → ℤ
right_of stage placed = left_of stage placed +ℤ placed.advance

-- the left end of the first of some items
abbrev pub left_end : Stage → List Placed → ℤ
left_end stage items = option_map_or (left_of stage) (slice_get items 0) (pos 0)

-- the right end of the last of them
abbrev pub right_end : Stage → List Placed → ℤ
right_end stage items = option_map_or (right_of stage) (slice_get items (length items - 1)) (pos 0)

-- The syllable, if there is one, is swept so many milliseconds after the event's start.
abbrev pub is_swept_now : ℤ → Option Syllable → Bool
is_swept_now elapsed None = false
is_swept_now elapsed (Some syllable) = is_swept elapsed syllable

-- what a run of a line of these items is filled with
abbrev pub paint_of : Stage → EventView → List Placed → State → Paint
paint_of stage view items state =
    fill_paint stage.fade stage.elapsed state (left_end stage (sung_with view state items)) (right_end stage (sung_with view state items))

-- ---- lines and their runs

-- a run of a line of these items
abbrev pub run_of : Stage → List FontValue → EventView → Line → List Placed → List Placed → Option Run
run_of stage fonts view line items [] = None
run_of stage fonts view line items (item ∷ run) =
    let state = state_of view item in
    Some (record { state = state; paint = paint_of stage view items state; marks = marks_of stage fonts view line (item ∷ run) })

abbrev pub runs_made : Stage → List FontValue → EventView → Line → List Placed → List (List Placed) → List Run
runs_made stage fonts view line items runs = filter_map (run_of stage fonts view line items) runs

abbrev pub line_runs : Stage → List FontValue → EventView → Line → List Placed → List Run
line_runs stage fonts view line items = runs_made stage fonts view line items (runs_of view items)

-- a line of these items with its runs, if it has any
abbrev pub row_by : Stage → List FontValue → EventView → Line → List Placed → Option Row
row_by stage fonts view line [] = None
row_by stage fonts view line (item ∷ items) =
    Some (record { line = line; state = state_of view item; runs = line_runs stage fonts view line (item ∷ items) })

abbrev pub row_on : Stage → List FontValue → EventView → Laid → Line → Option Row
row_on stage fonts view laid line = row_by stage fonts view line (items_of laid line)

-- those of some lines that have items
abbrev pub rows_made : Stage → List FontValue → EventView → Laid → List Line → List Row
rows_made stage fonts view laid lines = filter_map (row_on stage fonts view laid) lines

abbrev pub draw_rows : Stage → List FontValue → EventView → Laid → List Row
draw_rows stage fonts view laid = rows_made stage fonts view laid laid.lines

-- ---- the draws of lines

-- A line whose first item has the border style of a box has a box in place of borders.
abbrev pub boxed_style : ℕ
boxed_style = 3

abbrev pub is_boxed : Row → Bool
is_boxed row = row.state.border_style == boxed_style

abbrev pub row_shadows : Stage → Clip → Row → List Draw
row_shadows stage clip row = if is_boxed row then box_shadow stage clip row.line row.state else flat_map (run_shadow stage clip false) row.runs

abbrev pub row_borders : Stage → Clip → Row → List Draw
row_borders stage clip row = if is_boxed row then box_border stage clip row.line row.state else flat_map (run_border stage clip false) row.runs

abbrev pub row_fills : Stage → Clip → Row → List Draw
row_fills stage clip row = flat_map (run_fill stage clip (is_boxed row)) row.runs

-- the draws of lines
abbrev pub draws_of_rows : Stage → Clip → List Row → List Draw
draws_of_rows stage clip rows = flat_map (row_shadows stage clip) rows ++ flat_map (row_borders stage clip) rows ++ flat_map (row_fills stage clip) rows

-- The draws of an event that is laid out and stands there.
abbrev pub event_draws : Stage → List FontValue → EventView → Laid → List Draw
event_draws stage fonts view laid = draws_of_rows stage (clip_by stage.scales view.clip) (draw_rows stage fonts view laid)

-- ---- ranges

pub record IsDrawnRow (row : Row) : Type 0 where
  pub line : IsBlockLine row.line
  pub state : IsDrawnState row.state
  pub runs : All IsDrawnRun row.runs

-- The items of lines follow one another: first those of the first line, then those of the others.
abbrev pub FollowLines : Laid → List Line → List Placed → Type 0
FollowLines laid [] placed = Unit {0}
FollowLines laid (line ∷ lines) placed =
    (line.first ≤ line.last) × (line.last - line.first ≤ length placed) × (items_of laid line ≡ take (line.last - line.first) placed)
    × FollowLines laid lines (drop (line.last - line.first) placed)

-- A layout of so many items whose items follow one another line by line.
pub record IsDrawnLayout (items : ℕ) (laid : Laid) : Type 0 where
  pub lines : All IsBlockLine laid.lines
  pub placed : All (IsBlockItem items) laid.placed
  pub in_turn : FollowLines laid laid.lines laid.placed

-- Public: an event whose places are moved by whole pixels of the frame.
-- (Aegisub tag reference, "\pos", "\org", "\kf".)
use Rattle.std.specs.Prelude.{◌≡◌, ◌*◌, List, All, IfSome, Option, Some, slice_get, true, if◌then◌else◌, ℤ, pos, ◌+ℤ◌, ◌*ℤ◌, ◌≤ℤ◌, ◌<ℤ◌, int_lt}
use Rattle.std.specs.List.{AllZip}
use Rattle.std.specs.Option.{option_map}
use Rattle.ass_events.specs.declared.event.Event.{Event}
use Rattle.ass_num.specs.Limits.{IsFrameSize}
use Rattle.ass_num.specs.declared.colour.Rgba.{Rgba}
use Rattle.ass_num.specs.declared.geometry.Point.{Point}
use Rattle.ass_num.specs.declared.size.Size.{Size}
use Rattle.ass_script.specs.Scripts.{ScriptValue}
use Rattle.bdf_font.specs.Fonts.{FontValue}
use Rattle.draw_numbers.specs.Pens.{is_near_frame, spot_at}
use Rattle.draw_numbers.specs.Widths.{no_offsets, offsets_of}
use Rattle.draw_numbers.specs.declared.widths.Offsets.{Offsets}
use Rattle.event_draws.specs.Draws.{box_mark}
use Rattle.event_draws.specs.EventDraws.{event_draws}
use Rattle.event_draws.specs.Items.{items_of, state_of}
use Rattle.event_draws.specs.Marks.{mark_of}
use Rattle.event_draws.specs.Runs.{runs_of}
use Rattle.event_draws.specs.Stages.{stage_at}
use Rattle.event_draws.specs.declared.stage.Stage.{Stage}
use Rattle.frame_view.specs.FrameScales.{IsScales}
use Rattle.frame_view.specs.declared.scales.Scales.{Scales}
use Rattle.frame_view.specs.declared.view.FrameView.{FrameView}
use Rattle.mask_keys.specs.declared.plans.Draw.{Draw}
use Rattle.override_tags.specs.declared.view.EventView.{EventView}
use Rattle.override_tags.specs.declared.view.State.{State}
use Rattle.text_layout.specs.Layouts.{IsLaid}
use Rattle.text_layout.specs.LineScales.{line_scales}
use Rattle.text_layout.specs.Scales.{whole_milli}
use Rattle.text_layout.specs.declared.laid.Laid.{Laid}
use Rattle.text_layout.specs.declared.laid.Line.{Line}
use Rattle.text_layout.specs.declared.laid.Placed.{Placed}

-- ---- draws

-- the colour that a draw has in a column of the frame
abbrev pub column_colour : Draw → ℤ → Rgba
column_colour draw column = if int_lt column draw.edge then draw.left else draw.right

-- The frame has such a column.
pub record IsColumn (size : Size) (column : ℤ) : Type 0 where
  pub first : pos 0 ≤ℤ column
  pub last : column <ℤ pos size.w

-- The second draw is the first one, so many columns to the right and so many rows down: it has the same masks, colours and clip, and a sweep
-- has come as much farther.
pub record IsMovedDraw (size : Size) (columns rows : ℤ) (draw moved : Draw) : Type 0 where
  pub key : moved.key ≡ draw.key
  pub x : moved.x ≡ draw.x +ℤ columns
  pub y : moved.y ≡ draw.y +ℤ rows
  pub left : moved.left ≡ draw.left
  pub right : moved.right ≡ draw.right
  pub sweep : (column : ℤ) → IsColumn size column → IsColumn size (column +ℤ columns) → column_colour moved (column +ℤ columns) ≡ column_colour draw column
  pub clip : moved.clip ≡ draw.clip

-- ---- places

-- a place of the script, so far from another one
abbrev pub place_farther : ℤ × ℤ → ℤ × ℤ → ℤ × ℤ
place_farther by place = (place.0 +ℤ by.0, place.1 +ℤ by.1)

-- what an event shows, at this place of `\pos` and about this one of `\org`, if there is one
abbrev pub view_at : EventView → ℤ × ℤ → Option (ℤ × ℤ) → EventView
view_at view place origin = record view { pos = Some place; org = origin }

-- So far across and down the script, in thousandths of its pixels, are so many columns and rows of the frame, and no part of one.
pub record IsWholeMove (scales : Scales) (by : ℤ × ℤ) (columns rows : ℤ) : Type 0 where
  pub across : by.0 *ℤ pos scales.canvas.x.pixels ≡ columns *ℤ pos (whole_milli * scales.canvas.x.units)
  pub down : by.1 *ℤ pos scales.canvas.y.pixels ≡ rows *ℤ pos (whole_milli * scales.canvas.y.units)

-- ---- what stands near the frame

-- A mask whose pen is there stands so near the frame that it may reach it, when it is turned as the state is and moved by the offsets.
abbrev pub IsPenNear : Stage → State → Offsets → Point → Type 0
IsPenNear stage state offsets pen = is_near_frame stage.size (spot_at stage.origin state.angle pen offsets) ≡ true

-- So does the mask itself, and that of its shadow.
pub record AreMasksNear (stage : Stage) (state : State) (pen : Point) : Type 0 where
  pub own : IsPenNear stage state no_offsets pen
  pub shadow : IsPenNear stage state (offsets_of stage.scales state) pen

-- All that a run leaves, in the state of its first item.
abbrev pub IsRunNear : Stage → List FontValue → EventView → Line → List Placed → Type 0
IsRunNear stage fonts view line run =
    IfSome (slice_get run 0) (λ (first : Placed). All (λ (item : Placed). IfSome (mark_of stage fonts view line item) (λ mark. AreMasksNear stage (state_of view first) mark.pen)) run)

-- All that a line of these items leaves, and its box.
pub record IsLineNear (stage : Stage) (fonts : List FontValue) (view : EventView) (line : Line) (items : List Placed) : Type 0 where
  pub runs : All (IsRunNear stage fonts view line) (runs_of view items)
  pub box : IfSome (slice_get items 0) (λ (first : Placed). AreMasksNear stage (state_of view first) (box_mark stage line (state_of view first)).pen)

-- All that an event leaves: no mask of it is left out for being far from the frame.
abbrev pub IsNearFrame : Stage → List FontValue → EventView → Laid → Type 0
IsNearFrame stage fonts view laid = All (λ (line : Line). IsLineNear stage fonts view line (items_of laid line)) laid.lines

-- ---- the law

-- Where the places of an event are moved by whole pixels of the frame it has the same layout, and each of its draws is moved by as many,
-- whatever shift it has; nothing else changes, unless something of it is too far from the frame before or after.
pub record AreMovedAlike (script : ScriptValue) (fonts : List FontValue) (event : Event) (t : ℤ) (frame : FrameView) (old new : EventView) (columns rows : ℤ) : Type 0 where
  pub layouts : (laid : Laid) → IsLaid script fonts event old frame laid → IsLaid script fonts event new frame laid
  pub draws : (laid : Laid) (shift : ℤ)
      → IsNearFrame (stage_at script event t frame old laid shift) fonts old laid
      → IsNearFrame (stage_at script event t frame new laid shift) fonts new laid
      → AllZip (IsMovedDraw frame.size columns rows) (event_draws (stage_at script event t frame old laid shift) fonts old laid)
      (event_draws (stage_at script event t frame new laid shift) fonts new laid)

abbrev pub WholePixelsMoveDraws : Type 0
WholePixelsMoveDraws =
    (script : ScriptValue) (fonts : List FontValue) (event : Event) (t : ℤ) (frame : FrameView) (view : EventView) (place by : ℤ × ℤ) (origin : Option (ℤ × ℤ))
    (columns rows : ℤ)
    → IsFrameSize frame.size
    → IsScales (line_scales script.header frame (view_at view place origin))
    → IsWholeMove (line_scales script.header frame (view_at view place origin)) by columns rows
    → AreMovedAlike script fonts event t frame (view_at view place origin) (view_at view (place_farther by place) (option_map (place_farther by) origin)) columns rows

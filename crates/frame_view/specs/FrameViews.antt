-- Public: what a frame is to a script: where the video's picture stands in it, and what is known of the video.
-- (Advanced SubStation Alpha, "PlayResX", "ScaledBorderAndShadow".)
use Rattle.std.specs.Prelude.{ℕ, ◌*◌, ◌/◌, ◌≤◌, ◌&&◌, nat_le, not, Bool, false, true, if◌then◌else◌, Option, Some, None, IfSome, is_some, pos, unwrap_or}
use Rattle.ass_num.specs.Limits.{IsFrameSize, IsWithin, max_frame_side}
use Rattle.ass_num.specs.declared.size.Size.{Size}
use Rattle.frame_view.specs.Limits.{max_aspect_parts, max_layout_side, max_letter_scale, whole_letter_scale}
use Rattle.frame_view.specs.declared.view.FrameView.{FrameView}
use Rattle.frame_view.specs.declared.view.LetterWidth.{LetterWidth}
use Rattle.frame_view.specs.declared.view.LetterWidth.TheVariants.{Canvas, Aspect}
use Rattle.frame_view.specs.declared.view.PixelAspect.{PixelAspect}
use Rattle.frame_view.specs.declared.view.PixelRect.{PixelRect}

-- the view of a size alone: the picture fills the frame, and nothing is known of the video
abbrev pub plain_frame : Size → FrameView
plain_frame size = record {
  size = size;
  content = None;
  storage = None;
  aspect = None;
  letters = Canvas;
  scale = whole_letter_scale;
  bars = false;
}

-- the width of letters goes by the canvas
abbrev pub is_by_canvas : LetterWidth → Bool
is_by_canvas Canvas = true
is_by_canvas Aspect = false

-- Nothing but a size is known, and all of a script is stretched to it.
abbrev pub is_size_alone : FrameView → Bool
is_size_alone frame = is_by_canvas frame.letters && (not (is_some frame.content) && (not (is_some frame.storage) && not (is_some frame.aspect)))

-- the whole of a frame
abbrev pub whole_rect : Size → PixelRect
whole_rect size = record { left = pos 0; top = pos 0; w = size.w; h = size.h }

abbrev pub rect_size : PixelRect → Size
rect_size rect = record { w = rect.w; h = rect.h }

-- where the video's picture stands in the frame
abbrev pub content_of : FrameView → PixelRect
content_of frame = unwrap_or frame.content (whole_rect frame.size)

-- the shape of a rectangle, grown or shrunk until it touches the frame's sides, or its upper and lower edge
abbrev pub fit_in : Size → PixelRect → Size
fit_in size rect =
    if nat_le (rect.h * size.w) (rect.w * size.h)
    then record { w = size.w; h = (rect.h * size.w) / rect.w }
    else record { w = (rect.w * size.h) / rect.h; h = size.h }

-- the same, of what fills the frame where it isn't said
abbrev pub fit_of : Size → Option PixelRect → Size
fit_of size None = size
fit_of size (Some rect) = fit_in size rect

-- A line may stand in the bars beside the picture: it isn't typeset.
abbrev pub is_in_bars : FrameView → Bool → Bool
is_in_bars frame typeset = frame.bars && not typeset

-- so many columns and rows show the canvas of a line
abbrev pub shown_sides : FrameView → Bool → Size
shown_sides frame typeset = if is_in_bars frame typeset then fit_of frame.size frame.content else rect_size (content_of frame)

-- the rectangle from whose edges the margins of a line count
abbrev pub ground_of : FrameView → Bool → PixelRect
ground_of frame typeset = if is_in_bars frame typeset then whole_rect frame.size else content_of frame

-- ---- ranges

-- where the picture stands: it isn't empty
pub record IsContentRect (rect : PixelRect) : Type 0 where
  pub left : IsWithin max_frame_side rect.left
  pub top : IsWithin max_frame_side rect.top
  pub some_column : 1 ≤ rect.w
  pub some_row : 1 ≤ rect.h
  pub wide : rect.w ≤ max_frame_side
  pub high : rect.h ≤ max_frame_side

-- where lines may count from
pub record IsGroundRect (rect : PixelRect) : Type 0 where
  pub left : IsWithin max_frame_side rect.left
  pub top : IsWithin max_frame_side rect.top
  pub wide : rect.w ≤ max_frame_side
  pub high : rect.h ≤ max_frame_side

-- a side of a video, or of a canvas
abbrev pub IsLayoutSide : ℕ → Type 0
IsLayoutSide n = (1 ≤ n) × (n ≤ max_layout_side)

pub record IsStorage (size : Size) : Type 0 where
  pub wide : IsLayoutSide size.w
  pub high : IsLayoutSide size.h

pub record IsAspect (aspect : PixelAspect) : Type 0 where
  pub some_wide : 1 ≤ aspect.wide
  pub some_high : 1 ≤ aspect.high
  pub wide : aspect.wide ≤ max_aspect_parts
  pub high : aspect.high ≤ max_aspect_parts

-- what a frame may be to a script
pub record IsFrameView (frame : FrameView) : Type 0 where
  pub size : IsFrameSize frame.size
  pub content : IfSome frame.content IsContentRect
  pub storage : IfSome frame.storage IsStorage
  pub aspect : IfSome frame.aspect IsAspect
  pub scale : frame.scale ≤ max_letter_scale

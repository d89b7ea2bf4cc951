-- Public: how many pixels of a frame stand for how many of a script, of each kind of length.
-- (Advanced SubStation Alpha, "PlayResX", "LayoutResX", "ScaledBorderAndShadow".)
use Rattle.std.specs.Prelude.{◌≡◌, ℕ, ◌*◌, ◌+◌, ◌-◌, ◌/◌, ◌≤◌, ◌==◌, max, min, nat_lt, Bool, if◌then◌else◌, Option, Some, None, ℤ, pos, neg_ℤ, ◌*ℤ◌}
use Rattle.ass_num.specs.Floor.{floor_div, held}
use Rattle.ass_num.specs.Limits.{IsWithin, max_frame_side, max_held}
use Rattle.ass_num.specs.declared.size.Size.{Size}
use Rattle.ass_script.specs.declared.script.Header.{Header}
use Rattle.frame_view.specs.FrameViews.{content_of, ground_of, is_by_canvas, is_size_alone, plain_frame, rect_size, shown_sides, whole_rect}
use Rattle.frame_view.specs.Limits.{max_layout_side, max_letter_scale, max_ratio_number, whole_letter_scale}
use Rattle.frame_view.specs.declared.scales.Ratio.{Ratio}
use Rattle.frame_view.specs.declared.scales.Ratios.{Ratios}
use Rattle.frame_view.specs.declared.scales.Scales.{Scales}
use Rattle.frame_view.specs.declared.view.FrameView.{FrameView}
use Rattle.frame_view.specs.declared.view.PixelAspect.{PixelAspect}

-- ---- ratios

-- a pixel of the frame for each of the script
abbrev pub one_to_one : Ratio
one_to_one = record { pixels = 1; units = 1 }

abbrev pub ones_to_ones : Ratios
ones_to_ones = record { x = one_to_one; y = one_to_one }

-- so many columns and rows show so many
abbrev pub ratios_of : Size → Size → Ratios
ratios_of sides shown = record { x = record { pixels = sides.w; units = shown.w }; y = record { pixels = sides.h; units = shown.h } }

-- the canvas of a script
abbrev pub canvas_size : Header → Size
canvas_size header = record { w = header.res_x; h = header.res_y }

-- ---- the size of a video that isn't stretched

-- the side from 1 to the largest one that is nearest to n
abbrev pub held_side : ℕ → ℕ
held_side n = max 1 (min n max_layout_side)

-- a quotient rounded to the nearest side that a video may have
abbrev pub nearest_side : ℕ → ℕ → ℕ
nearest_side parts whole = if whole == 0 then 1 else held_side ((2 * parts + whole) / (2 * whole))

-- The canvas, as wide as pixels of this shape make it where they are wider than high, and as high where they are narrower: a picture of
-- these sides shows it.
abbrev pub canvas_by_aspect : Size → Size → PixelAspect → Size
canvas_by_aspect canvas sides aspect =
    if nat_lt aspect.high aspect.wide
    then record { w = nearest_side ((canvas.h * sides.w) * aspect.high) (sides.h * aspect.wide); h = canvas.h }
    else (if nat_lt aspect.wide aspect.high
    then record { w = canvas.w; h = nearest_side ((canvas.w * sides.h) * aspect.wide) (sides.w * aspect.high) }
    else canvas)

abbrev pub canvas_if_aspect : Size → Size → Option PixelAspect → Size
canvas_if_aspect canvas sides None = canvas
canvas_if_aspect canvas sides (Some aspect) = canvas_by_aspect canvas sides aspect

-- The size for which borders that aren't scaled, and blurs, are said: the video's, or else the canvas by the shape of pixels.
abbrev pub layout_by : Size → Size → Option PixelAspect → Option Size → Size
layout_by canvas sides aspect (Some storage) = storage
layout_by canvas sides aspect None = canvas_if_aspect canvas sides aspect

abbrev pub layout_size : Header → FrameView → Size
layout_size header frame =
    layout_by (canvas_size header) (rect_size (content_of frame)) frame.aspect frame.storage

-- ---- letters

-- across, where the shape of pixels is given: rows of the canvas, by that shape
abbrev pub across_by_aspect : Size → Size → PixelAspect → Ratio
across_by_aspect canvas sides aspect = record { pixels = sides.h * aspect.wide; units = canvas.h * aspect.high }

-- Where the video's own size is known, a pixel of it is as wide as the picture makes it. Else it is a square.
abbrev pub across_by : Size → Size → Option PixelAspect → Option Size → Ratio
across_by canvas sides (Some aspect) storage = across_by_aspect canvas sides aspect
across_by canvas sides None (Some storage) = record { pixels = sides.w * storage.h; units = canvas.h * storage.w }
across_by canvas sides None None = record { pixels = sides.h; units = canvas.h }

abbrev pub letter_ratios : Header → FrameView → Size → Ratios
letter_ratios header frame sides =
    let canvas = ratios_of sides (canvas_size header) in
    if is_by_canvas frame.letters then canvas
    else record { x = across_by (canvas_size header) sides frame.aspect frame.storage; y = canvas.y }

-- ---- scales

-- In a frame of which the size alone is known: all is stretched to it, and borders and blurs that aren't scaled are in its pixels.
abbrev pub plain_scales : Header → Size → ℕ → Scales
plain_scales header size letter_scale =
    let canvas = ratios_of size (canvas_size header) in
    record {
      canvas = canvas;
      letters = canvas;
      borders = if header.scaled then canvas else ones_to_ones;
      blur = if header.scaled then canvas.y else one_to_one;
      ground_rect = whole_rect size;
      spare = 0;
      letter_scale = letter_scale;
    }

-- In any other, of a line that is typeset or not.
abbrev pub seen_scales : Header → FrameView → Bool → ℕ → Scales
seen_scales header frame typeset letter_scale =
    let sides = shown_sides frame typeset in
    let canvas = ratios_of sides (canvas_size header) in
    let layout = ratios_of sides (layout_size header frame) in
    record {
      canvas = canvas;
      letters = letter_ratios header frame sides;
      borders = if header.scaled then canvas else layout;
      blur = layout.y;
      ground_rect = ground_of frame typeset;
      spare = (ground_of frame typeset).w - sides.w;
      letter_scale = letter_scale;
    }

-- how large the letters of a line are, in thousandths of what the script says
abbrev pub letter_scale_of : FrameView → Bool → ℕ
letter_scale_of frame typeset = if typeset then whole_letter_scale else frame.scale

-- the scales of a line
abbrev pub scales_of : Header → FrameView → Bool → Scales
scales_of header frame typeset =
    if is_size_alone frame then plain_scales header frame.size (letter_scale_of frame typeset)
    else seen_scales header frame typeset (letter_scale_of frame typeset)

-- A number of a script at this size of letters: the nearest that a script may have.
abbrev pub magnified : ℕ → ℤ → ℤ
magnified letter_scale z =
    if letter_scale == whole_letter_scale then z
    else held (neg_ℤ (pos max_held)) (pos max_held) (floor_div (z *ℤ pos letter_scale) (pos whole_letter_scale))

-- ---- ranges

-- so many columns or rows of a frame for so many units of a script or a video, of which there is one at least
pub record IsSideRatio (most : ℕ) (ratio : Ratio) : Type 0 where
  pub pixels : ratio.pixels ≤ max_frame_side
  pub some : 1 ≤ ratio.units
  pub units : ratio.units ≤ most

pub record AreSideRatios (most : ℕ) (ratios : Ratios) : Type 0 where
  pub x : IsSideRatio most ratios.x
  pub y : IsSideRatio most ratios.y

-- a ratio of letters
pub record IsLetterRatio (ratio : Ratio) : Type 0 where
  pub pixels : ratio.pixels ≤ max_ratio_number
  pub some : 1 ≤ ratio.units
  pub units : ratio.units ≤ max_ratio_number

pub record IsScales (scales : Scales) : Type 0 where
  pub canvas : AreSideRatios max_layout_side scales.canvas
  pub across : IsLetterRatio scales.letters.x
  pub down : IsLetterRatio scales.letters.y
  pub borders : AreSideRatios max_layout_side scales.borders
  pub blur : IsSideRatio max_layout_side scales.blur
  pub left : IsWithin max_frame_side scales.ground_rect.left
  pub top : IsWithin max_frame_side scales.ground_rect.top
  pub wide : scales.ground_rect.w ≤ max_frame_side
  pub high : scales.ground_rect.h ≤ max_frame_side
  pub spare : scales.spare ≤ max_frame_side
  pub letter_scale : scales.letter_scale ≤ max_letter_scale

-- ---- a law

-- Where a size alone is known, what is typeset and what isn't has the same scales: so many pixels of the frame's sides for so many of
-- the canvas, from the frame's corner on, and no more.
abbrev pub AreScalesOfSize : Type 0
AreScalesOfSize = (header : Header) (size : Size) (typeset : Bool) → scales_of header (plain_frame size) typeset ≡ plain_scales header size whole_letter_scale

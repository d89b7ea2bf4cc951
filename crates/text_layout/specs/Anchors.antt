-- Public: margins, the width for wrapping, and where the block stands in the frame. Places are in 1/64 pixel.
-- (Advanced SubStation Alpha, "MarginL", "Alignment"; Aegisub tag reference, "\an", "\pos".)
use Rattle.std.specs.Prelude.{◌≡◌, ℕ, ◌*◌, ◌%◌, ◌==◌, nat_le, if◌then◌else◌, Option, Some, None, ℤ, pos, ◌+ℤ◌, ◌-ℤ◌, ◌*ℤ◌, ◌≤ℤ◌}
use Rattle.std.specs.Int.{int_max}
use Rattle.std.specs.Ordering.{int_eq}
use Rattle.ass_num.specs.Floor.{floor_div}
use Rattle.ass_num.specs.Limits.{IsWithin, max_whole}
use Rattle.ass_num.specs.declared.geometry.Point.{Point}
use Rattle.ass_num.specs.declared.size.Size.{Size}
use Rattle.ass_script.specs.Scripts.{ScriptValue, style_for}
use Rattle.ass_events.specs.declared.event.Event.{Event}
use Rattle.frame_view.specs.FrameScales.{plain_scales}
use Rattle.frame_view.specs.Limits.{whole_letter_scale}
use Rattle.frame_view.specs.declared.scales.Scales.{Scales}
use Rattle.override_tags.specs.declared.view.EventView.{EventView}
use Rattle.text_layout.specs.declared.anchors.AnchorSide.{AnchorSide}
use Rattle.text_layout.specs.declared.anchors.AnchorSide.TheVariants.{Near, Middle, Far}
use Rattle.text_layout.specs.declared.anchors.Margins.{Margins}
use Rattle.text_layout.specs.Limits.{max_block}
use Rattle.text_layout.specs.Scales.{framed, pixel, whole_milli}

-- a margin of the event, or where it is 0 that of its style
abbrev pub event_margin_or : ℤ → ℤ → ℤ
event_margin_or event style = if int_eq event (pos 0) then style else event

abbrev pub margins_of : ScriptValue → Event → Margins
margins_of script event =
    let style = style_for event.style script in
    record {
      left = event_margin_or event.margin_l style.margin_l;
      right = event_margin_or event.margin_r style.margin_r;
      vertical = event_margin_or event.margin_v style.margin_v;
    }

-- so many script pixels as a length
abbrev pub whole_pixels : ℤ → ℤ
whole_pixels n = pos whole_milli *ℤ n

-- a length of the script across the frame, and down it
abbrev pub across : Scales → ℤ → ℤ
across scales len = framed len scales.canvas.x.pixels scales.canvas.x.units

abbrev pub down : Scales → ℤ → ℤ
down scales len = framed len scales.canvas.y.pixels scales.canvas.y.units

-- the width that lines are wrapped at: what the margins leave of the canvas and of the columns that it doesn't fill, or nothing
abbrev pub wrapping_width : Margins → Scales → ℤ
wrapping_width margins scales =
    int_max (across scales (whole_pixels ((pos scales.canvas.x.units -ℤ margins.left) -ℤ margins.right)) +ℤ pos (pixel * scales.spare)) (pos 0)

-- where an alignment puts the block across the frame: 1, 4 and 7 at the left, 2, 5 and 8 in the middle, 3, 6 and 9 at the right
abbrev pub edge_across : ℕ → AnchorSide
edge_across align = if align % 3 == 1 then Near else (if align % 3 == 2 then Middle else Far)

-- where it puts it down the frame: 7, 8 and 9 at the top, 4, 5 and 6 in the middle, 1, 2 and 3 at the bottom
abbrev pub edge_down : ℕ → AnchorSide
edge_down align = if nat_le 7 align then Near else (if nat_le 4 align then Middle else Far)

-- the place of an edge between two others
abbrev pub edge_at : AnchorSide → ℤ → ℤ → ℤ
edge_at Near near far = near
edge_at Middle near far = floor_div (near +ℤ far) (pos 2)
edge_at Far near far = far

-- how far the edge of something of this length lies from its near end
abbrev pub edge_within : AnchorSide → ℤ → ℤ
edge_within edge len = edge_at edge (pos 0) len

-- the anchor by the margins, from the ground's corner on: what is in the middle stands halfway between them
abbrev pub margin_anchor : Margins → ℕ → Scales → Point
margin_anchor margins align scales =
    let left = across scales (whole_pixels margins.left) in
    let right = across scales (whole_pixels margins.right) in
    let vertical = down scales (whole_pixels margins.vertical) in
    record {
      x = edge_at (edge_across align) left (pos (pixel * scales.ground_rect.w) -ℤ right);
      y = edge_at (edge_down align) vertical (pos (pixel * scales.ground_rect.h) -ℤ vertical);
    }

-- a place of the script, likewise
abbrev pub script_place : Scales → ℤ × ℤ → Point
script_place scales place = record { x = across scales place.0; y = down scales place.1 }

-- the anchor by the point of `\pos` or `\move`, or else by the margins
abbrev pub anchor_by : Margins → ℕ → Scales → Option (ℤ × ℤ) → Point
anchor_by margins align scales (Some place) = script_place scales place
anchor_by margins align scales None = margin_anchor margins align scales

-- the place in the frame of a point that counts from the ground's corner
abbrev pub on_ground : Scales → Point → Point
on_ground scales p = record { x = (pos pixel *ℤ scales.ground_rect.left) +ℤ p.x; y = (pos pixel *ℤ scales.ground_rect.top) +ℤ p.y }

abbrev pub anchor : ScriptValue → Event → EventView → Scales → Point
anchor script event view scales = on_ground scales (anchor_by (margins_of script event) view.align scales view.pos)

-- the upper left corner of a block of this width and height at an anchor
abbrev pub block_corner : Point → ℕ → ℤ → ℤ → Point
block_corner anchor align width height = record {
  x = anchor.x -ℤ edge_within (edge_across align) width;
  y = anchor.y -ℤ edge_within (edge_down align) height;
}

-- ---- a law

-- On the whole of a frame of which the size alone is known, places count from its corner, and lines are wrapped between their margins.
pub record StandsOnSize (script : ScriptValue) (size : Size) : Type 0 where
  pub places : (p : Point) → on_ground (plain_scales script.header size whole_letter_scale) p ≡ p
  pub widths : (margins : Margins) → wrapping_width margins (plain_scales script.header size whole_letter_scale)
      ≡ int_max (framed (whole_pixels ((pos script.header.res_x -ℤ margins.left) -ℤ margins.right)) size.w script.header.res_x) (pos 0)

-- ---- ranges

-- margins that a script may have
pub record IsMargins (margins : Margins) : Type 0 where
  pub left : IsWithin max_whole margins.left
  pub right : IsWithin max_whole margins.right
  pub vertical : IsWithin max_whole margins.vertical

-- the width or the height of a block
pub record IsBlockSide (side : ℤ) : Type 0 where
  pub from_zero : pos 0 ≤ℤ side
  pub most : side ≤ℤ pos max_block

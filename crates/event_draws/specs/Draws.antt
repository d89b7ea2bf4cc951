-- Public: the draws of a run, and of the box of a line.
-- (Advanced SubStation Alpha, "BorderStyle"; Aegisub tag reference, "\bord", "\shad", "\be".)
use Rattle.std.specs.Prelude.{◌≡◌, ℕ, ◌*◌, ◌||◌, Bool, true, if◌then◌else◌, List, [], ◌∷◌, map, filter, All, ℤ, pos, ◌+ℤ◌, ◌-ℤ◌}
use Rattle.ass_num.specs.Limits.{IsHeldLength, IsHeldNumber, IsWithin}
use Rattle.ass_num.specs.declared.geometry.Point.{Point}
use Rattle.ass_num.specs.declared.size.Size.{Size}
use Rattle.draw_numbers.specs.Colours.{back_colour, lacks_border, outline_colour, plain_paint}
use Rattle.draw_numbers.specs.Limits.{max_shadow_offset, sample}
use Rattle.draw_numbers.specs.Pens.{is_near_frame, spot_at}
use Rattle.draw_numbers.specs.Widths.{are_no_offsets, are_no_radii, no_offsets, no_radii, no_softness, offsets_of, radii_of, softness_of}
use Rattle.draw_numbers.specs.declared.colours.Paint.{Paint}
use Rattle.draw_numbers.specs.declared.pens.Spot.{Spot}
use Rattle.draw_numbers.specs.declared.widths.Offsets.{Offsets}
use Rattle.draw_numbers.specs.declared.widths.Radii.{Radii}
use Rattle.draw_numbers.specs.declared.widths.Softness.{Softness}
use Rattle.mask_keys.specs.declared.composite_key.Part.{Part}
use Rattle.mask_keys.specs.declared.mask_key.MaskKey.{MaskKey}
use Rattle.mask_keys.specs.declared.outline_key.OutlineKey.{OutlineKey}
use Rattle.mask_keys.specs.declared.outline_key.OutlineKey.TheVariants.{Box}
use Rattle.mask_keys.specs.declared.plans.Clip.{Clip}
use Rattle.mask_keys.specs.declared.plans.Draw.{Draw}
use Rattle.override_tags.specs.declared.view.State.{State}
use Rattle.text_layout.specs.Anchors.{IsBlockSide}
use Rattle.text_layout.specs.Scales.{turn_of}
use Rattle.text_layout.specs.declared.laid.Line.{Line}
use Rattle.event_draws.specs.Marks.{IsMark}
use Rattle.event_draws.specs.declared.draws.Making.{Making}
use Rattle.event_draws.specs.declared.draws.Stamp.{Stamp}
use Rattle.event_draws.specs.declared.marks.Mark.{Mark}
use Rattle.event_draws.specs.declared.runs.Run.{Run}
use Rattle.event_draws.specs.declared.stage.Stage.{Stage}

-- ---- one draw

-- a mark, and where its mask stands
abbrev pub stamp_of : Stage → Making → Mark → Stamp
stamp_of stage making mark = record { outline = mark.outline; spot = spot_at stage.origin making.angle mark.pen making.offsets }

abbrev pub is_near_stamp : Stage → Stamp → Bool
is_near_stamp stage stamp = is_near_frame stage.size stamp.spot

-- the masks that may reach the frame; the others are left out
abbrev pub stamps_of : Stage → Making → List Mark → List Stamp
stamps_of stage making marks = filter (is_near_stamp stage) (map (stamp_of stage making) marks)

abbrev pub mask_of : Making → Stamp → MaskKey
mask_of making stamp = record {
  outline = stamp.outline;
  rx = making.radii.x;
  ry = making.radii.y;
  px = stamp.spot.px;
  py = stamp.spot.py;
  edges = making.softness.edges;
  blur = making.softness.blur;
}

-- a part, as it lies from the pixel at which the draw stands
abbrev pub part_from : Making → Spot → Stamp → Part
part_from making place stamp = record { mask = mask_of making stamp; dx = stamp.spot.x -ℤ place.x; dy = stamp.spot.y -ℤ place.y }

-- the draw of masks, which stands where the first of them does; without masks there is none
abbrev pub draw_of : Making → Paint → Clip → List Stamp → List Draw
draw_of making paint clip [] = []
draw_of making paint clip (first ∷ rest) =
    record {
      key = record { parts = map (part_from making first.spot) (first ∷ rest) };
      x = first.spot.x;
      y = first.spot.y;
      left = paint.left;
      right = paint.right;
      edge = paint.edge;
      clip = clip;
    }
    ∷ []

-- the draw of marks
abbrev pub draw_of_marks : Stage → Making → Paint → Clip → List Mark → List Draw
draw_of_marks stage making paint clip marks = draw_of making paint clip (stamps_of stage making marks)

-- ---- the draws of a run

abbrev pub softness_in : Stage → State → Softness
softness_in stage state = softness_of stage.scales state

abbrev pub offsets_in : Stage → State → Offsets
offsets_in stage state = offsets_of stage.scales state

-- The radii of a run's border. In a line with a box there is none, and none before a syllable begins that its border comes with.
abbrev pub border_radii : Stage → Bool → State → Radii
border_radii stage boxed state = if boxed || lacks_border stage.elapsed state.sung then no_radii else radii_of stage.scales state

-- the border of a run, moved by offsets; without a border it is the softened fill
abbrev pub border_making : Stage → Bool → State → Offsets → Making
border_making stage boxed state offsets =
    record { angle = state.angle; radii = border_radii stage boxed state; softness = softness_in stage state; offsets = offsets }

-- A fill is softened only where there is no border.
abbrev pub fill_softness : Stage → Bool → State → Softness
fill_softness stage boxed state = if are_no_radii (border_radii stage boxed state) then softness_in stage state else no_softness

abbrev pub fill_making : Stage → Bool → State → Making
fill_making stage boxed state = record { angle = state.angle; radii = no_radii; softness = fill_softness stage boxed state; offsets = no_offsets }

-- A shadow that would lie under what throws it is none.
abbrev pub run_shadow : Stage → Clip → Bool → Run → List Draw
run_shadow stage clip boxed run =
    if are_no_offsets (offsets_in stage run.state) then []
    else draw_of_marks stage (border_making stage boxed run.state (offsets_in stage run.state)) (plain_paint (back_colour stage.fade run.state)) clip run.marks

abbrev pub run_border : Stage → Clip → Bool → Run → List Draw
run_border stage clip boxed run =
    if are_no_radii (border_radii stage boxed run.state) then []
    else draw_of_marks stage (border_making stage boxed run.state no_offsets) (plain_paint (outline_colour stage.fade run.state)) clip run.marks

abbrev pub run_fill : Stage → Clip → Bool → Run → List Draw
run_fill stage clip boxed run = draw_of_marks stage (fill_making stage boxed run.state) run.paint clip run.marks

-- ---- boxes

-- so many samples as a length
abbrev pub samples_long : ℕ → ℤ
samples_long n = pos (sample * n)

-- the outline of the box of a line: it is wider and higher than the line by the radii on each side
abbrev pub box_outline : Line → State → Radii → OutlineKey
box_outline line state radii = Box (line.width +ℤ samples_long (2 * radii.x)) (line.height +ℤ samples_long (2 * radii.y)) (turn_of state.angle)

-- where it stands
abbrev pub box_pen : Stage → Line → Radii → Point
box_pen stage line radii = record {
  x = (stage.corner.x +ℤ line.left) -ℤ samples_long radii.x;
  y = (stage.corner.y +ℤ line.top) -ℤ samples_long radii.y;
}

-- the box of a line, by the radii of the state of its first item
abbrev pub box_mark : Stage → Line → State → Mark
box_mark stage line state =
    let radii = radii_of stage.scales state in
    record { outline = box_outline line state radii; pen = box_pen stage line radii }

abbrev pub box_making : Stage → State → Offsets → Making
box_making stage state offsets = record { angle = state.angle; radii = no_radii; softness = softness_in stage state; offsets = offsets }

abbrev pub box_draw : Stage → Clip → Line → State → Offsets → Paint → List Draw
box_draw stage clip line state offsets paint = draw_of_marks stage (box_making stage state offsets) paint clip (box_mark stage line state ∷ [])

abbrev pub box_shadow : Stage → Clip → Line → State → List Draw
box_shadow stage clip line state =
    if are_no_offsets (offsets_in stage state) then []
    else box_draw stage clip line state (offsets_in stage state) (plain_paint (back_colour stage.fade state))

abbrev pub box_border : Stage → Clip → Line → State → List Draw
box_border stage clip line state = box_draw stage clip line state no_offsets (plain_paint (outline_colour stage.fade state))

-- ---- ranges

-- the mask may reach a frame of this size
abbrev pub IsStampNear : Size → Stamp → Type 0
IsStampNear size stamp = is_near_frame size stamp.spot ≡ true

-- the offsets of how masks are made lie where they may
pub record IsMaking (making : Making) : Type 0 where
  pub x : IsWithin max_shadow_offset making.offsets.x
  pub y : IsWithin max_shadow_offset making.offsets.y

-- the state of a draw
pub record IsDrawnState (state : State) : Type 0 where
  pub border_x : IsHeldLength state.border_x
  pub border_y : IsHeldLength state.border_y
  pub shadow_x : IsHeldNumber state.shadow_x
  pub shadow_y : IsHeldNumber state.shadow_y
  pub blur : IsHeldLength state.blur

-- a line within a block
pub record IsBlockLine (line : Line) : Type 0 where
  pub left : IsBlockSide line.left
  pub top : IsBlockSide line.top
  pub baseline : IsBlockSide line.baseline
  pub width : IsBlockSide line.width
  pub height : IsBlockSide line.height

pub record IsDrawnRun (run : Run) : Type 0 where
  pub state : IsDrawnState run.state
  pub marks : All IsMark run.marks

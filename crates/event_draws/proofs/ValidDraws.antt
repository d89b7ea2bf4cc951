-- The draws of marks, of lines and of an event have valid keys: all numbers of keys are held where they may lie.
use Rattle.std.proofs.Common.{◌≡◌, ℕ, ◌*◌, ◌<◌, ◌≤◌, Bool, true, false, cond, ◌||◌, Option, Some, None, List, [], ◌∷◌, map, ℤ, pos, negsuc, neg_ℤ, ◌+ℤ◌, ◌-ℤ◌, ◌*ℤ◌, ◌≤ℤ◌, int_le, int_lt, unsigned_abs, arith}
use Rattle.std.specs.List.{All}
use Rattle.std.specs.Option.{IfSome}
use Rattle.std.proofs.lemmas.Bool.{and_parts}
use Rattle.std.proofs.lemmas.Int.{ints}
use Rattle.std.proofs.Math.Nat.{mod-lt}
use Rattle.std.proofs.lemmas.List.Elements.{All-cons, All-filter, All-map, All-nil, All-weaker}
use Rattle.ass_num.specs.Floor.{floor_div, held}
use Rattle.ass_num.specs.Limits.{IsFrameSize, IsWithin, max_frame_side}
use Rattle.ass_num.specs.declared.size.Size.{Size}
use Rattle.frame_view.specs.FrameScales.{magnified}
use Rattle.frame_view.specs.declared.scales.Ratio.{Ratio}
use Rattle.frame_view.specs.declared.scales.Scales.{Scales}
use Rattle.ass_num.proofs.Floor.{held_within}
use Rattle.ass_num.proofs.OrderLemmas.{le_is, lt_is}
use Rattle.bdf_font.specs.Fonts.{FontValue}
use Rattle.draw_numbers.specs.Colours.{back_colour, lacks_border, outline_colour, plain_paint}
use Rattle.draw_numbers.specs.Limits.{max_reach, one_milli}
use Rattle.draw_numbers.specs.Pens.{is_near_frame, phase_of, reaches}
use Rattle.draw_numbers.specs.Widths.{are_no_offsets, are_no_radii, blur_radius, in_samples, no_offsets, no_radii, no_softness, radii_of, softness_of}
use Rattle.draw_numbers.specs.declared.colours.Paint.{Paint}
use Rattle.draw_numbers.specs.declared.pens.Spot.{Spot}
use Rattle.draw_numbers.specs.declared.widths.Offsets.{Offsets}
use Rattle.draw_numbers.specs.declared.widths.Radii.{Radii}
use Rattle.draw_numbers.specs.declared.widths.Softness.{Softness}
use Rattle.mask_keys.specs.Keys.{IsValidClip, IsValidDraw, IsValidOutline, IsValidPart, IsValidPlan, max_blur_radius, max_border, max_part_offset, max_passes, samples_across}
use Rattle.mask_keys.specs.declared.plans.Clip.{Clip}
use Rattle.mask_keys.specs.Outlines.{glyph_counts}
use Rattle.outline_points.specs.Limits.{max_length}
use Rattle.override_tags.specs.Ranges.{IsClip}
use Rattle.override_tags.specs.declared.tag.ClipTag.{ClipTag}
use Rattle.override_tags.specs.declared.tag.ClipTag.TheVariants as clip_tag
use Rattle.override_tags.specs.declared.view.State.{State}
use Rattle.text_layout.specs.Anchors.{IsBlockSide}
use Rattle.text_layout.specs.declared.laid.Line.{Line}
use Rattle.event_draws.specs.Clips.{clip_by}
use Rattle.event_draws.specs.Draws.{IsBlockLine, IsStampNear, border_making, border_radii, box_border, box_making, box_mark, box_shadow, draw_of, draw_of_marks, fill_making, fill_softness, is_near_stamp, offsets_in, part_from, run_border, run_fill, run_shadow, samples_long, softness_in, stamp_of, stamps_of}
use Rattle.event_draws.specs.declared.draws.Making.{Making}
use Rattle.event_draws.specs.declared.draws.Stamp.{Stamp}
use Rattle.event_draws.specs.declared.marks.Mark.{Mark}
use Rattle.event_draws.specs.declared.runs.Run.{Run}
use Rattle.event_draws.specs.declared.stage.Stage.{Stage}
use Rattle.event_draws.proofs.ListAlls.{all_none_if}
use Rattle.event_draws.proofs.StampLemmas.{stamps_near}
use Rattle.event_draws.proofs.ValidMarks.{IsValidMark, clip_is_matrix}

-- ---- numbers

abs_below : (n : ℕ) (z : ℤ) → pos 0 ≤ℤ z → z ≤ℤ pos n → unsigned_abs z ≤ n
abs_below n (pos a) low high = omega (arith, ints)
abs_below n (negsuc a) low high = absurd (omega (arith, ints))

held_abs : (n : ℕ) (z : ℤ) → unsigned_abs (held (pos 0) (pos n) z) ≤ n
held_abs n z =
    let h = held_within (pos 0) (pos n) z (omega (arith, ints)) in
    abs_below n (held (pos 0) (pos n) z) h.0 h.1

phase_below : (pen : ℤ) → phase_of pen < samples_across
phase_below (pos a) = mod-lt a (omega arith)
phase_below (negsuc a) = omega arith

gap_within : (side : ℕ) (a b : ℤ) → side ≤ max_frame_side → reaches side a ≡ true → reaches side b ≡ true → IsWithin max_part_offset (a -ℤ b)
gap_within side a b most h k =
    let p = and_parts (int_le (neg_ℤ (pos max_reach)) a) (int_lt a (pos side +ℤ pos max_reach)) h in
    let q = and_parts (int_le (neg_ℤ (pos max_reach)) b) (int_lt b (pos side +ℤ pos max_reach)) k in
    let a_low = le_is (neg_ℤ (pos max_reach)) a p.0 in
    let a_high = lt_is a (pos side +ℤ pos max_reach) p.1 in
    let b_low = le_is (neg_ℤ (pos max_reach)) b q.0 in
    let b_high = lt_is b (pos side +ℤ pos max_reach) q.1 in
    (omega (arith, ints, a_low, b_high, most), omega (arith, ints, a_high, b_low, most))

-- ---- one draw

-- the numbers by which masks are widened and softened lie where they may
pub record IsValidMaking (making : Making) : Type 0 where
  pub rx : making.radii.x ≤ max_border
  pub ry : making.radii.y ≤ max_border
  pub edges : making.softness.edges ≤ max_passes
  pub blur : making.softness.blur ≤ max_blur_radius

-- a mask whose outline is valid, under a phase
record IsValidStamp (fonts : List FontValue) (stamp : Stamp) : Type 0 where
  outline : IsValidOutline (glyph_counts fonts) stamp.outline
  px : stamp.spot.px < samples_across
  py : stamp.spot.py < samples_across

stamp_valid : (stage : Stage) (fonts : List FontValue) (making : Making) (mark : Mark) → IsValidMark fonts mark → IsValidStamp fonts (stamp_of stage making mark)
stamp_valid stage fonts making mark h = record { outline = h; px = phase_below _; py = phase_below _ }

stamps_valid : (stage : Stage) (fonts : List FontValue) (making : Making) (marks : List Mark) → All (IsValidMark fonts) marks
    → All (IsValidStamp fonts) (stamps_of stage making marks)
stamps_valid stage fonts making marks h =
    All-filter (is_near_stamp stage) (IsValidStamp fonts) (map (stamp_of stage making) marks)
    (All-map (IsValidStamp fonts) (stamp_of stage making) marks
    (All-weaker (IsValidMark fonts) (λ mark. IsValidStamp fonts (stamp_of stage making mark)) (λ mark k. stamp_valid stage fonts making mark k) marks h))

part_valid : (fonts : List FontValue) (size : Size) (making : Making) (place : Spot) (stamp : Stamp) → IsFrameSize size → IsValidMaking making
    → is_near_frame size place ≡ true → IsStampNear size stamp → IsValidStamp fonts stamp → IsValidPart (glyph_counts fonts) (part_from making place stamp)
part_valid fonts size making place stamp framed made near close h =
    let p = and_parts (reaches size.w place.x) (reaches size.h place.y) near in
    let q = and_parts (reaches size.w stamp.spot.x) (reaches size.h stamp.spot.y) close in
    record {
      mask =
          record {
            outline = h.outline;
            ranges = record { rx = made.rx; ry = made.ry; px = h.px; py = h.py; edges = made.edges; blur = made.blur };
          };
      dx = gap_within size.w stamp.spot.x place.x framed.wide q.0 p.0;
      dy = gap_within size.h stamp.spot.y place.y framed.high q.1 p.1;
    }

masks_valid : (fonts : List FontValue) (size : Size) (making : Making) (paint : Paint) (clip : Clip) (stamps : List Stamp) → IsFrameSize size → IsValidMaking making
    → IsValidClip (glyph_counts fonts) clip → All (IsStampNear size) stamps → All (IsValidStamp fonts) stamps
    → IsValidPlan (glyph_counts fonts) (draw_of making paint clip stamps)
masks_valid fonts size making paint clip [] framed made clipped near h = All-nil (IsValidDraw (glyph_counts fonts))
masks_valid fonts size making paint clip (first ∷ rest) framed made clipped near h =
    let stands : IsStampNear size first = near 0 first (omega arith) in
    let parts : All (λ stamp. IsValidPart (glyph_counts fonts) (part_from making first.spot stamp)) (first ∷ rest) =
    λ k d within. part_valid fonts size making first.spot _ framed made stands (near k d within) (h k d within)
    in
    All-cons (IsValidDraw (glyph_counts fonts)) _ []
    (record {
      key = record { parts = All-map (IsValidPart (glyph_counts fonts)) (part_from making first.spot) (first ∷ rest) parts };
      clip = clipped;
    })
    (All-nil (IsValidDraw (glyph_counts fonts)))

marks_drawn : (stage : Stage) (fonts : List FontValue) (making : Making) (paint : Paint) (clip : Clip) (marks : List Mark) → IsFrameSize stage.size → IsValidMaking making
    → IsValidClip (glyph_counts fonts) clip → All (IsValidMark fonts) marks → IsValidPlan (glyph_counts fonts) (draw_of_marks stage making paint clip marks)
marks_drawn stage fonts making paint clip marks framed made clipped h =
    masks_valid fonts stage.size making paint clip (stamps_of stage making marks) framed made clipped (stamps_near stage making marks)
    (stamps_valid stage fonts making marks h)

-- ---- the draws of a run

record AreRadii (radii : Radii) : Type 0 where
  x : radii.x ≤ max_border
  y : radii.y ≤ max_border

record IsSoftness (softness : Softness) : Type 0 where
  edges : softness.edges ≤ max_passes
  blur : softness.blur ≤ max_blur_radius

radii_within : (scales : Scales) (state : State) → AreRadii (radii_of scales state)
radii_within scales state = record {
  x = held_abs max_border (in_samples (magnified scales.letter_scale state.border_x) scales.borders.x);
  y = held_abs max_border (in_samples (magnified scales.letter_scale state.border_y) scales.borders.y);
}

blur_within : (blur : ℤ) (ratio : Ratio) → blur_radius blur ratio ≤ max_blur_radius
blur_within blur ratio =
    held_abs max_blur_radius (floor_div ((blur *ℤ pos (2 * ratio.pixels)) +ℤ pos (one_milli * ratio.units)) (pos (2 * (one_milli * ratio.units))))

softness_within : (scales : Scales) (state : State) → IsSoftness (softness_of scales state)
softness_within scales state = record {
  edges = held_abs max_passes (floor_div state.edges (pos one_milli));
  blur = blur_within (magnified scales.letter_scale state.blur) scales.blur;
}

radii_if : (b : Bool) (radii : Radii) → AreRadii radii → AreRadii (cond b no_radii radii)
radii_if true radii h = record { x = omega arith; y = omega arith }
radii_if false radii h = h

border_within : (stage : Stage) (boxed : Bool) (state : State) → AreRadii (border_radii stage boxed state)
border_within stage boxed state =
    radii_if (boxed || lacks_border stage.elapsed state.sung) (radii_of stage.scales state) (radii_within stage.scales state)

softness_if : (b : Bool) (softness : Softness) → IsSoftness softness → IsSoftness (cond b softness no_softness)
softness_if true softness h = h
softness_if false softness h = record { edges = omega arith; blur = omega arith }

fill_within : (stage : Stage) (boxed : Bool) (state : State) → IsSoftness (fill_softness stage boxed state)
fill_within stage boxed state =
    softness_if (are_no_radii (border_radii stage boxed state)) (softness_in stage state) (softness_within stage.scales state)

border_made : (stage : Stage) (boxed : Bool) (state : State) (offsets : Offsets) → IsValidMaking (border_making stage boxed state offsets)
border_made stage boxed state offsets =
    let r = border_within stage boxed state in
    let s = softness_within stage.scales state in
    record { rx = r.x; ry = r.y; edges = s.edges; blur = s.blur }

fill_made : (stage : Stage) (boxed : Bool) (state : State) → IsValidMaking (fill_making stage boxed state)
fill_made stage boxed state =
    let s = fill_within stage boxed state in
    record { rx = omega arith; ry = omega arith; edges = s.edges; blur = s.blur }

box_made : (stage : Stage) (state : State) (offsets : Offsets) → IsValidMaking (box_making stage state offsets)
box_made stage state offsets =
    let s = softness_within stage.scales state in
    record { rx = omega arith; ry = omega arith; edges = s.edges; blur = s.blur }

-- What is drawn in a frame of a size, by valid marks, where the clip has a valid key.
pub record IsValidGround (stage : Stage) (fonts : List FontValue) (clip : Clip) : Type 0 where
  pub framed : IsFrameSize stage.size
  pub clipped : IsValidClip (glyph_counts fonts) clip

pub shadow_valid : (stage : Stage) (fonts : List FontValue) (clip : Clip) (boxed : Bool) (run : Run) → IsValidGround stage fonts clip → All (IsValidMark fonts) run.marks
    → IsValidPlan (glyph_counts fonts) (run_shadow stage clip boxed run)
shadow_valid stage fonts clip boxed run ground h =
    let offsets = offsets_in stage run.state in
    all_none_if (IsValidDraw (glyph_counts fonts)) (are_no_offsets offsets) _
    (marks_drawn stage fonts (border_making stage boxed run.state offsets) (plain_paint (back_colour stage.fade run.state)) clip run.marks ground.framed
    (border_made stage boxed run.state offsets) ground.clipped h)

pub border_valid : (stage : Stage) (fonts : List FontValue) (clip : Clip) (boxed : Bool) (run : Run) → IsValidGround stage fonts clip → All (IsValidMark fonts) run.marks
    → IsValidPlan (glyph_counts fonts) (run_border stage clip boxed run)
border_valid stage fonts clip boxed run ground h =
    all_none_if (IsValidDraw (glyph_counts fonts)) (are_no_radii (border_radii stage boxed run.state)) _
    (marks_drawn stage fonts (border_making stage boxed run.state no_offsets) (plain_paint (outline_colour stage.fade run.state)) clip run.marks ground.framed
    (border_made stage boxed run.state no_offsets) ground.clipped h)

pub fill_valid : (stage : Stage) (fonts : List FontValue) (clip : Clip) (boxed : Bool) (run : Run) → IsValidGround stage fonts clip → All (IsValidMark fonts) run.marks
    → IsValidPlan (glyph_counts fonts) (run_fill stage clip boxed run)
fill_valid stage fonts clip boxed run ground h =
    marks_drawn stage fonts (fill_making stage boxed run.state) run.paint clip run.marks ground.framed (fill_made stage boxed run.state) ground.clipped h

-- ---- boxes

side_within : (w : ℤ) (r : ℕ) → IsBlockSide w → r ≤ max_border → IsWithin max_length (w +ℤ samples_long (2 * r))
side_within w r h k = (omega (arith, ints, h.from_zero), omega (arith, ints, h.most, k))

box_valid : (stage : Stage) (fonts : List FontValue) (line : Line) (state : State) → IsBlockLine line → All (IsValidMark fonts) (box_mark stage line state ∷ [])
box_valid stage fonts line state h =
    let r = radii_within stage.scales state in
    let radii = radii_of stage.scales state in
    All-cons (IsValidMark fonts) (box_mark stage line state) []
    (record { width = side_within line.width radii.x h.width r.x; height = side_within line.height radii.y h.height r.y })
    (All-nil (IsValidMark fonts))

pub box_shadow_valid : (stage : Stage) (fonts : List FontValue) (clip : Clip) (line : Line) (state : State) → IsValidGround stage fonts clip → IsBlockLine line
    → IsValidPlan (glyph_counts fonts) (box_shadow stage clip line state)
box_shadow_valid stage fonts clip line state ground h =
    let offsets = offsets_in stage state in
    all_none_if (IsValidDraw (glyph_counts fonts)) (are_no_offsets offsets) _
    (marks_drawn stage fonts (box_making stage state offsets) (plain_paint (back_colour stage.fade state)) clip (box_mark stage line state ∷ []) ground.framed
    (box_made stage state offsets) ground.clipped (box_valid stage fonts line state h))

pub box_border_valid : (stage : Stage) (fonts : List FontValue) (clip : Clip) (line : Line) (state : State) → IsValidGround stage fonts clip → IsBlockLine line
    → IsValidPlan (glyph_counts fonts) (box_border stage clip line state)
box_border_valid stage fonts clip line state ground h =
    marks_drawn stage fonts (box_making stage state no_offsets) (plain_paint (outline_colour stage.fade state)) clip (box_mark stage line state ∷ []) ground.framed
    (box_made stage state no_offsets) ground.clipped (box_valid stage fonts line state h)

-- ---- clips

pub clip_valid : (scales : Scales) (fonts : List FontValue) (clip : Option ClipTag) → IfSome clip IsClip → IsValidClip (glyph_counts fonts) (clip_by scales clip)
clip_valid scales fonts None h = tt
clip_valid scales fonts (Some (clip_tag.Rect corners inverse)) h = tt
clip_valid scales fonts (Some (clip_tag.Drawn path level inverse)) h =
    record {
      parts =
          All-cons (IsValidPart (glyph_counts fonts)) _ []
          (record {
            mask =
                record {
                  outline = record { segments = h.0; matrix = clip_is_matrix scales level; shifted = (omega (arith, ints), omega (arith, ints)) };
                  ranges = record { rx = omega arith; ry = omega arith; px = omega arith; py = omega arith; edges = omega arith; blur = omega arith };
                };
            dx = (omega (arith, ints), omega (arith, ints));
            dy = (omega (arith, ints), omega (arith, ints));
          })
          (All-nil (IsValidPart (glyph_counts fonts)));
    }

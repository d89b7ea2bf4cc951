-- Public: how lengths of a script become lengths of the frame, and the matrices of characters, drawings and clips.
-- (Advanced SubStation Alpha, "PlayResX", "ScaleX"; Aegisub tag reference, "\fs", "\fscx", "\p".)
use Rattle.std.specs.Prelude.{ℕ, ◌*◌, ◌-◌, ◌^◌, false, ℤ, pos, unsigned_abs, ◌+ℤ◌, ◌*ℤ◌}
use Rattle.std.specs.Int.{int_max, int_rem_euclid}
use Rattle.ass_num.specs.Floor.{floor_div, held}
use Rattle.ass_num.specs.Limits.{one_16}
use Rattle.ass_num.specs.declared.geometry.Matrix.{Matrix}
use Rattle.bdf_font.specs.Fonts.{FontValue}
use Rattle.frame_view.specs.FrameScales.{magnified}
use Rattle.frame_view.specs.declared.scales.Scales.{Scales}
use Rattle.outline_points.specs.Limits.{max_scale}
use Rattle.override_tags.specs.declared.view.State.{State}
use Rattle.text_layout.specs.Fonts.{needs_slant}

-- a pixel, in the unit of all lengths of the frame
abbrev pub pixel : ℕ
pixel = 64

-- 1 in numbers of a script, which are in thousandths
abbrev pub whole_milli : ℕ
whole_milli = 1000

-- 100 per cent in a scale, which is in thousandths of a per cent
abbrev pub whole_per_cent : ℕ
whole_per_cent = 100000

-- a whole turn, in thousandths of a degree
abbrev pub whole_turn : ℕ
whole_turn = 360000

-- A length of the script, in a frame whose `side` pixels show `res` pixels of the script.
abbrev pub framed : ℤ → ℕ → ℕ → ℤ
framed len side res = floor_div (len *ℤ pos (pixel * side)) (pos (whole_milli * res))

-- the height of a font above and below the baseline, at least 1
abbrev pub em_height : FontValue → ℕ
em_height font = unsigned_abs (int_max (font.ascent +ℤ font.descent) (pos 1))

-- the side of a frame in the unit of scales: 1/65,536 of a length's unit
abbrev pub fine_parts : ℕ → ℕ
fine_parts side = side * pixel * one_16

-- the nearest scale that a matrix may have
abbrev pub held_scale : ℤ → ℤ
held_scale z = held (pos 0) (pos max_scale) z

-- The scale of a font's unit: a font that is `em` units high is `size` script pixels high at a scale of 100 per cent.
abbrev pub text_scale : ℤ → ℤ → ℕ → ℕ → ℕ → ℤ
text_scale size scale side res em = held_scale (floor_div ((size *ℤ scale) *ℤ pos (fine_parts side)) (pos (whole_milli * whole_per_cent * res * em)))

-- how many units of a level make a script pixel: one of level 1, and twice as many of each further level
abbrev pub level_parts : ℕ → ℕ
level_parts level = 2 ^ (level - 1)

-- The scale of a unit of a drawing.
abbrev pub drawing_scale : ℤ → ℕ → ℕ → ℕ → ℤ
drawing_scale scale level side res = held_scale (floor_div (scale *ℤ pos (fine_parts side)) (pos (whole_per_cent * res * level_parts level)))

abbrev pub turn_of : ℤ → ℤ
turn_of angle = int_rem_euclid angle (pos whole_turn)

-- The matrix of characters in a state with this font: they are slanted where the state is italic and the font isn't slanted.
abbrev pub text_matrix : Scales → FontValue → State → Matrix
text_matrix scales font state = record {
  ux = text_scale (magnified scales.letter_scale state.size) state.scale_x scales.letters.x.pixels scales.letters.x.units (em_height font);
  uy = text_scale (magnified scales.letter_scale state.size) state.scale_y scales.letters.y.pixels scales.letters.y.units (em_height font);
  italic = needs_slant font state;
  turn = turn_of state.angle;
}

-- the matrix of drawings in a state
abbrev pub drawing_matrix : Scales → State → Matrix
drawing_matrix scales state = record {
  ux = drawing_scale (magnified scales.letter_scale state.scale_x) state.draw scales.canvas.x.pixels scales.canvas.x.units;
  uy = drawing_scale (magnified scales.letter_scale state.scale_y) state.draw scales.canvas.y.pixels scales.canvas.y.units;
  italic = false;
  turn = turn_of state.angle;
}

-- the matrix of the drawing of a clip, whose scale is a level
abbrev pub clip_matrix : Scales → ℕ → Matrix
clip_matrix scales level = record {
  ux = drawing_scale (pos whole_per_cent) level scales.canvas.x.pixels scales.canvas.x.units;
  uy = drawing_scale (pos whole_per_cent) level scales.canvas.y.pixels scales.canvas.y.units;
  italic = false;
  turn = pos 0;
}

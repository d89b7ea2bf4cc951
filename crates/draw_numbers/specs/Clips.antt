-- Public: the bounds of rectangular clips.
-- (Aegisub tag reference, "\clip".)
use Rattle.std.specs.Prelude.{◌*◌, ℤ, pos, neg_ℤ, ◌+ℤ◌, ◌*ℤ◌}
use Rattle.ass_num.specs.Floor.{floor_div, held}
use Rattle.frame_view.specs.declared.scales.Ratio.{Ratio}
use Rattle.draw_numbers.specs.Limits.{max_bound, one_milli}

-- the column or the row of the frame at a coordinate of the script, whose canvas begins at a column or a row
abbrev pub clip_bound : ℤ → ℤ → Ratio → ℤ
clip_bound begin coordinate ratio =
    held (neg_ℤ (pos max_bound)) (pos max_bound) (begin +ℤ floor_div (coordinate *ℤ pos ratio.pixels) (pos (one_milli * ratio.units)))

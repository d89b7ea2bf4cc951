-- Public: how the box of a mask grows.
use Rattle.std.specs.Prelude.{ℕ, pos, ◌+◌, ◌*◌, ◌-ℤ◌, ◌==◌, length, if◌then◌else◌}
use Rattle.ass_num.specs.Coverage.{PixelBox, box_of}
use Rattle.ass_num.specs.Masks.{MaskValue}

-- the box of a mask, wider by k pixels on each side; a mask without pixels keeps its box
abbrev pub grown_box : ℕ → MaskValue → PixelBox
grown_box k m = if length m.bytes == 0 then box_of m else record { x = m.x -ℤ pos k; y = m.y -ℤ pos k; w = m.w + 2 * k; h = m.h + 2 * k }

-- Public: the limits of scripts.
use Rattle.std.specs.Prelude.{ℕ}

-- the widest and the highest canvas, in script pixels
abbrev pub max_canvas_side : ℕ
max_canvas_side = 16384

-- the most styles of a script
abbrev pub max_styles : ℕ
max_styles = 10000

-- the most Dialogue lines of a script
abbrev pub max_lines : ℕ
max_lines = 1000000

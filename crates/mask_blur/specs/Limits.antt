-- Public: how far the blur may reach.
use Rattle.std.specs.Prelude.{ℕ}

-- the greatest radius of the blur
abbrev pub max_blur : ℕ
max_blur = 100

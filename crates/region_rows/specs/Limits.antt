-- Public: how far rows may lie from 0.
use Rattle.std.specs.Prelude.{ℕ}

-- the farthest from 0 that a row may lie that is read
abbrev pub max_row : ℕ
max_row = 1000000

-- the last row at which a region that grows may still begin
abbrev pub max_top : ℕ
max_top = 1000000000

-- Public: how far the samples of an outline may lie, and the rows that are swept.
use Rattle.std.specs.Prelude.{ℕ}

-- the farthest from 0 that a sample inside an outline may be: four units of its points are a sample
abbrev pub max_inside : ℕ
max_inside = 65536

-- the farthest from 0 that a row may lie that is swept
abbrev pub max_swept : ℕ
max_swept = 100000

-- the farthest from 0 that a number may be that is divided to find where an edge crosses a row
abbrev pub max_divided : ℕ
max_divided = 2199023255553

-- the farthest from 0 that four times the height or the width of an edge may be
abbrev pub max_fourfold : ℕ
max_fourfold = 2097152

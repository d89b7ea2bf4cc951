-- Public: how far a border reaches, and how far the rows lie that are looked at.
use Rattle.std.specs.Prelude.{ℕ}

-- the most samples that a radius of a border has
abbrev pub max_radius : ℕ
max_radius = 1600

-- the farthest from 0 that the key of a row near a region may be
abbrev pub max_key : ℕ
max_key = 200000

-- the farthest from 0 that a key may be at which the region is looked at
abbrev pub max_seen : ℕ
max_seen = 300000

-- Inner: the samples of two regions together.
use Rattle.std.specs.Prelude.{ℤ, Bool, ◌||◌}
use Rattle.ass_num.specs.Regions.{RegionValue, member}

-- sample i of row j belongs to one region or the other
abbrev pub in_either : RegionValue → RegionValue → ℤ → ℤ → Bool
in_either a b i j = member a.top a.rows i j || member b.top b.rows i j

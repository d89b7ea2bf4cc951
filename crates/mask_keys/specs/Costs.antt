-- Public: what a value costs that a cache keeps.
use Rattle.std.specs.Prelude.{ℕ, ◌+◌, ◌*◌, List, length, sum_by, min}
use Rattle.ass_num.specs.Masks.{MaskValue}
use Rattle.ass_num.specs.Regions.{RegionValue}
use Rattle.ass_num.specs.declared.region.Run.{Run}

-- the greatest cost
abbrev pub greatest_cost : ℕ
greatest_cost = 4294967295

-- what each value costs besides its contents
abbrev pub base_cost : ℕ
base_cost = 64

-- 16 for each row and 8 for each run
abbrev pub region_cost : RegionValue → ℕ
region_cost r = min greatest_cost (base_cost + 16 * length r.rows + 8 * sum_by (λ (runs : List Run). length runs) r.rows)

-- one for each pixel of the box
abbrev pub mask_cost : MaskValue → ℕ
mask_cost m = min greatest_cost (base_cost + m.w * m.h)

-- Inner: the keys of regions that aren't widened.
use Rattle.std.specs.Prelude.{◌≡◌}
use Rattle.mask_keys.specs.declared.region_key.RegionKey.{RegionKey}

abbrev pub IsUnwidened : RegionKey → Type 0
IsUnwidened key = (key.rx ≡ 0) × (key.ry ≡ 0)

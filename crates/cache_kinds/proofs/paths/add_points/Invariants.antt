use Rattle.std.proofs.Common.{◌≡◌, take}
use Rattle.std.specs.List.{flat_map}
use Rattle.flight_cache.specs.Meaning.{mixed_all}
use Rattle.mask_keys.specs.Numbers.{point_numbers}
use Rattle.cache_kinds.proofs.paths.add_points.Given as goal

abbrev pub invariant-loop-point : goal.invariant-loop-point
invariant-loop-point l = l.sum ≡ mixed_all l.initial.sum (flat_map point_numbers (take l.point-index l.points))

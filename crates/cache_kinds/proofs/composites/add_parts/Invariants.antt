use Rattle.std.proofs.Common.{◌≡◌, take}
use Rattle.std.specs.List.{flat_map}
use Rattle.flight_cache.specs.Meaning.{mixed_all}
use Rattle.mask_keys.specs.Numbers.{part_numbers}
use Rattle.cache_kinds.proofs.composites.add_parts.Given as goal

abbrev pub invariant-loop-part : goal.invariant-loop-part
invariant-loop-part l = l.sum ≡ mixed_all l.initial.sum (flat_map part_numbers (take l.part-index l.parts))

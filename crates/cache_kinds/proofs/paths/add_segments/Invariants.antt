use Rattle.std.proofs.Common.{◌≡◌, take}
use Rattle.std.specs.List.{flat_map}
use Rattle.flight_cache.specs.Meaning.{mixed_all}
use Rattle.mask_keys.specs.Numbers.{seg_numbers}
use Rattle.cache_kinds.proofs.paths.add_segments.Given as goal

abbrev pub invariant-loop-seg : goal.invariant-loop-seg
invariant-loop-seg l = l.sum ≡ mixed_all l.initial.sum (flat_map seg_numbers (take l.seg-index l.segs))

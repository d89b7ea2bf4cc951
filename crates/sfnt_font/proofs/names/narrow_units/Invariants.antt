use Rattle.std.proofs.Common.{◌≡◌, map}
use Rattle.std.specs.List.{range_with_len}
use Rattle.sfnt_font.specs.Names.{narrow_unit}
use Rattle.sfnt_font.proofs.names.narrow_units.Given as goal

abbrev pub invariant-loop-k : goal.invariant-loop-k
invariant-loop-k l = l.units ≡ map (narrow_unit l.bytes l.at) (range_with_len 0 l.k)

use Rattle.std.proofs.Common.{◌≡◌, map}
use Rattle.std.specs.List.{range_with_len}
use Rattle.sfnt_font.specs.Names.{wide_unit}
use Rattle.sfnt_font.proofs.names.wide_units.Given as goal

abbrev pub invariant-loop-k : goal.invariant-loop-k
invariant-loop-k l = l.units ≡ map (wide_unit l.bytes l.at) (range_with_len 0 l.k)

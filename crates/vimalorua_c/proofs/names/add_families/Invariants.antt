use Rattle.std.proofs.Common.{◌≡◌, ◌++◌, take}
use Rattle.std.specs.List.{flat_map}
use Rattle.vimalorua_c.specs.Fonts.{ended_name}
use Rattle.vimalorua_c.proofs.names.add_families.Given as goal

abbrev pub invariant-loop-k : goal.invariant-loop-k
invariant-loop-k l = l.names.items ≡ l.initial.names.items ++ flat_map ended_name (take l.k l.font.families)

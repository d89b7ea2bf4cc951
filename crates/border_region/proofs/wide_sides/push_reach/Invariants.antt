use Rattle.std.proofs.Common.{◌≡◌, ◌++◌, ◌-ℤ◌, map, take}
use Rattle.border_region.proofs.wide_sides.push_reach.Given as goal

abbrev pub invariant-loop-width : goal.invariant-loop-width
invariant-loop-width l = l.wide.items ≡ l.initial.wide.items ++ map (λ w. l.side -ℤ w) (take l.width-index l.widths)

use Rattle.std.proofs.Common.{◌≡◌, ◌++◌, ◌-ℤ◌, map, take}
use Rattle.border_region.proofs.wide_sides.push_rows.Given as goal

abbrev pub invariant-loop-place : goal.invariant-loop-place
invariant-loop-place l = l.wide.items ≡ l.initial.wide.items ++ map (λ s. s -ℤ l.width) (take l.place-index l.side)

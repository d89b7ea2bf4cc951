use Rattle.std.proofs.Common.{◌-ℤ◌}
use Rattle.border_region.specs.Keys.{key_at}
use Rattle.border_region.proofs.PartLemmas.{IsLoweredTo}
use Rattle.border_region.proofs.wide_sides.lower.Given as goal

abbrev pub invariant-loop-q : goal.invariant-loop-q
invariant-loop-q l = IsLoweredTo (λ q. l.fn.side -ℤ key_at l.widths q) l.initial.numbers l.numbers l.q

use Rattle.std.proofs.Common.{◌+◌, ◌-◌, length}
use Rattle.line_layout.proofs.FillLemmas.{Filling}
use Rattle.line_layout.proofs.filling.fill.Given as goal

abbrev pub invariant-loop-limit : goal.invariant-loop-limit
invariant-loop-limit l = Filling l.widths l.spaces l.limit l.places.items l.first

abbrev pub decreases-loop-limit : goal.decreases-loop-limit
decreases-loop-limit l = length l.spaces + 1 - l.first

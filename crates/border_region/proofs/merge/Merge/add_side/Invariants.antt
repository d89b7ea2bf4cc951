use Rattle.border_region.proofs.SideLemmas.{HasAdded}
use Rattle.border_region.proofs.merge.Merge.add_side.Given as goal

abbrev pub invariant-loop-k : goal.invariant-loop-k
invariant-loop-k l = HasAdded l.region l.upwards l.keys l.widths l.key l.k l.fn.self.runs.items l.self.runs.items

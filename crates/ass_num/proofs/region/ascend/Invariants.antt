use Rattle.std.proofs.Common.{◌≡◌, ◌∷◌, drop}
use Rattle.ass_num.specs.Regions.{ascend}
use Rattle.ass_num.proofs.region.ascend.Given as goal

abbrev pub invariant-loop-run : goal.invariant-loop-run
invariant-loop-run l = ascend l.runs ≡ ascend (l.last ∷ drop l.run-index l.rest)

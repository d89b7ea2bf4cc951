use Rattle.std.proofs.Common.{◌≡◌, take}
use Rattle.event_draws.specs.Draws.{stamps_of}
use Rattle.event_draws.proofs.draws.stamps_of.Given as goal

abbrev pub invariant-loop-mark : goal.invariant-loop-mark
invariant-loop-mark l = l.stamps.items ≡ stamps_of l.stage l.making (take l.mark-index l.marks)

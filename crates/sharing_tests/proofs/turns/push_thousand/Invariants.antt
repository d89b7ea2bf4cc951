use Rattle.std.proofs.Common.{◌≡◌}
use Rattle.turn_cell.specs.Passes.{IsOf}
use Rattle.sharing_tests.proofs.turns.push_thousand.Given as goal

abbrev pub invariant-loop-i : goal.invariant-loop-i
invariant-loop-i g l = IsOf l.cell l.mine × (l.mine.number ≡ l.fn.pass.number)

use Rattle.std.proofs.Common.{◌≡◌, [], take}
use Rattle.event_draws.specs.EventDraws.{sung_with}
use Rattle.event_draws.proofs.runs.sung_left.Given as goal

abbrev pub invariant-loop-placed : goal.invariant-loop-placed
invariant-loop-placed l = sung_with l.view l.state (take l.placed-index l.items) ≡ []

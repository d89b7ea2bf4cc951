use Rattle.std.proofs.Common.{◌≡◌, ◌-◌, take, drop}
use Rattle.play_shares.specs.Instants.{instants}
use Rattle.play_shares.proofs.instants.ahead_instants.Given as goal

abbrev pub invariant-loop-place : goal.invariant-loop-place
invariant-loop-place l = l.ahead.items ≡ take (l.place - l.first) (drop l.first (instants l.play))

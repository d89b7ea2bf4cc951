use Rattle.std.proofs.Common.{◌≡◌, ◌-◌, ◌++◌, length, take, drop}
use Rattle.play_shares.specs.Batches.{feeder_lines, good_lines}
use Rattle.play_shares.proofs.batches.add_batch.Given as goal

abbrev pub invariant-loop-place : goal.invariant-loop-place
invariant-loop-place l = l.lines.items ≡ l.initial.lines.items ++ good_lines l.good (take (l.place - l.first) (drop l.first (feeder_lines (length l.good) l.feeders l.feeder)))

use Rattle.std.proofs.Common.{◌≡◌, ◌≤◌}
use Rattle.ass_num.specs.Powers.{scaled_times}
use Rattle.ass_num.proofs.powers.power.Given as goal

abbrev pub invariant-loop-turn : goal.invariant-loop-turn
invariant-loop-turn l = record {
  value : l.p ≡ scaled_times 65536 l.x l._turn;
  unit : l.p ≤ 65536;
}

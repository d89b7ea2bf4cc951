use Rattle.std.proofs.Common.{◌≡◌, ◌≤◌, length, take}
use Rattle.std.specs.List.{filter}
use Rattle.std.specs.Prelude.{not}
use Rattle.play_rounds.proofs.whole_play.malformed_count.Given as goal

abbrev pub invariant-loop-flag : goal.invariant-loop-flag
invariant-loop-flag l = record {
  few : l.count ≤ l.flag-index;
  is : l.count ≡ length (filter (λ flag. not flag) (take l.flag-index l.good));
}

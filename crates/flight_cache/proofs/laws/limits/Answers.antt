use Rattle.std.proofs.Common.{arith}
use Rattle.flight_cache.proofs.Limits.{limits_are_opened, limits_are_set}
use Rattle.flight_cache.proofs.laws.limits.Goals as goal

pub returns : goal.returns
returns g c = record {
  opened = limits_are_opened g.M.Key.PartialEq.eq g.M.Made.meaning;
  set = limits_are_set g.M.Key.PartialEq.eq g.M.Made.meaning;
  parts = λ limit. omega arith;
}

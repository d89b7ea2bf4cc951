use Rattle.flight_cache.proofs.Rows.{gives_follow, gives_own_steps, each_is_later, call_is_later, later_is_later, stays_of_cache}
use Rattle.flight_cache.proofs.laws.calls_in_a_row.Goals as goal

pub returns : goal.returns
returns g c = record {
  gives = gives_follow g.M.Key.PartialEq.eq g.M.Made.meaning;
  own = gives_own_steps g.M.Key.PartialEq.eq g.M.Made.meaning;
  each = each_is_later g.M.Key.PartialEq.eq g.M.Made.meaning;
  one = call_is_later;
  two = later_is_later;
  cache = stays_of_cache;
}

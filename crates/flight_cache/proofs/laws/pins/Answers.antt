use Rattle.flight_cache.proofs.Home.{flies_where_open, pins_are_held, held_is_kept}
use Rattle.flight_cache.proofs.laws.pins.Goals as goal

pub returns : goal.returns
returns g c = record {
  making = flies_where_open g.M.Key.PartialEq.eq g.met.M.Key.Eq.laws g.M.Made.meaning;
  counted = pins_are_held g.M.Key.PartialEq.eq g.met.M.Key.Eq.laws g.M.Made.meaning;
  kept = held_is_kept g.M.Key.PartialEq.eq g.met.M.Key.Eq.laws g.M.Made.meaning;
}

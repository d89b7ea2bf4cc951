use Rattle.flight_cache.proofs.Home.{stays_in_limit, history_in_limit}
use Rattle.flight_cache.proofs.laws.limit.Goals as goal

pub returns : goal.returns
returns g c = record { home = stays_in_limit g.M.Key.PartialEq.eq g.met.M.Key.Eq.laws g.M.Made.meaning g.row.M.Denot; history = history_in_limit g.M.Key.PartialEq.eq g.met.M.Key.Eq.laws g.M.Made.meaning }

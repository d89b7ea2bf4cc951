use Rattle.flight_cache.proofs.Home.{claims_once, fills_once}
use Rattle.flight_cache.proofs.laws.single_fill.Goals as goal

pub returns : goal.returns
returns g c = record { claims = claims_once g.M.Key.PartialEq.eq g.met.M.Key.Eq.laws g.M.Made.meaning; fills = fills_once g.M.Key.PartialEq.eq g.met.M.Key.Eq.laws g.M.Made.meaning }

use Rattle.flight_cache.proofs.Values.{made-when-legal}
use Rattle.flight_cache.proofs.laws.values.Goals as goal

pub returns : goal.returns
returns g c = λ under history legal. made-when-legal g.M.Made.meaning under g.M.Key.PartialEq.eq g.met.M.Key.Eq.laws g.met.M.Made.same_key history legal

use Rattle.flight_cache.proofs.Refusals.{refused_for_one_cause}
use Rattle.flight_cache.proofs.laws.refusals.Goals as goal

pub returns : goal.returns
returns g c = refused_for_one_cause g.M.Key.PartialEq.eq g.met.M.Key.Eq.laws g.met.M.Made.same_key g.M.Made.meaning

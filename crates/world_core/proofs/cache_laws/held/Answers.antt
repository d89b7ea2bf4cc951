use Rattle.world_core.proofs.Owned.{tickets-are-of-making, makers-have-tickets, pins-are-actors}
use Rattle.world_core.proofs.cache_laws.held.Goals as goal

pub returns : goal.returns
returns g c = record {
  tickets = tickets-are-of-making g.M.Key.PartialEq.eq g.met.M.Key.Eq.laws g.M.Made.meaning;
  makers = makers-have-tickets g.M.Key.PartialEq.eq g.met.M.Key.Eq.laws g.M.Made.meaning;
  pins = pins-are-actors g.M.Key.PartialEq.eq g.met.M.Key.Eq.laws g.M.Made.meaning;
}

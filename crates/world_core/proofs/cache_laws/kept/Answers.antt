use Rattle.world_core.proofs.Owned.{each-in-budget, each-in-limit, ready-values-are-made}
use Rattle.world_core.proofs.cache_laws.kept.Goals as goal

pub returns : goal.returns
returns g c = record {
  budget = each-in-budget g.M.Key.PartialEq.eq g.met.M.Key.Eq.laws g.M.Made.meaning;
  limit = each-in-limit g.M.Key.PartialEq.eq g.met.M.Key.Eq.laws g.M.Made.meaning;
  values = ready-values-are-made g.M.Key.PartialEq.eq g.met.M.Key.Eq.laws g.M.Made.meaning g.met.M.Made.same_key;
}

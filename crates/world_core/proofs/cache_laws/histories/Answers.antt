use Rattle.world_core.proofs.Owned.{opened-stand, asked-stand, filled-stand, failed-stand, unpinned-stand, limited-stand}
use Rattle.world_core.proofs.cache_laws.histories.Goals as goal

pub returns : goal.returns
returns g c = record {
  opened = opened-stand g.M.Key.PartialEq.eq g.met.M.Key.Eq.laws g.M.Made.meaning;
  asked = asked-stand g.M.Key.PartialEq.eq g.met.M.Key.Eq.laws g.M.Made.meaning;
  filled = filled-stand g.M.Key.PartialEq.eq g.met.M.Key.Eq.laws g.M.Made.meaning;
  failed = failed-stand g.M.Key.PartialEq.eq g.met.M.Key.Eq.laws g.M.Made.meaning;
  unpinned = unpinned-stand g.M.Key.PartialEq.eq g.met.M.Key.Eq.laws g.M.Made.meaning;
  limited = limited-stand g.M.Key.PartialEq.eq g.met.M.Key.Eq.laws g.M.Made.meaning;
}

use Rattle.flight_cache.proofs.Home.{stays_in_hard_limit, history_in_hard_limit}
use Rattle.flight_cache.proofs.Limits.{hard_is_unset, hard_is_set, none_is_spilled}
use Rattle.flight_cache.proofs.Rows.{spills_have_no_room}
use Rattle.flight_cache.proofs.laws.hard.Goals as goal

pub returns : goal.returns
returns g c = record {
  home = stays_in_hard_limit g.M.Key.PartialEq.eq g.met.M.Key.Eq.laws g.M.Made.meaning g.row.M.Denot;
  history = history_in_hard_limit g.M.Key.PartialEq.eq g.met.M.Key.Eq.laws g.M.Made.meaning;
  unset = hard_is_unset g.M.Key.PartialEq.eq g.M.Made.meaning;
  set = hard_is_set g.M.Key.PartialEq.eq g.M.Made.meaning;
  spills = spills_have_no_room g.M.Key.PartialEq.eq g.M.Made.meaning;
  none = none_is_spilled g.M.Key.PartialEq.eq g.M.Made.meaning;
}

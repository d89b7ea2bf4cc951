use Rattle.flight_cache.proofs.Rows.{ask_is_answered, places_are_in_shard, pinned_all_holds, nothing_holds, hit_holds, claim_opens, fill_holds, unpin_gives, pin_all_holds}
use Rattle.flight_cache.proofs.laws.calls.Goals as goal

pub returns : goal.returns
returns g c = record {
  answer = ask_is_answered g.M.Key.PartialEq.eq g.M.Made.meaning;
  hit = hit_holds g.M.Key.PartialEq.eq g.met.M.Key.Eq.laws g.M.Made.meaning;
  claim = claim_opens g.M.Key.PartialEq.eq g.met.M.Key.Eq.laws g.M.Made.meaning;
  fill = fill_holds g.M.Key.PartialEq.eq g.met.M.Key.Eq.laws g.M.Made.meaning;
  unpin = unpin_gives g.M.Key.PartialEq.eq g.met.M.Key.Eq.laws g.M.Made.meaning;
  pin_all = pin_all_holds g.M.Key.PartialEq.eq g.met.M.Key.Eq.laws g.M.Made.meaning;
  places = places_are_in_shard g.M.Key.PartialEq.eq g.met.M.Key.Eq.laws g.met.M.Made.same_key g.M.Made.meaning;
  pinned = pinned_all_holds g.M.Key.PartialEq.eq g.met.M.Key.Eq.laws g.met.M.Made.same_key g.M.Made.meaning;
  nothing = nothing_holds g.M.Key.PartialEq.eq g.M.Made.meaning;
}

use Rattle.flight_cache.proofs.Rows.{nothing_is_given_back, given_back_again, one_gives_back}
use Rattle.flight_cache.proofs.laws.given_back.Goals as goal

pub returns : goal.returns
returns g c = record {
  nothing = nothing_is_given_back g.M.Key.PartialEq.eq g.M.Made.meaning;
  again = given_back_again g.M.Key.PartialEq.eq g.M.Made.meaning;
  one = one_gives_back g.M.Key.PartialEq.eq g.M.Made.meaning;
}

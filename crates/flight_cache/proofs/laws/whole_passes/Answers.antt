use Rattle.flight_cache.proofs.Rows.{first_is_whole, stays_whole, joined_is_whole, gives_itself, whole_knows_all}
use Rattle.flight_cache.proofs.laws.whole_passes.Goals as goal

pub returns : goal.returns
returns g c = record {
  first = first_is_whole;
  later = stays_whole;
  joined = joined_is_whole;
  itself = gives_itself g.M.Key.PartialEq.eq g.M.Made.meaning;
  family = whole_knows_all;
}

use Rattle.flight_cache.proofs.Rows.{whole_but_none, split_is_whole_but, join_is_whole_but, later_is_whole_but}
use Rattle.flight_cache.proofs.laws.passes_apart.Goals as goal

pub returns : goal.returns
returns g c = record {
  none = whole_but_none;
  split = split_is_whole_but;
  join = join_is_whole_but;
  later = later_is_whole_but;
}

use Rattle.mask_caches.proofs.Counted.{shards_balance, shards_count_asks}
use Rattle.mask_caches.proofs.total_laws.totals_of_shards.Goals as goal

pub returns : goal.returns
returns g c = record {
  balance = shards_balance g.M.Key.PartialEq.eq g.met.M.Key.Eq.laws g.M.Made.meaning;
  asks = shards_count_asks g.M.Key.PartialEq.eq g.met.M.Key.Eq.laws g.M.Made.meaning;
}

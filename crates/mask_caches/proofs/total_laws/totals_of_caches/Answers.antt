use Rattle.mask_caches.proofs.Summed.{caches_balance, caches_count_asks}
use Rattle.mask_caches.proofs.total_laws.totals_of_caches.Goals as goal

pub returns : goal.returns
returns g c = record {
  balance = caches_balance g.M.Key.PartialEq.eq g.met.M.Key.Eq.laws g.M.Made.meaning;
  asks = caches_count_asks g.M.Key.PartialEq.eq g.met.M.Key.Eq.laws g.M.Made.meaning;
}

use Rattle.mask_caches.proofs.Summed.{composites_count_asks, three_balance}
use Rattle.mask_caches.proofs.total_laws.totals_of_three.Goals as goal

pub returns : goal.returns
returns c = record { balance = three_balance; asks = composites_count_asks }

use Rattle.world_core.proofs.Arrivals.{live-in-any-order}
use Rattle.world_core.proofs.Seeing.{show-the-same}
use Rattle.world_core.proofs.laws.order_of_arrival.Goals as goal

pub returns-clause-live : goal.returns-clause-live
returns-clause-live c = live-in-any-order

pub returns-clause-shown : goal.returns-clause-shown
returns-clause-shown c script fonts sound = show-the-same script fonts sound

use Rattle.ass_events.specs.Histories.{live}
use Rattle.track_history.proofs.LawLemmas.{near_live, near_orders, near_few, near_short}
use Rattle.track_history.proofs.laws.near_is_live.Goals as goal

pub returns-clause-live : goal.returns-clause-live
returns-clause-live c = λ history near t h. near_live (live history) near t h

pub returns-clause-orders : goal.returns-clause-orders
returns-clause-orders c = near_orders

pub returns-clause-few : goal.returns-clause-few
returns-clause-few c = near_few

pub returns-clause-short : goal.returns-clause-short
returns-clause-short c = near_short

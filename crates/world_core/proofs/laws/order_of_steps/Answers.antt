use Rattle.world_core.proofs.Orders.{orders-show-the-same, replies-tell-history, runs-show-the-same}
use Rattle.world_core.proofs.laws.order_of_steps.Goals as goal

pub returns-clause-told : goal.returns-clause-told
returns-clause-told c script fonts = replies-tell-history script fonts

pub returns-clause-shown : goal.returns-clause-shown
returns-clause-shown c script fonts sound = runs-show-the-same script fonts sound

pub returns-clause-orders : goal.returns-clause-orders
returns-clause-orders c script fonts sound = orders-show-the-same script fonts sound

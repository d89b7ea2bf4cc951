use Rattle.track_history.proofs.LocalTrackLemmas.{near_each, near_few, near_orders, near_texts}
use Rattle.track_history.proofs.local_track.LocalTrack.near.Goals as goal

pub returns-clause-each : goal.returns-clause-each
returns-clause-each c = near_each c.near.result c.self.inside.live c.self.invariant.history _ c.self.invariant.tells c.near.ensures.events c.near_is_live.ensures.short

pub returns-clause-texts : goal.returns-clause-texts
returns-clause-texts c = near_texts c.near.result c.self.inside.live c.self.invariant.history _ c.self.invariant.tells c.near.ensures.events c.near_is_live.ensures.short

pub returns-clause-few : goal.returns-clause-few
returns-clause-few c = near_few c.near.result c.self.inside.live c.self.invariant.history _ c.self.invariant.tells c.near.ensures.events c.near_is_live.ensures.few

pub returns-clause-orders : goal.returns-clause-orders
returns-clause-orders c = near_orders c.near.result c.self.inside.live c.self.invariant.history _ c.self.invariant.tells c.near.ensures.events c.near_is_live.ensures.orders

use Rattle.std.proofs.Common.{rules}
use Rattle.world_core.proofs.Calls.{have-empty}
use Rattle.world_core.proofs.actor_caches.ActorCaches.new.Goals as goal

pub invariant_of-result : goal.invariant_of-result
invariant_of-result g c =
    have-empty g.M.Key.PartialEq.eq g.met.M.Key.Eq.laws g.M.Made.meaning _ (search rules) (search rules) (search rules)

-- Public: what an actor's ask is answered.
use Rattle.std.specs.Prelude.{◌≡◌, Bool, Some}
use Rattle.evict_core.specs.Machine.{maker_in, status_of}
use Rattle.evict_core.specs.Machine as machine
use Rattle.world_core.specs.Caches.{ActorCachesView, shard_in, answer_in}
use Rattle.world_core.specs.declared.holding.Holding.{Holding}
use Rattle.world_core.specs.declared.answer.ActorAnswer.{ActorAnswer}
use Rattle.world_core.specs.declared.answer.ActorAnswer.TheVariants.{Hit, Claim, Flying, Crowded}

module _ {K V T : Type 0} (eq : K → K → Bool) (h : Holding K) (s : ActorCachesView K V T) where
  -- The machine's answer, or who makes the key
  abbrev pub IsActorAnswer : ActorAnswer → Type 0
  IsActorAnswer Hit = answer_in eq h s ≡ Some machine.Hit
  IsActorAnswer Claim = answer_in eq h s ≡ Some machine.Claim
  IsActorAnswer Crowded = answer_in eq h s ≡ Some machine.Crowded
  IsActorAnswer (Flying maker) = maker_in (status_of eq (shard_in s h.shard) h.key) ≡ Some maker

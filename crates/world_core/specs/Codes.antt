-- Public: how the caches of actors are told apart as data.
use Rattle.std.specs.Prelude.{ℕ, List, refl}
use Rattle.std.specs.Coded.{Coded, code_by, coded_ℕ, coded_list, coded×}
use Rattle.evict_core.specs.Codes.{state_code}
use Rattle.evict_core.specs.Machine.{State}
use Rattle.world_core.specs.declared.holding.Holding.{Holding}
use Rattle.world_core.specs.Caches.{ActorCachesView}

-- a holding is stored as its actor, its shard and its key
abbrev pub holding_code : {K : Type 0} → Coded K → Coded (Holding K)
holding_code {K} k = code_by (ℕ × (ℕ × K)) (coded× coded_ℕ (coded× coded_ℕ k)) (λ h. (h.actor, (h.shard, h.key))) (λ p. record { actor = p.0; shard = p.1.0; key = p.1.1 }) (λ _. refl)

-- the caches are stored as the tuple of their fields
abbrev pub caches_code : {K V T : Type 0} → Coded K → Coded V → Coded T → Coded (ActorCachesView K V T)
caches_code {K} {V} {T} k v t = code_by (T × (List (State K V) × (List (Holding K) × List (Holding K)))) (coded× t (coded× (coded_list (state_code k v)) (coded× (coded_list (holding_code k)) (coded_list (holding_code k)))))
    (λ c. (c.tag, (c.shards, (c.tickets, c.pins)))) (λ p. record { tag = p.0; shards = p.1.0; tickets = p.1.1.0; pins = p.1.1.1 }) (λ _. refl)

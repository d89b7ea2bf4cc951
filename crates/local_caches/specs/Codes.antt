-- Inner: how caches of one thread are told apart as data.
use Rattle.std.specs.Prelude.{refl}
use Rattle.std.specs.Coded.{Coded, code_by, coded×}
use Rattle.evict_core.specs.Codes.{state_code}
use Rattle.evict_core.specs.Machine.{State}
use Rattle.local_caches.specs.Keeping.{LocalCacheView}

-- a cache is stored as its tag and its entries
abbrev pub cache_code : {K V T : Type 0} → Coded K → Coded V → Coded T → Coded (LocalCacheView K V T)
cache_code {K} {V} {T} k v t = code_by (T × State K V) (coded× t (state_code k v)) (λ c. (c.tag, c.entries)) (λ p. record { tag = p.0; entries = p.1 }) (λ _. refl)

-- What opening a cache gives.
use Rattle.std.proofs.Common.{◌≡◌, ℕ, Result, Ok, Err, sym, refl, subst}
use Rattle.std.specs.Result.{IfOk}
use Rattle.turn_cell.specs.Passes.{first_pass}
use Rattle.flight_cache.specs.Shards.{CacheView, CachePassView, IsCacheOf, AreShardsOf, HasLimits, each}
use Rattle.cache_kinds.specs.Limits.{entry_limit}
use Rattle.mask_caches.specs.Caches.{IsNewCache}

module _ {K T E : Type 0} where
  pub opened-new : (result : Result (CacheView T × CachePassView K T) E) (tag : T) (entries budget : ℕ) → entries ≡ entry_limit budget
      → IfOk result (λ r. r.0.tag ≡ tag) → IfOk result (λ r. AreShardsOf tag r.0.shards) → IfOk result (λ r. HasLimits r.0.shards entries budget) → IfOk result (λ r. r.1 ≡ each first_pass r.0.shards)
      → IfOk result (λ r. IsNewCache r.0 r.1 budget)
  opened-new (Ok r) tag entries budget is tagged shards limits first = record {
    shards = subst (λ (t : T). AreShardsOf t r.0.shards) (sym tagged) shards;
    limits = subst (λ (n : ℕ). HasLimits r.0.shards n budget) is limits;
    pass_is = first;
  }
  opened-new (Err e) tag entries budget is tagged shards limits first = tt

  pub opened-pass : (result : Result (CacheView T × CachePassView K T) E) → IfOk result (λ r. r.1 ≡ each first_pass r.0.shards) → IfOk result (λ r. IsCacheOf r.0 r.1)
  opened-pass (Ok r) first = subst (λ (p : CachePassView K T). IsCacheOf r.0 p) (sym first) (record {
    first = record { id = refl; tagged = refl };
    second = record { id = refl; tagged = refl };
    third = record { id = refl; tagged = refl };
    fourth = record { id = refl; tagged = refl };
  })
  opened-pass (Err e) first = tt

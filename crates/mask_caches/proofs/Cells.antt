-- Passes that come from a cache, and new ones, which hold nothing.
use Rattle.std.proofs.Common.{◌≡◌, ℕ, Bool, List, refl, sym, subst}
use Rattle.turn_cell.specs.Passes.{first_pass, split_pass, new_pass, joined_pass}
use Rattle.evict_core.specs.Machine.{Step}
use Rattle.flight_cache.specs.Meaning.{Meaning}
use Rattle.flight_cache.specs.Shards.{CacheView, CachePassView, IsCacheOf, EachGives, EachHasGivenBack, each, both}
use Rattle.flight_cache.proofs.Rows.{each_is_later, nothing_is_given_back, stays_of_cache}
use Rattle.mask_caches.specs.Caches.{IsNewCache}

module _ {K T : Type 0} (cache : CacheView T) where
  pub split-of : (p q : CachePassView K T) → IsCacheOf cache p → q ≡ each split_pass p → IsCacheOf cache q
  split-of p q of is = subst (λ (r : CachePassView K T). IsCacheOf cache r) (sym is) (record {
    first = record { id = of.first.id; tagged = of.first.tagged };
    second = record { id = of.second.id; tagged = of.second.tagged };
    third = record { id = of.third.id; tagged = of.third.tagged };
    fourth = record { id = of.fourth.id; tagged = of.fourth.tagged };
  })

  pub new-of : (p q : CachePassView K T) → IsCacheOf cache p → q ≡ each new_pass p → IsCacheOf cache q
  new-of p q of is = subst (λ (r : CachePassView K T). IsCacheOf cache r) (sym is) (record {
    first = record { id = of.first.id; tagged = of.first.tagged };
    second = record { id = of.second.id; tagged = of.second.tagged };
    third = record { id = of.third.id; tagged = of.third.tagged };
    fourth = record { id = of.fourth.id; tagged = of.fourth.tagged };
  })

  pub joined-of : (p o q : CachePassView K T) → IsCacheOf cache p → q ≡ both joined_pass p o → IsCacheOf cache q
  joined-of p o q of is = subst (λ (r : CachePassView K T). IsCacheOf cache r) (sym is) (record {
    first = record { id = of.first.id; tagged = of.first.tagged };
    second = record { id = of.second.id; tagged = of.second.tagged };
    third = record { id = of.third.id; tagged = of.third.tagged };
    fourth = record { id = of.fourth.id; tagged = of.fourth.tagged };
  })

module _ {K V T : Type 0} (eq : K → K → Bool) (meaning : Meaning K V T) (cache : CacheView T) where
  pub each-of : (p q : CachePassView K T) (steps : ℕ → List (Step K V)) → IsCacheOf cache p → EachGives eq meaning cache.shards p q steps → IsCacheOf cache q
  each-of p q steps of g = stays_of_cache cache p q of (each_is_later eq meaning cache.shards p q steps g)

  pub new-given : (p : CachePassView K T) (budget : ℕ) → IsNewCache cache p budget → EachHasGivenBack eq meaning cache.shards p
  new-given p budget new = subst (λ (q : CachePassView K T). EachHasGivenBack eq meaning cache.shards q) (sym new.pass_is)
      (nothing_is_given_back eq meaning cache.shards (each first_pass cache.shards) (record { first = refl; second = refl; third = refl; fourth = refl }))

-- Inner: the values that the program keeps, and the passes that its threads are lent.
use Rattle.std.specs.Prelude.{ℕ, ◌*◌, ◌==◌, [], ◌∷◌}
use Rattle.flight_cache.specs.Meaning.{Meaning}
use Rattle.flight_cache.specs.Shards.{CacheView, CachePassView, IsCacheOf, EachHasGivenBack}

-- each key's value is twice the key and costs 1, and the key is its own number
abbrev pub doubled : {T : Type 0} → Meaning ℕ ℕ T
doubled = record { made = λ _ k. 2 * k; cost = λ _. 1; numbers = λ k. k ∷ []; rank = λ k. 0 }

-- a pass of the cache that holds no pin and has no claim open
pub record IsFreePass {T : Type 0} (cache : CacheView T) (pass : CachePassView ℕ T) : Type 0 where
  pub cell : IsCacheOf cache pass
  pub given : EachHasGivenBack (◌==◌) doubled cache.shards pass

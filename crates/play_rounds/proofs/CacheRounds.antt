-- What a round makes of the first pass of a cache.
use Rattle.std.proofs.Common.{◌≡◌, ℕ, ◌<◌, Bool, List, [], ap, ◌∙◌}
use Rattle.flight_cache.specs.Calls.{GivesSteps, HasGivenBack, ShardPassView, ShardView}
use Rattle.flight_cache.specs.Laws.{IsLater}
use Rattle.flight_cache.specs.Meaning.{Meaning}
use Rattle.flight_cache.specs.Shards.{CachePassView, CacheView, EachGives, EachHasGivenBack, at}
use Rattle.flight_cache.specs.declared.kept.Entry.{Entry}
use Rattle.flight_cache.proofs.Asking.{gives-nothing}
use Rattle.flight_cache.proofs.Rows.{gives_itself}
use Rattle.mask_caches.specs.Caches.{IsNewCache}
use Rattle.turn_cell.specs.Passes.{Extends, Follows, first_pass}
use Rattle.play_rounds.specs.Passes.{AreCachePassesJoined, AreCachePassesSplit, IsCacheHome}
use Rattle.play_rounds.proofs.ShardRounds.{nothing_seen, shard_home, shard_new, shard_turn}
use Rattle.play_rounds.proofs.Shards.{at_all, at_each, later_at}

module _ {K V T : Type 0} (eq : K → K → Bool) (meaning : Meaning K V T) (cache : CacheView T) where
  module _ (first split after : CachePassView K T) (count : ℕ) (begun passes : ℕ → CachePassView K T) (home : IsCacheHome eq meaning cache first) (are_split : AreCachePassesSplit first count begun split)
      (joined : AreCachePassesJoined split count passes after) (later : (i : ℕ) → i < count → IsLater (begun i) (passes i)) where
    pub numbers_at : (n i : ℕ) → i < count → (at (passes i) n).number ≡ (at (begun i) n).number
    numbers_at n i lt = (later_at (begun i) (passes i) (later i lt) n).1.number

    pub cache_home : ((i : ℕ) → i < count → EachHasGivenBack eq meaning cache.shards (passes i)) → IsCacheHome eq meaning cache after
    cache_home given n =
        shard_home eq meaning (at cache.shards n) (at first n) (at split n) (at after n) count (λ i. at (begun i) n) (λ i. at (passes i) n) (home n) (are_split n) (joined n)
        (numbers_at n) (λ i lt. let h = given i lt in at_all (λ (shard : ShardView T) (own z : ShardPassView K T). HasGivenBack eq meaning shard own) cache.shards (passes i) (passes i) h.first h.second h.third h.fourth n)

  gives_at : (first after : CachePassView K T) → EachGives eq meaning cache.shards first after (λ n. []) → (n : ℕ) → GivesSteps eq meaning (at cache.shards n) (at first n) (at after n) []
  gives_at first after gives = at_all (λ (shard : ShardView T) (p q : ShardPassView K T). GivesSteps eq meaning shard p q []) cache.shards first after gives.first gives.second gives.third gives.fourth

  -- turns of the first pass that gave nothing
  module _ (first after : CachePassView K T) (gives : EachGives eq meaning cache.shards first after (λ n. [])) (home : IsCacheHome eq meaning cache first) where
    turns_at : (n : ℕ) → Follows (at first n) (at after n) []
    turns_at n = gives-nothing eq meaning (at cache.shards n) (at first n) (at after n) (gives_at first after gives n)

    itself_at : (n : ℕ) → Extends (at after n) (at after n).seen
    itself_at n = gives_itself eq meaning (at cache.shards n) (at first n) (at after n) [] (home n).number (home n).some (gives_at first after gives n)

    pub cache_turn : IsCacheHome eq meaning cache after
    cache_turn n = shard_turn eq meaning (at cache.shards n) (at first n) (at after n) (home n) (turns_at n) (itself_at n)

    pub cache_same : (n : ℕ) → (at after n).seen ≡ (at first n).seen
    cache_same n = nothing_seen (at first n) (at after n) (home n).number (home n).whole (home n).itself (turns_at n) (itself_at n)

  -- the first pass of a new cache
  pub new_at : (pass : CachePassView K T) (budget : ℕ) → IsNewCache cache pass budget → (n : ℕ) → at pass n ≡ first_pass (at cache.shards n)
  new_at pass budget new n = ap (λ (p : CachePassView K T). at p n) new.pass_is ∙ at_each (λ (s : ShardView T). first_pass {E = Entry K} s) cache.shards n

  pub cache_new : (pass : CachePassView K T) (budget : ℕ) → IsNewCache cache pass budget → IsCacheHome eq meaning cache pass
  cache_new pass budget new n = shard_new eq meaning (at cache.shards n) (at pass n) (new_at pass budget new n)

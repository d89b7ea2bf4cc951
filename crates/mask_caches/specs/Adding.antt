-- Public: what calls in a row add to a cache: their steps in each shard, and what becomes of pins and claims.
use Rattle.std.specs.Prelude.{◌≡◌, ℕ, ◌+◌, ◌==◌, Bool, false, List, ◌++◌, filter}
use Rattle.evict_core.specs.Machine.{Step, Ask, PinAll, Fill, Fail, Spill, Unpin, Limits, Hard}
use Rattle.evict_core.specs.History.{times_named, pins_taken, pins_given, pins_left, is_open_in, has_open}
use Rattle.flight_cache.specs.Meaning.{Meaning, shard_of, shard_count}
use Rattle.flight_cache.specs.Calls.{ShardView, ShardPassView, own_steps}
use Rattle.flight_cache.specs.Shards.{CacheView, CachePassView, at}
use Rattle.flight_cache.specs.Laws.{IsLater}

module _ {K V T : Type 0} (meaning : Meaning K V T) where
  -- the shard of a step's key. A step of several keys, or of none, is in none of the four
  abbrev pub shard_of_step : Step K V → ℕ
  shard_of_step (Ask key answer) = shard_of (meaning.numbers key)
  shard_of_step (Fill key cost value) = shard_of (meaning.numbers key)
  shard_of_step (Fail key) = shard_of (meaning.numbers key)
  shard_of_step (Spill key cost) = shard_of (meaning.numbers key)
  shard_of_step (Unpin key) = shard_of (meaning.numbers key)
  shard_of_step (PinAll keys) = shard_count
  shard_of_step (Limits entries budget) = shard_count
  shard_of_step (Hard hard) = shard_count

  -- those of the steps whose key is in the shard
  abbrev pub steps_of_shard : ℕ → List (Step K V) → List (Step K V)
  steps_of_shard n steps = filter (λ s. shard_of_step s == n) steps

  -- the pass of shard n gave those of the steps whose key is in it, in their order
  abbrev pub GaveIn : ℕ → ShardView T → ShardPassView K T → ShardPassView K T → List (Step K V) → Type 0
  GaveIn n shard pass after steps = own_steps meaning shard.tag after ≡ own_steps meaning shard.tag pass ++ steps_of_shard n steps

module _ {K V T : Type 0} (eq : K → K → Bool) (meaning : Meaning K V T) (cache : CacheView T) where
  -- the pins of the key that the pass holds
  abbrev pub pins_of : CachePassView K T → K → ℕ
  pins_of pass key = let n = shard_of (meaning.numbers key) in pins_left eq (own_steps meaning (at cache.shards n).tag (at pass n)) key

  -- whether the pass has a claim of the key open
  abbrev pub is_open : CachePassView K T → K → Bool
  is_open pass key = let n = shard_of (meaning.numbers key) in has_open eq (own_steps meaning (at cache.shards n).tag (at pass n)) key

  -- the pass has no claim open
  abbrev pub IsFree : CachePassView K T → Type 0
  IsFree pass = (key : K) → is_open pass key ≡ false

  -- The pass after calls that gave just these steps, each in the shard of its key
  pub record Adds (pass after : CachePassView K T) (steps : List (Step K V)) : Type 0 where
    pub later : IsLater pass after
    pub first : GaveIn meaning 0 cache.shards.first pass.first after.first steps
    pub second : GaveIn meaning 1 cache.shards.second pass.second after.second steps
    pub third : GaveIn meaning 2 cache.shards.third pass.third after.third steps
    pub fourth : GaveIn meaning 3 cache.shards.fourth pass.fourth after.fourth steps
    pub pins : (key : K) → pins_of after key + pins_given eq steps key ≡ pins_of pass key + pins_taken eq steps key
    pub claims : (key : K) → is_open after key ≡ is_open_in eq (is_open pass key) steps key

  -- the pass holds of each key the pins that another holds, and has the same claims open
  pub record HoldsAsMuch (pass after : CachePassView K T) : Type 0 where
    pub pins : (key : K) → pins_of after key ≡ pins_of pass key
    pub claims : (key : K) → is_open after key ≡ is_open pass key

module _ {K V T : Type 0} (eq : K → K → Bool) (meaning : Meaning K V T) (cache : CacheView T) (pass after : CachePassView K T) (keys : List K) where
  -- the pass holds a pin more for each place of these keys, and has the same claims open
  pub record HoldsMore : Type 0 where
    pub pins : (key : K) → pins_of eq meaning cache after key ≡ pins_of eq meaning cache pass key + times_named eq key keys
    pub claims : (key : K) → is_open eq meaning cache after key ≡ is_open eq meaning cache pass key

  -- or one less
  pub record HoldsFewer : Type 0 where
    pub pins : (key : K) → pins_of eq meaning cache after key + times_named eq key keys ≡ pins_of eq meaning cache pass key
    pub claims : (key : K) → is_open eq meaning cache after key ≡ is_open eq meaning cache pass key

-- Public: what a call that pins several keys at once gives.
use Rattle.std.specs.Prelude.{◌≡◌, ◌⊎◌, ℕ, ◌+◌, ◌<◌, ◌≤◌, ◌==◌, nat_lt, slice_get, Bool, true, MatchBool, List, [], ◌∷◌, map, filter, take, Option, Some, None}
use Rattle.std.specs.List.{list_any}
use Rattle.turn_cell.specs.Passes.{Follows}
use Rattle.evict_core.specs.Machine.{State, Step, PinAll, status_of, maker_in, max_pins}
use Rattle.evict_core.specs.History.{times_named}
use Rattle.evict_core.specs.Asked.{ready_pins}
use Rattle.evict_core.specs.Laws.{ArePinnable}
use Rattle.flight_cache.specs.Meaning.{Meaning, shard_count, shard_of}
use Rattle.flight_cache.specs.Histories.{is_in, left_by}
use Rattle.flight_cache.specs.Calls.{PinView, ShardView, ShardPassView, GivesSteps}
use Rattle.flight_cache.specs.Shards.{CacheView, CachePassView, at}
use Rattle.flight_cache.specs.declared.pinning.PinRefusal.{PinRefusal}
use Rattle.flight_cache.specs.declared.pinning.PinRefusal.TheVariants.{TurnOut, NotReady, Making, PinsFull, OutOfMemory}

-- shard n is among these
abbrev pub is_named : List ℕ → ℕ → Bool
is_named shards n = list_any (λ m. m == n) shards

module _ {K V T : Type 0} (meaning : Meaning K V T) where
  -- the shard of each key
  abbrev pub shards_of : List K → List ℕ
  shards_of keys = map (λ k. shard_of (meaning.numbers k)) keys

  -- those of the keys that are in the shard
  abbrev pub keys_in : ShardView T → List K → List K
  keys_in shard keys = filter (is_in meaning shard.tag) keys

module _ {K V T : Type 0} (eq : K → K → Bool) (meaning : Meaning K V T) where
  -- what a turn of the shard showed that gave no entry
  abbrev pub shown_state : ShardView T → ShardPassView K T → State K V
  shown_state shard after = left_by eq meaning shard.tag after.seen

  -- one shard with its pass, before and after; `shards` are those of the keys
  module _ (shards : List ℕ) (shard : ShardView T) (pass after : ShardPassView K T) where
    -- where the shard is named, its pass gave these steps; else it is as it was
    abbrev pub TurnsWith : List (Step K V) → Type 0
    TurnsWith steps = MatchBool (is_named shards shard.tag.shard) (GivesSteps eq meaning shard pass after steps) (after ≡ pass)

    -- where the shard is named, its turn was taken, and showed that each of these keys can be pinned
    pub record StopsBefore (keys : List K) : Type 0 where
      pub turn : TurnsWith []
      pub before : is_named shards shard.tag.shard ≡ true → ArePinnable eq (shown_state shard after) (keys_in meaning shard keys)

    -- The first named shard that was out is n: a try was lost there. Those before it gave nothing, and those after it are as they were
    abbrev pub IsOutAt : ℕ → Type 0
    IsOutAt n = MatchBool (nat_lt shard.tag.shard n) (TurnsWith []) (MatchBool (shard.tag.shard == n) (after ≡ record pass { lost = pass.lost + 1 }) (after ≡ pass))

-- all four shards; `shards` are those of the keys
module _ {K V T : Type 0} (eq : K → K → Bool) (meaning : Meaning K V T) (cache : CacheView T) (pass : CachePassView K T) (shards : List ℕ) (after : CachePassView K T) where
  -- the first named shard that is out is n
  pub record IsTurnOut (n : ℕ) : Type 0 where
    pub below : n < shard_count
    pub named : is_named shards n ≡ true
    pub first : IsOutAt eq meaning shards cache.shards.first pass.first after.first n
    pub second : IsOutAt eq meaning shards cache.shards.second pass.second after.second n
    pub third : IsOutAt eq meaning shards cache.shards.third pass.third after.third n
    pub fourth : IsOutAt eq meaning shards cache.shards.fourth pass.fourth after.fourth n

  -- the turn of each named shard was taken, and showed that each of these keys can be pinned
  pub record StopsBeforeAll (keys : List K) : Type 0 where
    pub first : StopsBefore eq meaning shards cache.shards.first pass.first after.first keys
    pub second : StopsBefore eq meaning shards cache.shards.second pass.second after.second keys
    pub third : StopsBefore eq meaning shards cache.shards.third pass.third after.third keys
    pub fourth : StopsBefore eq meaning shards cache.shards.fourth pass.fourth after.fourth keys

-- no shard's pass gave an entry
pub record GivesNothing {K T : Type 0} (pass after : CachePassView K T) : Type 0 where
  pub first : Follows pass.first after.first []
  pub second : Follows pass.second after.second []
  pub third : Follows pass.third after.third []
  pub fourth : Follows pass.fourth after.fourth []

module _ {K V T : Type 0} (eq : K → K → Bool) (meaning : Meaning K V T) (cache : CacheView T) (pass : CachePassView K T) (keys : List K) (after : CachePassView K T) where
  -- one pin-all in each shard that is named, of its keys in their order, and a pin of that shard with its value for each key
  pub record IsPinnedAll (pins : List (PinView K V)) : Type 0 where
    pub first : TurnsWith eq meaning (shards_of meaning keys) cache.shards.first pass.first after.first (PinAll (keys_in meaning cache.shards.first keys) ∷ [])
    pub second : TurnsWith eq meaning (shards_of meaning keys) cache.shards.second pass.second after.second (PinAll (keys_in meaning cache.shards.second keys) ∷ [])
    pub third : TurnsWith eq meaning (shards_of meaning keys) cache.shards.third pass.third after.third (PinAll (keys_in meaning cache.shards.third keys) ∷ [])
    pub fourth : TurnsWith eq meaning (shards_of meaning keys) cache.shards.fourth pass.fourth after.fourth (PinAll (keys_in meaning cache.shards.fourth keys) ∷ [])
    pub keys_are : map (λ p. p.key) pins ≡ keys
    pub values_are : map (λ p. p.value) pins ≡ map (meaning.made cache.tag) keys
    pub cells_are : map (λ p. p.cell) pins ≡ map (λ k. (at cache.shards (shard_of (meaning.numbers k))).id) keys

  -- the first i keys could be pinned, and the next is k
  abbrev pub IsStoppedAt : ℕ → K → Type 0
  IsStoppedAt i k = StopsBeforeAll eq meaning cache pass (shards_of meaning keys) after (take i keys) × (slice_get keys i ≡ Some k)

  -- the pins of a key in the state that the turn of its shard showed, where it is ready
  abbrev pub pins_shown : K → Option ℕ
  pins_shown k = let n = shard_of (meaning.numbers k) in ready_pins (status_of eq (shown_state eq meaning (at cache.shards n) (at after n)) k)

  -- who makes it there
  abbrev pub maker_shown : K → Option ℕ
  maker_shown k = let n = shard_of (meaning.numbers k) in maker_in (status_of eq (shown_state eq meaning (at cache.shards n) (at after n)) k)

  -- The first named shard that is out lost a try; or the key at i isn't there; or it is being made; or it has all its pins, once its places before i are counted.
  -- Memory ran out before any turn was tried for, or where all the keys could have been pinned
  abbrev pub IsRefused : PinRefusal → Type 0
  IsRefused TurnOut = (n : ℕ) × IsTurnOut eq meaning cache pass (shards_of meaning keys) after n
  IsRefused (NotReady i) = (k : K) × IsStoppedAt i k × (pins_shown k ≡ None) × (maker_shown k ≡ None)
  IsRefused (Making i) = (k : K) × (maker : ℕ) × IsStoppedAt i k × (maker_shown k ≡ Some maker)
  IsRefused (PinsFull i) = (k : K) × (pins : ℕ) × IsStoppedAt i k × (pins_shown k ≡ Some pins) × (max_pins ≤ pins + times_named eq k (take i keys))
  IsRefused OutOfMemory = (after ≡ pass) ⊎ StopsBeforeAll eq meaning cache pass (shards_of meaning keys) after keys

-- Inner: what a call that pins several keys holds of each shard.
use Rattle.std.specs.Prelude.{◌≡◌, ℕ, ◌+◌, ◌≤◌, ◌⊎◌, slice_get, Bool, true, false, List, [], ◌∷◌, ◌++◌, take, Option, Some, None}
use Rattle.turn_cell.specs.Passes.{IsOf, IsTurnOf}
use Rattle.evict_core.specs.Machine.{status_of, maker_in, max_pins}
use Rattle.evict_core.specs.History.{times_named}
use Rattle.evict_core.specs.Asked.{ready_pins, ready_value}
use Rattle.evict_core.specs.Laws.{ArePinnable}
use Rattle.flight_cache.specs.Meaning.{Meaning, shard_of}
use Rattle.flight_cache.specs.Histories.{Stands, IsLegalUnder}
use Rattle.flight_cache.specs.Calls.{ShardView, ShardPassView}
use Rattle.flight_cache.specs.Shards.{Shards, CacheView, CachePassView, AreAlike, at}
use Rattle.flight_cache.specs.Pinning.{is_named, keys_in, TurnsWith}
use Rattle.flight_cache.specs.declared.kept.Entry.TheVariants.{PinAll}
use Rattle.flight_cache.specs.declared.pinning.PinRefusal.{PinRefusal}
use Rattle.flight_cache.specs.declared.pinning.PinRefusal.TheVariants.{TurnOut, NotReady, Making, PinsFull, OutOfMemory}
use Rattle.flight_cache.specs.declared.holds.Hold.{Hold}
use Rattle.flight_cache.specs.declared.holds.Hold.TheVariants.{Turn, Pass}
use Rattle.flight_cache.specs.declared.holds.Holds.{Holds}
use Rattle.std.specs.declared.snapshot.Snapshot.{Snapshot}
use Rattle.std.specs.Global.{Vec}

-- the shard is named and out: its pass lost a try
abbrev pub IsLost : {K T : Type 0} → List ℕ → ShardView T → ShardPassView K T → ShardPassView K T → Type 0
IsLost shards shard pass after = (is_named shards shard.tag.shard ≡ true) × (after ≡ record pass { lost = pass.lost + 1 })

-- Of two shards, one after the other, one is named and out: the first, and the second's pass is as it was; or the second, and the first, where it is named, gave its turn back
abbrev pub IsOneLost : {K V T : Type 0} → (K → K → Bool) → Meaning K V T → List ℕ → ShardView T → ShardView T → ShardPassView K T → ShardPassView K T → ShardPassView K T → ShardPassView K T → Type 0
IsOneLost eq meaning shards shard next pass next_pass after next_after = (IsLost shards shard pass after × (next_after ≡ next_pass)) ⊎ (TurnsWith eq meaning shards shard pass after [] × IsLost shards next next_pass next_after)

-- a key without pins is being made, or nobody makes it
abbrev pub unready : ℕ → Option ℕ → PinRefusal
unready i None = NotReady i
unready i (Some maker) = Making i

module _ {M K V T : Type 0} where
  -- the pass, once what is held is given back without an entry
  abbrev pub pass_back : Hold M K V T → ShardPassView K T
  pass_back (Turn turn) = record turn.pass { seen = turn.list }
  pass_back (Pass pass) = pass

  abbrev pub passes_back : Holds M K V T → CachePassView K T
  passes_back holds = record { first = pass_back holds.first; second = pass_back holds.second; third = pass_back holds.third; fourth = pass_back holds.fourth }

  abbrev pub four_of : Holds M K V T → Shards (Hold M K V T)
  four_of holds = record { first = holds.first; second = holds.second; third = holds.third; fourth = holds.fourth }

  module _ (eq : K → K → Bool) where
    -- the pins, the maker and the value of a key whose turn is held
    abbrev pub pins_at : Hold M K V T → K → Option ℕ
    pins_at (Turn turn) key = ready_pins (status_of eq turn.value.entries key)
    pins_at (Pass pass) key = None

    abbrev pub maker_at : Hold M K V T → K → Option ℕ
    maker_at (Turn turn) key = maker_in (status_of eq turn.value.entries key)
    maker_at (Pass pass) key = None

    abbrev pub held_value : Hold M K V T → K → Option V
    held_value (Turn turn) key = ready_value (status_of eq turn.value.entries key)
    held_value (Pass pass) key = None

  module _ (eq : K → K → Bool) (meaning : Meaning K V T) where
    -- what is held is the shard's
    abbrev pub IsHeld : ShardView T → Hold M K V T → Type 0
    IsHeld shard (Turn turn) = IsOf shard turn.pass × Stands eq meaning shard.tag turn.value turn.list
    IsHeld shard (Pass pass) = Unit {0}

    -- the shard's turn is held where it is named, and else its pass, as it was
    abbrev pub IsHoldOf : List ℕ → ShardView T → ShardPassView K T → Hold M K V T → Type 0
    IsHoldOf shards shard pass (Turn turn) = (is_named shards shard.tag.shard ≡ true) × IsTurnOf (Stands eq meaning) shard.tag pass turn × IsLegalUnder eq meaning shard.tag pass.seen
    IsHoldOf shards shard pass (Pass same) = (is_named shards shard.tag.shard ≡ false) × (same ≡ pass)

    -- those of these keys that are in the shard can be pinned
    abbrev pub CanPin : ShardView T → List K → Hold M K V T → Type 0
    CanPin shard keys (Turn turn) = ArePinnable eq turn.value.entries (keys_in meaning shard keys)
    CanPin shard keys (Pass pass) = Unit {0}

    -- the pass, once the keys are pinned
    abbrev pub IsPassPinned : ShardView T → List K → Hold M K V T → ShardPassView K T → Type 0
    IsPassPinned shard keys (Turn turn) after = (ks : Snapshot (Vec K)) × (ks.value.items ≡ keys) × (after ≡ record turn.pass { seen = turn.list ++ (turn.pass.number, PinAll ks) ∷ [] }) × IsLegalUnder eq meaning shard.tag after.seen
    IsPassPinned shard keys (Pass pass) after = after ≡ pass

    -- the same of all four
    pub record AreHeld (cache : CacheView T) (holds : Holds M K V T) : Type 0 where
      pub first : IsHeld cache.shards.first holds.first
      pub second : IsHeld cache.shards.second holds.second
      pub third : IsHeld cache.shards.third holds.third
      pub fourth : IsHeld cache.shards.fourth holds.fourth
      pub alike : AreAlike (passes_back holds)

    pub record AreHoldsOf (shards : List ℕ) (cache : CacheView T) (pass : CachePassView K T) (holds : Holds M K V T) : Type 0 where
      pub first : IsHoldOf shards cache.shards.first pass.first holds.first
      pub second : IsHoldOf shards cache.shards.second pass.second holds.second
      pub third : IsHoldOf shards cache.shards.third pass.third holds.third
      pub fourth : IsHoldOf shards cache.shards.fourth pass.fourth holds.fourth
      pub held : AreHeld cache holds

    pub record CanPinAll (cache : CacheView T) (keys : List K) (holds : Holds M K V T) : Type 0 where
      pub first : CanPin cache.shards.first keys holds.first
      pub second : CanPin cache.shards.second keys holds.second
      pub third : CanPin cache.shards.third keys holds.third
      pub fourth : CanPin cache.shards.fourth keys holds.fourth

    pub record ArePassesPinned (cache : CacheView T) (keys : List K) (holds : Holds M K V T) (after : CachePassView K T) : Type 0 where
      pub first : IsPassPinned cache.shards.first keys holds.first after.first
      pub second : IsPassPinned cache.shards.second keys holds.second after.second
      pub third : IsPassPinned cache.shards.third keys holds.third after.third
      pub fourth : IsPassPinned cache.shards.fourth keys holds.fourth after.fourth

    -- what is held says of the first key that can't be pinned
    abbrev pub IsRefusalOf : CacheView T → List K → Holds M K V T → PinRefusal → Type 0
    IsRefusalOf cache keys holds TurnOut = ⊥
    IsRefusalOf cache keys holds (NotReady i) = (k : K) × (slice_get keys i ≡ Some k) × CanPinAll cache (take i keys) holds × (pins_at eq (at (four_of holds) (shard_of (meaning.numbers k))) k ≡ None) × (maker_at eq (at (four_of holds) (shard_of (meaning.numbers k))) k ≡ None)
    IsRefusalOf cache keys holds (Making i) = (k : K) × (maker : ℕ) × (slice_get keys i ≡ Some k) × CanPinAll cache (take i keys) holds × (maker_at eq (at (four_of holds) (shard_of (meaning.numbers k))) k ≡ Some maker)
    IsRefusalOf cache keys holds (PinsFull i) = (k : K) × (pins : ℕ) × (slice_get keys i ≡ Some k) × CanPinAll cache (take i keys) holds × (pins_at eq (at (four_of holds) (shard_of (meaning.numbers k))) k ≡ Some pins) × (max_pins ≤ pins + times_named eq k (take i keys))
    IsRefusalOf cache keys holds OutOfMemory = ⊥

-- Public: the states of the world.
use Rattle.std.specs.Prelude.{ℕ, ◌==◌, ℤ, if◌then◌else◌, List, [], Option, Some, None}
use Rattle.ass_num.specs.declared.size.Size.{Size}
use Rattle.ass_events.specs.Histories.{Entry}
use Rattle.flight_cache.specs.Shards.{part}
use Rattle.cache_kinds.specs.Limits.{entry_limit}
use Rattle.world_core.specs.Caches.{ActorCachesView, no_shards, with_shard}
use Rattle.world_core.specs.declared.world_keys.WorldKey.{WorldKey}
use Rattle.world_core.specs.declared.world_keys.WorldValue.{WorldValue}

-- a look: the history that was seen, the instant and the size of the frame
pub record LookState : Type 0 where
  pub history : List Entry
  pub instant : ℤ
  pub size : Size

-- the track's history, the caches with the tickets and pins of all actors, and the last look of each actor that looked
pub record WorldState (T : Type 0) : Type 0 where
  pub history : List Entry
  pub caches : ActorCachesView WorldKey WorldValue T
  pub looks : ℕ → Option LookState

module _ {T : Type 0} where
  -- with a shard more of those that a kind has, and with all four: each has its part of the limits, and no entries
  abbrev pub with_part : ℕ → ℕ → ActorCachesView WorldKey WorldValue T → ActorCachesView WorldKey WorldValue T
  with_part budget n s = with_shard (part (entry_limit budget) n) (part budget n) s

  abbrev pub with_kind : ℕ → ActorCachesView WorldKey WorldValue T → ActorCachesView WorldKey WorldValue T
  with_kind budget s = with_part budget 3 (with_part budget 2 (with_part budget 1 (with_part budget 0 s)))

  -- three kinds, and nothing else
  abbrev pub opening_world : T → ℕ → WorldState T
  opening_world tag budget = record { history = []; caches = with_kind budget (with_kind budget (with_kind budget (no_shards tag))); looks = λ _. None }

-- with the actor's look in place of the one before
abbrev pub with_look : ℕ → LookState → (ℕ → Option LookState) → ℕ → Option LookState
with_look actor look looks other = if actor == other then Some look else looks other

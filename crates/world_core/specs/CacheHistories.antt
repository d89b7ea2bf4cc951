-- Public: how the histories of shards grow by the steps of actors, and what that says of tickets, pins, limits and values.
use Rattle.std.specs.Prelude.{◌≡◌, ℕ, ◌<◌, ◌≤◌, ◌==◌, Bool, false, if◌then◌else◌, ◌↔◌, List, [], ◌∷◌, ◌++◌, length, map, Option, Some, None, is_some, slice_get, slice_index_or}
use Rattle.turn_cell.specs.History.{History}
use Rattle.evict_core.specs.Machine.{Answer, Step, Ask, Fill, Fail, Unpin, Limits, max_entries, max_budget, maker_in, pins_in, unpinned, has_idle, status_of}
use Rattle.evict_core.specs.History.{opening, one_if}
use Rattle.evict_core.specs.Asked.{ready_value}
use Rattle.flight_cache.specs.Meaning.{Meaning, entry_cost}
use Rattle.world_core.specs.declared.holding.Holding.{Holding}
use Rattle.world_core.specs.Holdings.{count_held, count_all}
use Rattle.world_core.specs.Caches.{ActorCachesView, shard_in, answer_in, asked, filled, failed, unpinned_at, with_limits}
use Rattle.world_core.specs.CacheLaws.{StandFor, HaveHistories}

-- with one entry more in a shard's history
abbrev pub entry_in_shard : {X : Type 0} → (ℕ → History X) → ℕ → ℕ × X → ℕ → History X
entry_in_shard histories n e j = if n == j then histories j ++ e ∷ [] else histories j

-- with an ask that was answered so. Of a key that is being made it is no step
abbrev pub ask_in_shard : {K V : Type 0} → (ℕ → History (Step K V)) → Holding K → Option Answer → ℕ → History (Step K V)
ask_in_shard histories h None = histories
ask_in_shard histories h (Some answer) = entry_in_shard histories h.shard (h.actor, Ask h.key answer)

-- shards with these limits and no entries, of which nobody has a ticket or a pin
abbrev pub opened_caches : {K V T : Type 0} → T → List (ℕ × ℕ) → ActorCachesView K V T
opened_caches tag limits = record { tag = tag; shards = map (λ l. opening l.0 l.1) limits; tickets = []; pins = [] }

module _ {K V T : Type 0} (eq : K → K → Bool) (meaning : Meaning K V T) where
  -- they stand for histories without an entry
  abbrev pub OpenedStand : Type 0
  OpenedStand = (tag : T) (limits : List (ℕ × ℕ)) → StandFor eq meaning (opened_caches tag limits) (λ n. slice_index_or limits n (0, 0)) (λ _. [])

  -- what stands for histories stands, after a step, for those with one entry more, which is the step by its actor
  abbrev pub AskedStand : Type 0
  AskedStand = (s : ActorCachesView K V T) (limits : ℕ → ℕ × ℕ) (histories : ℕ → History (Step K V)) → StandFor eq meaning s limits histories
      → (h : Holding K) → h.shard < length s.shards → StandFor eq meaning (asked eq h s) limits (ask_in_shard histories h (answer_in eq h s))

  abbrev pub FilledStand : Type 0
  FilledStand = (s : ActorCachesView K V T) (limits : ℕ → ℕ × ℕ) (histories : ℕ → History (Step K V)) → StandFor eq meaning s limits histories
      → (place : ℕ) (h : Holding K) → slice_get s.tickets place ≡ Some h
      → StandFor eq meaning (filled eq meaning place h s) limits (entry_in_shard histories h.shard (h.actor, Fill h.key (entry_cost meaning h.key (meaning.made s.tag h.key)) (meaning.made s.tag h.key)))

  abbrev pub FailedStand : Type 0
  FailedStand = (s : ActorCachesView K V T) (limits : ℕ → ℕ × ℕ) (histories : ℕ → History (Step K V)) → StandFor eq meaning s limits histories
      → (place : ℕ) (h : Holding K) → slice_get s.tickets place ≡ Some h → StandFor eq meaning (failed eq place h s) limits (entry_in_shard histories h.shard (h.actor, Fail h.key))

  abbrev pub UnpinnedStand : Type 0
  UnpinnedStand = (s : ActorCachesView K V T) (limits : ℕ → ℕ × ℕ) (histories : ℕ → History (Step K V)) → StandFor eq meaning s limits histories
      → (place : ℕ) (h : Holding K) → slice_get s.pins place ≡ Some h → StandFor eq meaning (unpinned_at eq place h s) limits (entry_in_shard histories h.shard (h.actor, Unpin h.key))

  abbrev pub LimitedStand : Type 0
  LimitedStand = (s : ActorCachesView K V T) (limits : ℕ → ℕ × ℕ) (histories : ℕ → History (Step K V)) → StandFor eq meaning s limits histories
      → (n entries budget : ℕ) → n < length s.shards → 1 ≤ entries → entries ≤ max_entries → budget ≤ max_budget
      → StandFor eq meaning (with_limits eq n entries budget s) limits (entry_in_shard histories n (0, Limits entries budget))

  -- a key that is being made has one ticket, and no other key has any
  abbrev pub TicketsAreOfMaking : Type 0
  TicketsAreOfMaking = (s : ActorCachesView K V T) → HaveHistories eq meaning s
      → (shard : ℕ) (key : K) → count_all eq shard key s.tickets ≡ one_if (is_some (maker_in (status_of eq (shard_in s shard) key)))

  -- it is the maker's
  abbrev pub MakersHaveTickets : Type 0
  MakersHaveTickets = (s : ActorCachesView K V T) → HaveHistories eq meaning s
      → (actor shard : ℕ) (key : K) → (maker_in (status_of eq (shard_in s shard) key) ≡ Some actor) ↔ (count_held eq actor shard key s.tickets ≡ 1)

  -- the pins of a key are those that actors have. A key that is absent or being made has none
  abbrev pub PinsAreActors : Type 0
  PinsAreActors = (s : ActorCachesView K V T) → HaveHistories eq meaning s
      → (shard : ℕ) (key : K) → count_all eq shard key s.pins ≡ pins_in (status_of eq (shard_in s shard) key)

  -- in each shard the unpinned cost is at most the budget
  abbrev pub EachInBudget : Type 0
  EachInBudget = (s : ActorCachesView K V T) → HaveHistories eq meaning s → (n : ℕ) → unpinned (shard_in s n).entries ≤ (shard_in s n).budget

  -- a shard that is longer than its limit has no entry that may be evicted
  abbrev pub EachInLimit : Type 0
  EachInLimit = (s : ActorCachesView K V T) → HaveHistories eq meaning s
      → (n : ℕ) → (shard_in s n).limit < length (shard_in s n).entries → has_idle (shard_in s n).entries ≡ false

  -- a value that is ready is its key's
  abbrev pub ReadyValuesAreMade : Type 0
  ReadyValuesAreMade = (s : ActorCachesView K V T) → HaveHistories eq meaning s
      → (n : ℕ) (key : K) (value : V) → ready_value (status_of eq (shard_in s n) key) ≡ Some value → value ≡ meaning.made s.tag key

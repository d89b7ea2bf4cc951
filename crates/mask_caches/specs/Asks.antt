-- Public: how many keys were asked for in a cache.
use Rattle.std.specs.Prelude.{ℕ, ◌+◌, ◌≤◌, min, List, length, map, sum_by}
use Rattle.turn_cell.specs.History.{History}
use Rattle.evict_core.specs.Machine.{Step, Ask, PinAll, Fill, Fail, Spill, Unpin, Limits, Hard, last_count}
use Rattle.evict_core.specs.declared.counts.Totals.{Totals}
use Rattle.flight_cache.specs.Meaning.{Meaning}
use Rattle.flight_cache.specs.Histories.{step_of}
use Rattle.flight_cache.specs.Calls.{own_steps}
use Rattle.flight_cache.specs.Shards.{Shards, CacheView, CachePassView, both}
use Rattle.flight_cache.specs.declared.kept.Entry.{Entry}
use Rattle.flight_cache.specs.declared.kept.Opening.{Opening}

module _ {K V : Type 0} where
  -- how many keys a step asks for
  abbrev pub asks_in : Step K V → ℕ
  asks_in (Ask key answer) = 1
  asks_in (PinAll keys) = length keys
  asks_in (Fill key cost value) = 0
  asks_in (Fail key) = 0
  asks_in (Spill key cost) = 0
  asks_in (Unpin key) = 0
  asks_in (Limits entries budget) = 0
  asks_in (Hard hard) = 0

  -- how many these steps ask for together
  abbrev pub asks_of : List (Step K V) → ℕ
  asks_of steps = sum_by asks_in steps

abbrev pub sum_of_four : Shards ℕ → ℕ
sum_of_four four = four.first + four.second + four.third + four.fourth

module _ {K V T : Type 0} (meaning : Meaning K V T) where
  -- the steps of all numbers
  abbrev pub all_steps : Opening T → History (Entry K) → List (Step K V)
  all_steps opening history = map (λ (e : ℕ × Entry K). step_of meaning opening e.1) history

  -- how many keys the pass itself has asked for
  abbrev pub own_asks : CacheView T → CachePassView K T → ℕ
  own_asks cache pass = sum_of_four (both (λ shard own. asks_of (own_steps meaning shard.tag own)) cache.shards pass)

  -- how many were asked for in all that the pass has seen
  abbrev pub seen_asks : CacheView T → CachePassView K T → ℕ
  seen_asks cache pass = sum_of_four (both (λ shard own. asks_of (all_steps shard.tag own.seen)) cache.shards pass)

-- The hits, the claims and what was crowded are together at least so many asks. A count stands at its last value once it reaches it.
abbrev pub HasAsks : ℕ → Totals → Type 0
HasAsks asks totals = min asks last_count ≤ totals.counts.hits + totals.counts.claims + totals.counts.crowded

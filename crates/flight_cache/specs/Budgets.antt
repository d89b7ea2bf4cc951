-- Public: what the shards of a cache may keep.
use Rattle.std.specs.Prelude.{ℕ, Bool, nat_le}
use Rattle.flight_cache.specs.Histories.{left_by}
use Rattle.flight_cache.specs.Meaning.{Meaning, entry_cost, shard_of}
use Rattle.flight_cache.specs.Shards.{CacheView, CachePassView, Shards, at, both}

-- the budget of each shard, in the state that what the pass has seen of it leaves
abbrev pub shown_budgets : {K V T : Type 0} → (K → K → Bool) → Meaning K V T → CacheView T → CachePassView K T → Shards ℕ
shown_budgets eq meaning cache pass = both (λ shard own. (left_by eq meaning shard.tag own.seen).budget) cache.shards pass

-- The entry may be kept while no pin holds it: alone it costs no more than its shard's budget. One that costs more is evicted with its last pin
abbrev pub may_be_kept : {K V T : Type 0} → Meaning K V T → Shards ℕ → K → V → Bool
may_be_kept meaning budgets key value = nat_le (entry_cost meaning key value) (at budgets (shard_of (meaning.numbers key)))

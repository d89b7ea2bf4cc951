-- Public: how many entries a cache may have.
use Rattle.std.specs.Prelude.{ℕ, ◌/◌, min, max}
use Rattle.evict_core.specs.Machine.{max_entries}
use Rattle.flight_cache.specs.Shards.{min_cache_entries}

-- how much budget an entry stands for
abbrev pub budget_of_entry : ℕ
budget_of_entry = 1024

-- the limit of entries that goes with a budget
abbrev pub entry_limit : ℕ → ℕ
entry_limit budget = min max_entries (max min_cache_entries (budget / budget_of_entry))

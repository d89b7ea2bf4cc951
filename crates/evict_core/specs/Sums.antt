-- Inner: the running sums of a list of entries.
use Rattle.std.specs.Prelude.{◌≡◌, true, false, ℕ, ◌+◌, ◌-◌, ◌≤◌, if◌then◌else◌, List, length, Option, Some, None}
use Rattle.evict_core.specs.Machine.{Status, Flying, Ready, max_entries, max_cost, is_idle, idle_cost, unpinned, pinned}
use Rattle.evict_core.specs.Recency.{total}

module _ {V : Type 0} where
  abbrev pub idle_one : Status V → ℕ
  idle_one st = if is_idle st then 1 else 0

  -- what it costs above the most
  abbrev pub excess : Status V → ℕ
  excess (Flying number) = 0
  excess (Ready pins cost value) = cost - max_cost

  -- what a look-up gives may be evicted, and costs so much
  abbrev pub IsIdleAt : Option (Status V) → ℕ → Type 0
  IsIdleAt None cost = ⊥
  IsIdleAt (Some st) cost = (is_idle st ≡ true) × (cost ≡ idle_cost st)

  abbrev pub IsBusyAt : Option (Status V) → Type 0
  IsBusyAt None = Unit {0}
  IsBusyAt (Some st) = is_idle st ≡ false

-- the most that the entries cost together, one beyond the largest limit among them
abbrev pub max_sum : ℕ
max_sum = 281479271677952

-- the sums of the entries, none of which costs more than the most
pub record AreSums {K V : Type 0} (es : List (K × Status V)) (idle_sum held_sum idle_count : ℕ) : Type 0 where
  pub unpinned_is : idle_sum ≡ unpinned es
  pub pinned_is : held_sum ≡ pinned es
  pub idle_is : idle_count ≡ total idle_one es
  pub cheap : total excess es ≡ 0
  pub few : length es ≤ max_entries + 1

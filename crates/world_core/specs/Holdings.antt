-- Public: tickets and pins. Each is a key of a shard that an actor holds; a list of them has the oldest first.
use Rattle.std.specs.Prelude.{ℕ, suc, ◌-◌, ◌==◌, Bool, ◌&&◌, if◌then◌else◌, List, [], ◌∷◌, sum_by, Option, Some, None, option_map}
use Rattle.evict_core.specs.History.{one_if}
use Rattle.world_core.specs.declared.holding.Holding.{Holding}

-- where the actor's i-th stands in the list, counted from 0
abbrev pub holding_place : {K : Type 0} → ℕ → ℕ → List (Holding K) → Option ℕ
holding_place actor i [] = None
holding_place actor i (h ∷ hs) = if (h.actor == actor) && (i == 0) then Some 0 else option_map suc (holding_place actor (i - one_if (h.actor == actor)) hs)

module _ {K : Type 0} (eq : K → K → Bool) where
  -- it is of the shard's key
  abbrev pub is_of_key : ℕ → K → Holding K → Bool
  is_of_key shard key h = (h.shard == shard) && eq key h.key

  -- it is the actor's, and of the shard's key
  abbrev pub is_held_by : ℕ → ℕ → K → Holding K → Bool
  is_held_by actor shard key h = (h.actor == actor) && is_of_key shard key h

  -- how many of the shard's key the actor holds
  abbrev pub count_held : ℕ → ℕ → K → List (Holding K) → ℕ
  count_held actor shard key hs = sum_by (λ h. one_if (is_held_by actor shard key h)) hs

  -- how many all hold
  abbrev pub count_all : ℕ → K → List (Holding K) → ℕ
  count_all shard key hs = sum_by (λ h. one_if (is_of_key shard key h)) hs

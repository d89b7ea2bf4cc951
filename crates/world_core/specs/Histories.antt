-- Public: the histories of the shards, as the steps make them.
use Rattle.std.specs.Prelude.{ℕ, ◌+◌, List, [], ◌∷◌, ◌++◌, Option, Some, None, slice_get, slice_index_or}
use Rattle.turn_cell.specs.History.{History}
use Rattle.evict_core.specs.Machine as machine
use Rattle.flight_cache.specs.Meaning.{Meaning, entry_cost}
use Rattle.flight_cache.specs.Shards.{part}
use Rattle.cache_kinds.specs.Limits.{entry_limit}
use Rattle.world_core.specs.Caches.{answer_in}
use Rattle.world_core.specs.CacheHistories.{ask_in_shard, entry_in_shard}
use Rattle.world_core.specs.Holdings.{holding_place}
use Rattle.world_core.specs.declared.holding.Holding.{Holding}
use Rattle.world_core.specs.Keys.{equal_world_keys, first_shard}
use Rattle.world_core.specs.States.{WorldState}
use Rattle.world_core.specs.Steps.{after_step, held_key}
use Rattle.world_core.specs.declared.world_keys.WorldKey.{WorldKey}
use Rattle.world_core.specs.declared.world_keys.WorldKey.TheVariants as key
use Rattle.world_core.specs.declared.world_keys.WorldValue.{WorldValue}
use Rattle.world_core.specs.declared.steps.Step.{Step}
use Rattle.world_core.specs.declared.steps.Step.TheVariants.{Feed, Flush, Look, AskOutline, AskMask, AskComposite, Fill, Fail, Unpin, Limits, Show}

-- the history of one shard, and one of each
abbrev pub ShardHistory : Type 0
ShardHistory = History (machine.Step WorldKey WorldValue)

abbrev pub ShardHistories : Type 0
ShardHistories = ℕ → ShardHistory

-- with the step of who has this ticket or pin
abbrev pub with_own_step : (Holding WorldKey → machine.Step WorldKey WorldValue) → Option (Holding WorldKey) → ShardHistories → ShardHistories
with_own_step make None histories = histories
with_own_step make (Some h) histories = entry_in_shard histories h.shard (h.actor, make h)

abbrev pub with_step_at : (Holding WorldKey → machine.Step WorldKey WorldValue) → List (Holding WorldKey) → Option ℕ → ShardHistories → ShardHistories
with_step_at make hs None histories = histories
with_step_at make hs (Some place) histories = with_own_step make (slice_get hs place) histories

module _ {T : Type 0} (meaning : Meaning WorldKey WorldValue T) where
  -- with an actor's ask
  abbrev pub with_ask : WorldState T → ℕ → WorldKey → ShardHistories → ShardHistories
  with_ask s actor k histories = ask_in_shard histories (held_key actor k) (answer_in equal_world_keys (held_key actor k) s.caches)

  -- the fill of a ticket's key
  abbrev pub fill_of : WorldState T → Holding WorldKey → machine.Step WorldKey WorldValue
  fill_of s h = let value = meaning.made s.caches.tag h.key in machine.Fill h.key (entry_cost meaning h.key value) value

  -- with what a step made in that state is in the shards' histories
  abbrev pub with_step_of : WorldState T → Step → ShardHistories → ShardHistories
  with_step_of s (Feed actor chunk) histories = histories
  with_step_of s (Flush actor) histories = histories
  with_step_of s (Look actor instant size) histories = histories
  with_step_of s (AskOutline actor k) histories = with_ask s actor (key.Outline k) histories
  with_step_of s (AskMask actor k) histories = with_ask s actor (key.Mask k) histories
  with_step_of s (AskComposite actor k) histories = with_ask s actor (key.Composite k) histories
  with_step_of s (Fill actor i) histories = with_step_at (fill_of s) s.caches.tickets (holding_place actor i s.caches.tickets) histories
  with_step_of s (Fail actor i) histories = with_step_at (λ h. machine.Fail h.key) s.caches.tickets (holding_place actor i s.caches.tickets) histories
  with_step_of s (Unpin actor i) histories = with_step_at (λ h. machine.Unpin h.key) s.caches.pins (holding_place actor i s.caches.pins) histories
  with_step_of s (Limits kind shard entries budget) histories = entry_in_shard histories (first_shard kind + shard) (0, machine.Limits entries budget)
  with_step_of s (Show actor) histories = histories

  -- the same for steps, each in the state that the steps before it made
  abbrev pub with_steps_of : WorldState T → List Step → ShardHistories → ShardHistories
  with_steps_of s [] histories = histories
  with_steps_of s (step ∷ steps) histories = with_steps_of (after_step meaning s step) steps (with_step_of s step histories)

-- the limits of the shards of a new world: of each kind four, each with its part
abbrev pub kind_limits : ℕ → List (ℕ × ℕ)
kind_limits budget = (part (entry_limit budget) 0, part budget 0) ∷ (part (entry_limit budget) 1, part budget 1) ∷ (part (entry_limit budget) 2, part budget 2) ∷ (part (entry_limit budget) 3, part budget 3) ∷ []

abbrev pub opening_limits : ℕ → ℕ → ℕ × ℕ
opening_limits budget n = slice_index_or (kind_limits budget ++ (kind_limits budget ++ kind_limits budget)) n (0, 0)

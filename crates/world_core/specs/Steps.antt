-- Public: what each step makes of the world.
use Rattle.std.specs.Prelude.{ℕ, ◌+◌, List, Option, Some, None, Result, Ok, Err, fold, slice_get}
use Rattle.ass_events.specs.Events.{event_of}
use Rattle.ass_events.specs.Histories as rule
use Rattle.ass_events.specs.declared.event.Event.{Event}
use Rattle.ass_events.specs.declared.event.ChunkRefusal.{ChunkRefusal}
use Rattle.flight_cache.specs.Meaning.{Meaning}
use Rattle.world_core.specs.Caches.{ActorCachesView, asked, filled, failed, unpinned_at, with_limits}
use Rattle.world_core.specs.Holdings.{holding_place}
use Rattle.world_core.specs.declared.holding.Holding.{Holding}
use Rattle.world_core.specs.Keys.{equal_world_keys, first_shard, world_shard}
use Rattle.world_core.specs.States.{WorldState, with_look}
use Rattle.world_core.specs.declared.world_keys.WorldKey.{WorldKey}
use Rattle.world_core.specs.declared.world_keys.WorldKey.TheVariants as key
use Rattle.world_core.specs.declared.world_keys.WorldValue.{WorldValue}
use Rattle.world_core.specs.declared.steps.Step.{Step}
use Rattle.world_core.specs.declared.steps.Step.TheVariants.{Feed, Flush, Look, AskOutline, AskMask, AskComposite, Fill, Fail, Unpin, Limits, Show}

-- The step takes no memory, in whatever state it is made.
abbrev pub TakesNoMemory : Step → Type 0
TakesNoMemory (Flush actor) = Unit {0}
TakesNoMemory (Fail actor i) = Unit {0}
TakesNoMemory (Unpin actor i) = Unit {0}
TakesNoMemory (Limits kind shard entries budget) = Unit {0}
TakesNoMemory _ = ⊥

-- the history after the event of a chunk was offered; one that gives none is refused
abbrev pub after_chunk : List rule.Entry → Result Event ChunkRefusal → List rule.Entry
after_chunk history (Ok event) = rule.after history event
after_chunk history (Err refusal) = history

-- a key as the actor holds it, in its own shard
abbrev pub held_key : ℕ → WorldKey → Holding WorldKey
held_key actor k = record { actor = actor; shard = world_shard k; key = k }

-- the caches of the world's keys
abbrev pub ActorCachesOf : Type 0 → Type 0
ActorCachesOf T = ActorCachesView WorldKey WorldValue T

module _ {T : Type 0} where
  -- what a step makes of the holding at a place, where there is one
  abbrev pub at_holding : (ℕ → Holding WorldKey → ActorCachesOf T → ActorCachesOf T) → ℕ → Option (Holding WorldKey) → ActorCachesOf T → ActorCachesOf T
  at_holding make place None s = s
  at_holding make place (Some h) s = make place h s

  abbrev pub at_place : List (Holding WorldKey) → (ℕ → Holding WorldKey → ActorCachesOf T → ActorCachesOf T) → Option ℕ → ActorCachesOf T → ActorCachesOf T
  at_place hs make None s = s
  at_place hs make (Some place) s = at_holding make place (slice_get hs place) s

  module _ (meaning : Meaning WorldKey WorldValue T) where
    abbrev pub after_step : WorldState T → Step → WorldState T
    after_step s (Feed actor chunk) = record s { history = after_chunk s.history (event_of chunk.bytes chunk.start chunk.duration) }
    after_step s (Flush actor) = record s { history = rule.flushed s.history }
    after_step s (Look actor instant size) = record s { looks = with_look actor (record { history = s.history; instant = instant; size = size }) s.looks }
    after_step s (AskOutline actor k) = record s { caches = asked equal_world_keys (held_key actor (key.Outline k)) s.caches }
    after_step s (AskMask actor k) = record s { caches = asked equal_world_keys (held_key actor (key.Mask k)) s.caches }
    after_step s (AskComposite actor k) = record s { caches = asked equal_world_keys (held_key actor (key.Composite k)) s.caches }
    after_step s (Fill actor i) = record s { caches = at_place s.caches.tickets (filled equal_world_keys meaning) (holding_place actor i s.caches.tickets) s.caches }
    after_step s (Fail actor i) = record s { caches = at_place s.caches.tickets (failed equal_world_keys) (holding_place actor i s.caches.tickets) s.caches }
    after_step s (Unpin actor i) = record s { caches = at_place s.caches.pins (unpinned_at equal_world_keys) (holding_place actor i s.caches.pins) s.caches }
    after_step s (Limits kind shard entries budget) = record s { caches = with_limits equal_world_keys (first_shard kind + shard) entries budget s.caches }
    after_step s (Show actor) = s

    -- after steps, one after another
    abbrev pub after_steps : WorldState T → List Step → WorldState T
    after_steps s steps = fold after_step s steps

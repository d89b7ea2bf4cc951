-- The history begins with what was seen of it.
use Rattle.std.proofs.Common.{◌≡◌, ℕ, Bool, true, false, cond, List, [], ◌∷◌, ◌++◌, length, Option, Some, None, Result, Ok, Err, refl, sym, subst}
use Rattle.std.specs.Prelude.{◌==◌, ◌||◌, nat_le}
use Rattle.ass_events.specs.Events.{event_of}
use Rattle.ass_events.specs.Histories.{Chunk, Entry, Flush, after, flushed, flushes_of, has_order, live, max_flushes, max_live}
use Rattle.ass_events.specs.declared.event.ChunkRefusal.{ChunkRefusal}
use Rattle.ass_events.specs.declared.event.Event.{Event}
use Rattle.flight_cache.specs.Meaning.{Meaning}
use Rattle.turn_cell.proofs.Histories.{IsPrefix-append, IsPrefix_same, IsPrefix_trans}
use Rattle.turn_cell.specs.History.{IsPrefix}
use Rattle.world_core.specs.declared.world_keys.WorldKey.{WorldKey}
use Rattle.world_core.specs.declared.world_keys.WorldValue.{WorldValue}
use Rattle.world_core.specs.Records.{BeginsWithLooks}
use Rattle.world_core.specs.States.{LookState, WorldState, opening_world}
use Rattle.world_core.specs.Steps.{after_chunk, after_step, after_steps}
use Rattle.world_core.specs.declared.steps.Step.{Step}
use Rattle.world_core.specs.declared.steps.Step.TheVariants as step

kept-or-more : (b : Bool) (history : List Entry) (entry : Entry) → IsPrefix history (cond b history (history ++ entry ∷ []))
kept-or-more true history entry = IsPrefix_same history
kept-or-more false history entry = IsPrefix-append history (entry ∷ [])

after-begins : (history : List Entry) (event : Event) → IsPrefix history (after history event)
after-begins history event = kept-or-more (has_order event.order (live history) || nat_le max_live (length (live history))) history (Chunk event)

flushed-begins : (history : List Entry) → IsPrefix history (flushed history)
flushed-begins history = kept-or-more (nat_le max_flushes (flushes_of history)) history Flush

chunk-begins : (history : List Entry) (chunk : Result Event ChunkRefusal) → IsPrefix history (after_chunk history chunk)
chunk-begins history (Ok event) = after-begins history event
chunk-begins history (Err refusal) = IsPrefix_same history

-- nobody looked yet
no-look : (look : LookState) (history : List Entry) → None ≡ Some look → IsPrefix look.history history
no-look look history is = cc

-- the look that was put saw all of it, and those before saw a front
look-put : (b : Bool) (history : List Entry) (put look : LookState) (before : Option LookState) → put.history ≡ history → (before ≡ Some look → IsPrefix look.history history)
    → cond b (Some put) before ≡ Some look → IsPrefix look.history history
look-put true history put look before all begins is =
    let found : Some put ≡ Some look = is in let same : put ≡ look = cc in
    subst (λ (l : LookState). IsPrefix l.history history) same (subst (λ (xs : List Entry). IsPrefix xs history) (sym all) (IsPrefix_same history))
look-put false history put look before all begins is = begins is

module _ {T : Type 0} (s : WorldState T) (begins : BeginsWithLooks s) where
  -- looks at a history that grew
  looks-later : (history : List Entry) → IsPrefix s.history history → (actor : ℕ) (look : LookState) → s.looks actor ≡ Some look → IsPrefix look.history history
  looks-later history grown actor look is = IsPrefix_trans look.history s.history history (begins actor look is) grown

module _ {T : Type 0} (meaning : Meaning WorldKey WorldValue T) where
  looks-after : (s : WorldState T) (x : Step) → BeginsWithLooks s → BeginsWithLooks (after_step meaning s x)
  looks-after s (step.Feed actor chunk) begins = looks-later s begins (after_chunk s.history (event_of chunk.bytes chunk.start chunk.duration)) (chunk-begins s.history (event_of chunk.bytes chunk.start chunk.duration))
  looks-after s (step.Flush actor) begins = looks-later s begins (flushed s.history) (flushed-begins s.history)
  looks-after s (step.Look actor instant size) begins = λ other look is. look-put (actor == other) s.history (record { history = s.history; instant = instant; size = size }) look (s.looks other) refl (begins other look) is
  looks-after s (step.AskOutline actor k) begins = begins
  looks-after s (step.AskMask actor k) begins = begins
  looks-after s (step.AskComposite actor k) begins = begins
  looks-after s (step.Fill actor i) begins = begins
  looks-after s (step.Fail actor i) begins = begins
  looks-after s (step.Unpin actor i) begins = begins
  looks-after s (step.Limits kind shard entries budget) begins = begins
  looks-after s (step.Show actor) begins = begins

  pub looks-kept : (steps : List Step) (s : WorldState T) → BeginsWithLooks s → BeginsWithLooks (after_steps meaning s steps)
  looks-kept [] s begins = begins
  looks-kept (x ∷ xs) s begins = looks-kept xs (after_step meaning s x) (looks-after s x begins)

pub opening-looks : {T : Type 0} (tag : T) (budget : ℕ) → BeginsWithLooks (opening_world tag budget)
opening-looks tag budget = λ actor look is. no-look look [] is

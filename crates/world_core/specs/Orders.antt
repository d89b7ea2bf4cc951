-- Public: what is shown in a run of steps doesn't tell in which order the chunks came, nor what else came between them.
use Rattle.std.specs.Prelude.{◌≡◌, ◌≢◌, ℕ, ℤ, List, [], ◌∷◌, ◌++◌, length, All, Option, None, Result}
use Rattle.ass_num.specs.declared.size.Size.{Size}
use Rattle.ass_script.specs.Scripts.{ScriptValue}
use Rattle.ass_events.specs.Events.{event_of}
use Rattle.ass_events.specs.Histories.{Entry, live}
use Rattle.ass_events.specs.declared.event.ChunkRefusal.{ChunkRefusal}
use Rattle.ass_events.specs.declared.event.Event.{Event}
use Rattle.bdf_font.specs.Fonts.{FontValue}
use Rattle.picture_plan.specs.Pictures.{HaveSameEvents}
use Rattle.ass_events.specs.ScriptEvents.{event_given}
use Rattle.track_history.specs.Answers.{chunk_entry, extended, flushed_entry}
use Rattle.world_core.specs.Keys.{world_meaning}
use Rattle.world_core.specs.Laws.{AreNewTo}
use Rattle.world_core.specs.Replies.{AreReplies}
use Rattle.world_core.specs.States.{WorldState}
use Rattle.world_core.specs.Steps.{after_steps}
use Rattle.world_core.specs.Tellings.{WorldTag}
use Rattle.world_core.specs.declared.steps.Reply.{Reply}
use Rattle.world_core.specs.declared.steps.Reply.TheVariants as reply
use Rattle.world_core.specs.declared.steps.Step.{Step}
use Rattle.world_core.specs.declared.steps.Step.TheVariants as step

-- ---- what replies tell of the track

-- what the feed of a chunk adds to the history, where it was replied so
abbrev pub fed_chunk_entry : Result Event ChunkRefusal → Reply → Option Entry
fed_chunk_entry chunk (reply.Fed answer) = chunk_entry chunk answer
fed_chunk_entry chunk (reply.Flushed answer) = None
fed_chunk_entry chunk (reply.Looked n) = None
fed_chunk_entry chunk reply.Hit = None
fed_chunk_entry chunk reply.Claim = None
fed_chunk_entry chunk (reply.Flying maker) = None
fed_chunk_entry chunk reply.Crowded = None
fed_chunk_entry chunk reply.Done = None
fed_chunk_entry chunk (reply.Shown n pixels) = None
fed_chunk_entry chunk reply.Idle = None

-- and what a flush adds
abbrev pub done_flush_entry : Reply → Option Entry
done_flush_entry (reply.Flushed answer) = flushed_entry answer
done_flush_entry (reply.Fed answer) = None
done_flush_entry (reply.Looked n) = None
done_flush_entry reply.Hit = None
done_flush_entry reply.Claim = None
done_flush_entry (reply.Flying maker) = None
done_flush_entry reply.Crowded = None
done_flush_entry reply.Done = None
done_flush_entry (reply.Shown n pixels) = None
done_flush_entry reply.Idle = None

abbrev pub told_entry : Step → Reply → Option Entry
told_entry (step.Feed actor chunk) r = fed_chunk_entry (event_of chunk.bytes chunk.start chunk.duration) r
told_entry (step.Flush actor) r = done_flush_entry r
told_entry (step.Look actor instant size) r = None
told_entry (step.AskOutline actor k) r = None
told_entry (step.AskMask actor k) r = None
told_entry (step.AskComposite actor k) r = None
told_entry (step.Fill actor i) r = None
told_entry (step.Fail actor i) r = None
told_entry (step.Unpin actor i) r = None
told_entry (step.Limits kind shard entries budget) r = None
told_entry (step.Show actor) r = None

-- the track's history after steps, as their replies tell it: with the chunks that were accepted and the flushes that were done
abbrev pub history_told : List Entry → List Step → List Reply → List Entry
history_told history [] rs = history
history_told history (x ∷ xs) [] = history
history_told history (x ∷ xs) (r ∷ rs) = history_told (extended history (told_entry x r)) xs rs

-- ---- what the steps are

-- the event of the chunk that a step feeds, where it gives one
abbrev pub step_events : Step → List Event
step_events (step.Feed actor chunk) = event_given (event_of chunk.bytes chunk.start chunk.duration)
step_events (step.Flush actor) = []
step_events (step.Look actor instant size) = []
step_events (step.AskOutline actor k) = []
step_events (step.AskMask actor k) = []
step_events (step.AskComposite actor k) = []
step_events (step.Fill actor i) = []
step_events (step.Fail actor i) = []
step_events (step.Unpin actor i) = []
step_events (step.Limits kind shard entries budget) = []
step_events (step.Show actor) = []

-- the events of the chunks that the steps feed, in their order
abbrev pub events_fed : List Step → List Event
events_fed [] = []
events_fed (x ∷ xs) = step_events x ++ events_fed xs

abbrev pub IsNoFlush : Step → Type 0
IsNoFlush (step.Feed actor chunk) = Unit {0}
IsNoFlush (step.Flush actor) = ⊥
IsNoFlush (step.Look actor instant size) = Unit {0}
IsNoFlush (step.AskOutline actor k) = Unit {0}
IsNoFlush (step.AskMask actor k) = Unit {0}
IsNoFlush (step.AskComposite actor k) = Unit {0}
IsNoFlush (step.Fill actor i) = Unit {0}
IsNoFlush (step.Fail actor i) = Unit {0}
IsNoFlush (step.Unpin actor i) = Unit {0}
IsNoFlush (step.Limits kind shard entries budget) = Unit {0}
IsNoFlush (step.Show actor) = Unit {0}

-- it is no look of this actor
abbrev pub IsNoLookOf : ℕ → Step → Type 0
IsNoLookOf actor (step.Look other instant size) = other ≢ actor
IsNoLookOf actor (step.Feed other chunk) = Unit {0}
IsNoLookOf actor (step.Flush other) = Unit {0}
IsNoLookOf actor (step.AskOutline other k) = Unit {0}
IsNoLookOf actor (step.AskMask other k) = Unit {0}
IsNoLookOf actor (step.AskComposite other k) = Unit {0}
IsNoLookOf actor (step.Fill other i) = Unit {0}
IsNoLookOf actor (step.Fail other i) = Unit {0}
IsNoLookOf actor (step.Unpin other i) = Unit {0}
IsNoLookOf actor (step.Limits kind shard entries budget) = Unit {0}
IsNoLookOf actor (step.Show other) = Unit {0}

-- ---- what is shown

module _ (script : ScriptValue) (fonts : List FontValue) where
  -- In a run of these steps, with these replies, an actor looks at an instant and later shows these pixels, with no look of its own between
  pub record ShowsLook (s : WorldState WorldTag) (steps : List Step) (replies : List Reply) : Type 0 where
    pub answered : AreReplies script fonts world_meaning s steps replies
    pub actor : ℕ
    pub instant : ℤ
    pub size : Size
    pub before : List Step
    pub between : List Step
    pub later : List Step
    pub steps_are : steps ≡ before ++ step.Look actor instant size ∷ (between ++ step.Show actor ∷ later)
    pub last : All (IsNoLookOf actor) between
    pub told : List Reply
    pub looked : Reply
    pub meanwhile : List Reply
    pub n : ℕ
    pub pixels : List ℕ
    pub rest : List Reply
    pub replies_are : replies ≡ told ++ looked ∷ (meanwhile ++ reply.Shown n pixels ∷ rest)
    pub told_before : length told ≡ length before
    pub told_between : length meanwhile ≡ length between

  -- Where the replies before the two looks tell of the same live events, the same pixels are shown at the same instant and size:
  -- in whatever order the chunks came, whoever fed, looked and shows, whatever was asked, filled, given back and shown between, and whatever the caches keep
  abbrev pub RunsShowTheSame : Type 0
  RunsShowTheSame =
      (s t : WorldState WorldTag) (steps others : List Step) (replies answers : List Reply) (a : ShowsLook s steps replies) (b : ShowsLook t others answers)
      → HaveSameEvents (live (history_told s.history a.before a.told)) (live (history_told t.history b.before b.told)) → a.instant ≡ b.instant → a.size ≡ b.size
      → a.pixels ≡ b.pixels

  -- So it is where the same events are fed in two orders, without a flush, to worlds where the same are live and to which these are new: they have ReadOrders of their own and room
  abbrev pub OrdersShowTheSame : Type 0
  OrdersShowTheSame =
      (s t : WorldState WorldTag) (steps others : List Step) (replies answers : List Reply) (a : ShowsLook s steps replies) (b : ShowsLook t others answers)
      → HaveSameEvents (live s.history) (live t.history) → HaveSameEvents (events_fed a.before) (events_fed b.before)
      → All IsNoFlush a.before → All IsNoFlush b.before → AreNewTo s.history (events_fed a.before) → AreNewTo t.history (events_fed b.before)
      → a.instant ≡ b.instant → a.size ≡ b.size
      → a.pixels ≡ b.pixels

-- the history after steps is the one that their replies tell
abbrev pub RepliesTellHistory : ScriptValue → List FontValue → Type 0
RepliesTellHistory script fonts = (s : WorldState WorldTag) (steps : List Step) (replies : List Reply) → AreReplies script fonts world_meaning s steps replies
    → (after_steps world_meaning s steps).history ≡ history_told s.history steps replies

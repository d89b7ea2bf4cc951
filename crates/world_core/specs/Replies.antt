-- Public: what each step is answered.
use Rattle.std.specs.Prelude.{◌≡◌, ◌≤◌, ◌≢◌, ℕ, List, [], ◌∷◌, length, All, Option, Some, None, Result, Ok, Err}
use Rattle.ass_script.specs.Scripts.{ScriptValue}
use Rattle.ass_events.specs.Events.{event_of}
use Rattle.ass_events.specs.Histories as rule
use Rattle.ass_events.specs.declared.event.Event.{Event}
use Rattle.ass_events.specs.declared.event.ChunkRefusal.{ChunkRefusal}
use Rattle.bdf_font.specs.Fonts.{FontValue}
use Rattle.evict_core.specs.Asked.{ready_value}
use Rattle.evict_core.specs.Machine.{status_of}
use Rattle.flight_cache.specs.Meaning.{Meaning}
use Rattle.mask_keys.specs.declared.composite_key.CompositeKey.{CompositeKey}
use Rattle.mask_keys.specs.declared.plans.Clip.{Clip}
use Rattle.mask_keys.specs.declared.plans.Clip.TheVariants as clip
use Rattle.mask_keys.specs.declared.plans.Draw.{Draw}
use Rattle.mask_keys.specs.Pictures.{picture}
use Rattle.mask_keys.specs.Values.{composite_value}
use Rattle.frame_view.specs.FrameViews.{plain_frame}
use Rattle.picture_plan.specs.Pictures.{AreDraws}
use Rattle.track_history.specs.Answers.{feed_answer, flush_answer, refused_answer}
use Rattle.track_history.specs.declared.answers.Feed.{Feed}
use Rattle.track_history.specs.declared.answers.Feed.TheVariants.{OutOfMemory}
use Rattle.world_core.specs.Answers.{IsActorAnswer}
use Rattle.world_core.specs.Caches.{ActorCachesView, shard_in}
use Rattle.world_core.specs.Holdings.{holding_place, count_held}
use Rattle.world_core.specs.declared.answer.ActorAnswer.{ActorAnswer}
use Rattle.world_core.specs.declared.answer.ActorAnswer.TheVariants as answer
use Rattle.world_core.specs.Keys.{world_shard, equal_world_keys}
use Rattle.world_core.specs.States.{LookState, WorldState}
use Rattle.world_core.specs.Steps.{after_step, held_key}
use Rattle.world_core.specs.declared.world_keys.WorldKey.{WorldKey}
use Rattle.world_core.specs.declared.world_keys.WorldKey.TheVariants as key
use Rattle.world_core.specs.declared.world_keys.WorldValue.{WorldValue}
use Rattle.world_core.specs.declared.world_keys.WorldValue.TheVariants as value
use Rattle.world_core.specs.declared.steps.Reply.{Reply}
use Rattle.world_core.specs.declared.steps.Reply.TheVariants.{Fed, Flushed, Looked, Hit, Claim, Flying, Crowded, Done, Shown, Idle}
use Rattle.world_core.specs.declared.steps.Step.{Step}
use Rattle.world_core.specs.declared.steps.Step.TheVariants as step

-- the answer to the event of a chunk
abbrev pub chunk_answer : List rule.Entry → Result Event ChunkRefusal → Feed
chunk_answer history (Ok event) = feed_answer history event
chunk_answer history (Err refusal) = refused_answer refusal

-- it is the reply to the event of a chunk, and never out of memory
pub record IsFedReply (history : List rule.Entry) (event : Result Event ChunkRefusal) (reply : Reply) : Type 0 where
  pub is : reply ≡ Fed (chunk_answer history event)
  pub had : chunk_answer history event ≢ OutOfMemory

-- the step named something that is there, or not
abbrev pub done_where : Option ℕ → Reply
done_where None = Idle
done_where (Some place) = Done

-- the reply of what the caches answered
abbrev pub reply_of : ActorAnswer → Reply
reply_of answer.Hit = Hit
reply_of answer.Claim = Claim
reply_of (answer.Flying maker) = Flying maker
reply_of answer.Crowded = Crowded

module _ {T : Type 0} (caches : ActorCachesView WorldKey WorldValue T) (actor : ℕ) where
  -- the reply to an ask: the machine's answer, or who makes the key
  pub record IsAskReply (k : WorldKey) (reply : Reply) : Type 0 where
    pub answered : ActorAnswer
    pub is_answer : IsActorAnswer equal_world_keys (held_key actor k) caches answered
    pub is : reply ≡ reply_of answered

  -- the actor has a pin of the composed mask
  abbrev pub HoldsMask : CompositeKey → Type 0
  HoldsMask k = 1 ≤ count_held equal_world_keys actor (world_shard (key.Composite k)) (key.Composite k) caches.pins

  -- and of the drawn clip's, where there is one
  abbrev pub HoldsClip : Clip → Type 0
  HoldsClip clip.Free = Unit {0}
  HoldsClip (clip.Rect x1 y1 x2 y2 inverse) = Unit {0}
  HoldsClip (clip.Drawn k x y inverse) = HoldsMask k

  pub record HoldsDraw (draw : Draw) : Type 0 where
    pub mask : HoldsMask draw.key
    pub clip : HoldsClip draw.clip

  -- all composed masks of the draws
  abbrev pub HoldsAll : List Draw → Type 0
  HoldsAll draws = All HoldsDraw draws

module _ {T : Type 0} (fonts : List FontValue) (caches : ActorCachesView WorldKey WorldValue T) where
  -- the caches have the composed mask of the key
  abbrev pub KeepsMask : CompositeKey → Type 0
  KeepsMask k = ready_value (status_of equal_world_keys (shard_in caches (world_shard (key.Composite k))) (key.Composite k)) ≡ Some (value.Mask (composite_value fonts k))

  abbrev pub KeepsClip : Clip → Type 0
  KeepsClip clip.Free = Unit {0}
  KeepsClip (clip.Rect x1 y1 x2 y2 inverse) = Unit {0}
  KeepsClip (clip.Drawn k x y inverse) = KeepsMask k

  pub record KeepsDraw (draw : Draw) : Type 0 where
    pub mask : KeepsMask draw.key
    pub clip : KeepsClip draw.clip

module _ (script : ScriptValue) (fonts : List FontValue) where
  module _ {T : Type 0} (caches : ActorCachesView WorldKey WorldValue T) (actor : ℕ) (look : LookState) where
    -- The actor holds all masks of the look's draws; the caches have them; and the bytes are the pixels of the picture without caches
    pub record IsPictureShown (seen : ℕ) (bytes : List ℕ) : Type 0 where
      pub draws : List Draw
      pub are_draws : AreDraws script fonts (rule.live look.history) look.instant (plain_frame look.size) draws
      pub held : HoldsAll caches actor draws
      pub kept : All (KeepsDraw fonts caches) draws
      pub seen_is : seen ≡ length look.history
      pub bytes_are : bytes ≡ (picture fonts look.size draws).bytes

    -- a mask of the look's draws isn't held
    pub record IsMaskLacking : Type 0 where
      pub draws : List Draw
      pub are_draws : AreDraws script fonts (rule.live look.history) look.instant (plain_frame look.size) draws
      pub lacks : HoldsAll caches actor draws → ⊥

    abbrev pub IsLookReply : Reply → Type 0
    IsLookReply (Shown seen pixels) = IsPictureShown seen pixels
    IsLookReply Idle = IsMaskLacking
    IsLookReply (Fed answer) = ⊥
    IsLookReply (Flushed answer) = ⊥
    IsLookReply (Looked n) = ⊥
    IsLookReply Hit = ⊥
    IsLookReply Claim = ⊥
    IsLookReply (Flying maker) = ⊥
    IsLookReply Crowded = ⊥
    IsLookReply Done = ⊥

  module _ {T : Type 0} where
    abbrev pub IsShowReply : ActorCachesView WorldKey WorldValue T → ℕ → Option LookState → Reply → Type 0
    IsShowReply caches actor None reply = reply ≡ Idle
    IsShowReply caches actor (Some look) reply = IsLookReply caches actor look reply

    abbrev pub IsReply : WorldState T → Step → Reply → Type 0
    IsReply s (step.Feed actor chunk) reply = IsFedReply s.history (event_of chunk.bytes chunk.start chunk.duration) reply
    IsReply s (step.Flush actor) reply = reply ≡ Flushed (flush_answer s.history)
    IsReply s (step.Look actor instant size) reply = reply ≡ Looked (length s.history)
    IsReply s (step.AskOutline actor k) reply = IsAskReply s.caches actor (key.Outline k) reply
    IsReply s (step.AskMask actor k) reply = IsAskReply s.caches actor (key.Mask k) reply
    IsReply s (step.AskComposite actor k) reply = IsAskReply s.caches actor (key.Composite k) reply
    IsReply s (step.Fill actor i) reply = reply ≡ done_where (holding_place actor i s.caches.tickets)
    IsReply s (step.Fail actor i) reply = reply ≡ done_where (holding_place actor i s.caches.tickets)
    IsReply s (step.Unpin actor i) reply = reply ≡ done_where (holding_place actor i s.caches.pins)
    IsReply s (step.Limits kind shard entries budget) reply = reply ≡ Done
    IsReply s (step.Show actor) reply = IsShowReply s.caches actor (s.looks actor) reply

    -- the replies to steps, each in the state that the steps before it made
    abbrev pub AreReplies : Meaning WorldKey WorldValue T → WorldState T → List Step → List Reply → Type 0
    AreReplies meaning s [] [] = Unit {0}
    AreReplies meaning s [] (r ∷ rs) = ⊥
    AreReplies meaning s (x ∷ xs) [] = ⊥
    AreReplies meaning s (x ∷ xs) (r ∷ rs) = IsReply s x r × AreReplies meaning (after_step meaning s x) xs rs

-- What a feed is answered, and what it makes of the history; and what is near an instant.
use Rattle.std.proofs.Common.{◌≡◌, ◌≢◌, ◌≤◌, ℕ, ℤ, List, length, Result, Ok, Err, refl, sym, ap, ◌∙◌, subst}
use Rattle.std.specs.List.{All}
use Rattle.std.specs.Result.{IfOk}
use Rattle.ass_events.specs.Histories.{Entry, HaveOwnOrders, after, flushed, live, max_live}
use Rattle.ass_events.specs.NearEvents.{AreNear, span_of}
use Rattle.ass_events.specs.declared.event.ChunkRefusal.{ChunkRefusal}
use Rattle.ass_events.specs.declared.event.ChunkRefusal.TheVariants as refusal
use Rattle.ass_events.specs.declared.event.Event.{Event}
use Rattle.ass_script.specs.Scripts.{ScriptValue}
use Rattle.ass_script.specs.declared.script.EventField.{EventField}
use Rattle.bdf_font.specs.Fonts.{FontValue}
use Rattle.mask_keys.specs.declared.plans.Plan.{Plan}
use Rattle.frame_view.specs.declared.view.FrameView.{FrameView}
use Rattle.picture_plan.proofs.DrawLaws.{draws_of_near_events}
use Rattle.picture_plan.specs.Pictures.{AreDraws}
use Rattle.track_history.proofs.Histories.{fed_after, flushed_after}
use Rattle.track_history.proofs.LawLemmas.{near_few, near_orders, near_short}
use Rattle.track_history.specs.Answers.{IsFeedAnswer, extended, fed_entry, flush_answer, flushed_entry}
use Rattle.track_history.specs.ShortEvents.{IsShortEvent}
use Rattle.track_history.specs.Tellings.{Tells, events_of}
use Rattle.track_history.specs.declared.answers.Feed.{Feed}
use Rattle.track_history.specs.declared.answers.Feed.TheVariants.{Malformed, OutOfMemory}
use Rattle.track_history.specs.declared.answers.Flushed.{Flushed}
use Rattle.track_history.specs.declared.live_events.LiveEvents.{LiveEvents}
use Rattle.world_core.specs.Replies.{IsFedReply}
use Rattle.world_core.specs.Steps.{after_chunk}
use Rattle.world_core.specs.declared.steps.Reply.{Reply}
use Rattle.world_core.specs.declared.steps.Reply.TheVariants.{Fed}

module _ (history : List Entry) (event : Event) (answer : Feed) (answered : IsFeedAnswer history event answer) (had : answer ≢ OutOfMemory) where
  pub fed-reply : IsFedReply history (Ok event) (Fed answer)
  fed-reply = record { is = ap Fed (answered had); had = λ none. had (answered had ∙ none) }

  pub fed-tells : (new : LiveEvents) → Tells new (extended history (fed_entry event answer)) → Tells new (after history event)
  fed-tells new tells = subst (Tells new) (ap (λ (a : Feed). extended history (fed_entry event a)) (answered had) ∙ fed_after history event) tells

module _ (history : List Entry) (chunk : Result Event ChunkRefusal) where
  pub malformed-reply : (field : EventField) (place : ℕ) → chunk ≡ Err (refusal.Malformed field place) → IsFedReply history chunk (Fed (Malformed field place))
  malformed-reply field place is = rw is (record { is = refl; had = λ (none : Malformed field place ≡ OutOfMemory). cc })

  pub refused-tells : (track : LiveEvents) (r : ChunkRefusal) → chunk ≡ Err r → Tells track history → Tells track (after_chunk history chunk)
  refused-tells track r is tells = rw is tells

  pub event-reply : {E : Type 0} (event : Event) (result : Result Reply E) → chunk ≡ Ok event → IfOk result (λ r. IsFedReply history (Ok event) r) → IfOk result (λ r. IsFedReply history chunk r)
  event-reply {E} event result is replies = subst (λ (z : Result Event ChunkRefusal). IfOk result (λ r. IsFedReply history z r)) (sym is) replies

  pub event-tells : {E : Type 0} (event : Event) (result : Result Reply E) (track : LiveEvents) → chunk ≡ Ok event → IfOk result (λ _. Tells track (after history event)) → IfOk result (λ _. Tells track (after_chunk history chunk))
  event-tells {E} event result track is tells = subst (λ (z : Result Event ChunkRefusal). IfOk result (λ _. Tells track (after_chunk history z))) (sym is) tells

pub flush-tells : (history : List Entry) (answer : Flushed) (new : LiveEvents) → answer ≡ flush_answer history → Tells new (extended history (flushed_entry answer)) → Tells new (flushed history)
flush-tells history answer new is tells = subst (Tells new) (ap (λ (a : Flushed). extended history (flushed_entry a)) is ∙ flushed_after history) tells

-- ---- what is near

module _ (track : LiveEvents) (history : List Entry) (tells : Tells track history) (t : ℤ) (near : List Event) (are : AreNear span_of (events_of track) t near) where
  near-live : AreNear span_of (live history) t near
  near-live = subst (λ (es : List Event). AreNear span_of es t near) tells.events are

  pub near-short : All IsShortEvent near
  near-short = near_short history near t tells.short near-live

  pub near-orders : HaveOwnOrders near
  near-orders = near_orders history near t tells.legal near-live

  pub near-few : length near ≤ max_live
  near-few = near_few history near t tells.legal near-live

  -- it draws what is live
  pub near-plan : {E : Type 0} (script : ScriptValue) (fonts : List FontValue) (frame : FrameView) (planned : Result Plan E) → IfOk planned (λ plan. AreDraws script fonts near t frame plan.draws)
      → IfOk planned (λ plan. AreDraws script fonts (live history) t frame plan.draws)
  near-plan script fonts frame (Ok plan) drawn = (draws_of_near_events script fonts (live history) near t frame plan.draws near-live).0 drawn
  near-plan script fonts frame (Err refused) drawn = tt

-- The order in which chunks came isn't seen in what a run shows.
use Rattle.std.proofs.Common.{◌≡◌, ℕ, Bool, cond, List, [], ◌∷◌, ◌++◌, Option, Some, Result, Ok, Err, refl, sym, ap, ◌∙◌, subst}
use Rattle.std.specs.List.{All}
use Rattle.std.proofs.lemmas.Bool.{eq-eqb, ne_eqb}
use Rattle.std.proofs.lemmas.List.Elements.{All-head, All-tail}
use Rattle.ass_events.specs.Events.{event_of}
use Rattle.ass_events.specs.Histories.{Entry, flushed, live}
use Rattle.ass_events.specs.declared.event.ChunkRefusal.{ChunkRefusal}
use Rattle.ass_events.specs.declared.event.Event.{Event}
use Rattle.ass_script.specs.Ranges.{IsScript}
use Rattle.ass_script.specs.Scripts.{ScriptValue}
use Rattle.bdf_font.specs.Fonts.{FontValue}
use Rattle.picture_plan.specs.Pictures.{HaveSameEvents}
use Rattle.ass_events.specs.ScriptEvents.{event_given}
use Rattle.track_history.proofs.Histories.{fed_after, flushed_after}
use Rattle.track_history.specs.Answers.{extended}
use Rattle.world_core.specs.Keys.{world_meaning}
use Rattle.world_core.specs.Laws.{after_all}
use Rattle.world_core.specs.Orders.{IsNoFlush, IsNoLookOf, OrdersShowTheSame, RepliesTellHistory, RunsShowTheSame, ShowsLook, done_flush_entry, events_fed, fed_chunk_entry, history_told, step_events, told_entry}
use Rattle.world_core.specs.Replies.{AreReplies, IsFedReply, IsPictureShown, IsReply, IsShowReply}
use Rattle.world_core.specs.States.{LookState, WorldState}
use Rattle.world_core.specs.Steps.{after_chunk, after_step, after_steps}
use Rattle.world_core.specs.Tellings.{WorldTag}
use Rattle.world_core.specs.declared.steps.Reply.{Reply}
use Rattle.world_core.specs.declared.steps.Reply.TheVariants.{Shown}
use Rattle.world_core.specs.declared.steps.Step.{Step}
use Rattle.world_core.specs.declared.steps.Step.TheVariants as step
use Rattle.world_core.proofs.Arrivals.{live-in-any-order}
use Rattle.world_core.proofs.Replying.{replies-apart}
use Rattle.world_core.proofs.Seeing.{show-the-same}

-- ---- the history that is told

chunk-told : (history : List Entry) (chunk : Result Event ChunkRefusal) (r : Reply) → IsFedReply history chunk r → after_chunk history chunk ≡ extended history (fed_chunk_entry chunk r)
chunk-told history (Ok event) r replied = subst (λ (z : Reply). after_chunk history (Ok event) ≡ extended history (fed_chunk_entry (Ok event) z)) (sym replied.is) (sym (fed_after history event))
chunk-told history (Err refusal) r replied = subst (λ (z : Reply). after_chunk history (Err refusal) ≡ extended history (fed_chunk_entry (Err refusal) z)) (sym replied.is) refl

module _ (script : ScriptValue) (fonts : List FontValue) where
  step-told : (s : WorldState WorldTag) (x : Step) (r : Reply) → IsReply script fonts s x r → (after_step world_meaning s x).history ≡ extended s.history (told_entry x r)
  step-told s (step.Feed actor chunk) r is = chunk-told s.history (event_of chunk.bytes chunk.start chunk.duration) r is
  step-told s (step.Flush actor) r is = subst (λ (z : Reply). flushed s.history ≡ extended s.history (done_flush_entry z)) (sym is) (sym (flushed_after s.history))
  step-told s (step.Look actor instant size) r is = refl
  step-told s (step.AskOutline actor k) r is = refl
  step-told s (step.AskMask actor k) r is = refl
  step-told s (step.AskComposite actor k) r is = refl
  step-told s (step.Fill actor i) r is = refl
  step-told s (step.Fail actor i) r is = refl
  step-told s (step.Unpin actor i) r is = refl
  step-told s (step.Limits kind shard entries budget) r is = refl
  step-told s (step.Show actor) r is = refl

  told-by : (xs : List Step) (s : WorldState WorldTag) (rs : List Reply) → AreReplies script fonts world_meaning s xs rs → (after_steps world_meaning s xs).history ≡ history_told s.history xs rs
  told-by [] s rs are = refl
  told-by (x ∷ xs) s [] are = absurd are
  told-by (x ∷ xs) s (r ∷ rs) are = told-by xs (after_step world_meaning s x) rs are.1 ∙ ap (λ (h : List Entry). history_told h xs rs) (step-told s x r are.0)

  pub replies-tell-history : RepliesTellHistory script fonts
  replies-tell-history s xs rs are = told-by xs s rs are

-- ---- the events that are fed

fed-one : (history : List Entry) (chunk : Result Event ChunkRefusal) (rest : List Event) → after_all (after_chunk history chunk) rest ≡ after_all history (event_given chunk ++ rest)
fed-one history (Ok event) rest = refl
fed-one history (Err refusal) rest = refl

fed-step : (s : WorldState WorldTag) (x : Step) (rest : List Event) → IsNoFlush x → after_all (after_step world_meaning s x).history rest ≡ after_all s.history (step_events x ++ rest)
fed-step s (step.Feed actor chunk) rest unflushed = fed-one s.history (event_of chunk.bytes chunk.start chunk.duration) rest
fed-step s (step.Flush actor) rest unflushed = absurd unflushed
fed-step s (step.Look actor instant size) rest unflushed = refl
fed-step s (step.AskOutline actor k) rest unflushed = refl
fed-step s (step.AskMask actor k) rest unflushed = refl
fed-step s (step.AskComposite actor k) rest unflushed = refl
fed-step s (step.Fill actor i) rest unflushed = refl
fed-step s (step.Fail actor i) rest unflushed = refl
fed-step s (step.Unpin actor i) rest unflushed = refl
fed-step s (step.Limits kind shard entries budget) rest unflushed = refl
fed-step s (step.Show actor) rest unflushed = refl

fed-all : (xs : List Step) (s : WorldState WorldTag) → All IsNoFlush xs → (after_steps world_meaning s xs).history ≡ after_all s.history (events_fed xs)
fed-all [] s none = refl
fed-all (x ∷ xs) s none = fed-all xs (after_step world_meaning s x) (All-tail IsNoFlush x xs none) ∙ fed-step s x (events_fed xs) (All-head IsNoFlush x xs none)

-- ---- the look that is shown

look-stays-one : (s : WorldState WorldTag) (actor : ℕ) (x : Step) → IsNoLookOf actor x → (after_step world_meaning s x).looks actor ≡ s.looks actor
look-stays-one s actor (step.Look other instant size) unlooked = ap (λ (b : Bool). cond b (Some (record { history = s.history; instant = instant; size = size })) (s.looks actor)) (ne_eqb other actor unlooked)
look-stays-one s actor (step.Feed other chunk) unlooked = refl
look-stays-one s actor (step.Flush other) unlooked = refl
look-stays-one s actor (step.AskOutline other k) unlooked = refl
look-stays-one s actor (step.AskMask other k) unlooked = refl
look-stays-one s actor (step.AskComposite other k) unlooked = refl
look-stays-one s actor (step.Fill other i) unlooked = refl
look-stays-one s actor (step.Fail other i) unlooked = refl
look-stays-one s actor (step.Unpin other i) unlooked = refl
look-stays-one s actor (step.Limits kind shard entries budget) unlooked = refl
look-stays-one s actor (step.Show other) unlooked = refl

look-stays : (xs : List Step) (s : WorldState WorldTag) (actor : ℕ) → All (IsNoLookOf actor) xs → (after_steps world_meaning s xs).looks actor ≡ s.looks actor
look-stays [] s actor unlooked = refl
look-stays (x ∷ xs) s actor unlooked =
    look-stays xs (after_step world_meaning s x) actor (All-tail (IsNoLookOf actor) x xs unlooked) ∙ look-stays-one s actor x (All-head (IsNoLookOf actor) x xs unlooked)

module _ (script : ScriptValue) (fonts : List FontValue) (s : WorldState WorldTag) (steps : List Step) (replies : List Reply) (a : ShowsLook script fonts s steps replies) where
  -- the states before the look, after it, and when it is shown
  abbrev looking : WorldState WorldTag
  looking = after_steps world_meaning s a.before

  abbrev looked : WorldState WorldTag
  looked = after_step world_meaning looking (step.Look a.actor a.instant a.size)

  abbrev showing : WorldState WorldTag
  showing = after_steps world_meaning looked a.between

  abbrev look_shown : LookState
  look_shown = record { history = looking.history; instant = a.instant; size = a.size }

  look-parts : AreReplies script fonts world_meaning s a.before a.told × AreReplies script fonts world_meaning looking (step.Look a.actor a.instant a.size ∷ (a.between ++ step.Show a.actor ∷ a.later)) (a.looked ∷ (a.meanwhile ++ Shown a.n a.pixels ∷ a.rest))
  look-parts =
      let xs = a.before ++ step.Look a.actor a.instant a.size ∷ (a.between ++ step.Show a.actor ∷ a.later) in
      replies-apart script fonts a.before (step.Look a.actor a.instant a.size ∷ (a.between ++ step.Show a.actor ∷ a.later)) s a.told (a.looked ∷ (a.meanwhile ++ Shown a.n a.pixels ∷ a.rest)) a.told_before
      (subst (λ (rs : List Reply). AreReplies script fonts world_meaning s xs rs) a.replies_are (subst (λ (ys : List Step). AreReplies script fonts world_meaning s ys replies) a.steps_are a.answered))

  looking-told : looking.history ≡ history_told s.history a.before a.told
  looking-told = told-by script fonts a.before s a.told look-parts.0

  last-look : showing.looks a.actor ≡ Some look_shown
  last-look = look-stays a.between looked a.actor a.last ∙ ap (λ (b : Bool). cond b (Some look_shown) (looking.looks a.actor)) (eq-eqb a.actor a.actor refl)

  shows-it : IsPictureShown script fonts showing.caches a.actor look_shown a.n a.pixels
  shows-it =
      let parts = replies-apart script fonts a.between (step.Show a.actor ∷ a.later) looked a.meanwhile (Shown a.n a.pixels ∷ a.rest) a.told_between look-parts.1.1 in
      subst (λ (o : Option LookState). IsShowReply script fonts showing.caches a.actor o (Shown a.n a.pixels)) last-look parts.1.0

module _ (script : ScriptValue) (fonts : List FontValue) (sound : IsScript script) (s t : WorldState WorldTag) (steps others : List Step) (replies answers : List Reply)
    (a : ShowsLook script fonts s steps replies) (b : ShowsLook script fonts t others answers) where
  show-alike : HaveSameEvents (live (after_steps world_meaning s a.before).history) (live (after_steps world_meaning t b.before).history) → a.instant ≡ b.instant → a.size ≡ b.size → a.pixels ≡ b.pixels
  show-alike same instant size =
      show-the-same script fonts sound (showing script fonts s steps replies a).caches (showing script fonts t others answers b).caches a.actor b.actor (look_shown script fonts s steps replies a) (look_shown script fonts t others answers b) a.n b.n
      a.pixels b.pixels (record { events = same; instant = instant; size = size }) (shows-it script fonts s steps replies a) (shows-it script fonts t others answers b)

  -- where the histories before the looks are these
  alike-by : (history other : List Entry) → (after_steps world_meaning s a.before).history ≡ history → (after_steps world_meaning t b.before).history ≡ other → HaveSameEvents (live history) (live other)
      → a.instant ≡ b.instant → a.size ≡ b.size → a.pixels ≡ b.pixels
  alike-by history other one two same =
      show-alike
      (subst (λ (h : List Entry). HaveSameEvents (live h) (live (after_steps world_meaning t b.before).history)) (sym one) (subst (λ (h : List Entry). HaveSameEvents (live history) (live h)) (sym two) same))

pub runs-show-the-same : (script : ScriptValue) (fonts : List FontValue) → IsScript script → RunsShowTheSame script fonts
runs-show-the-same script fonts sound s t steps others replies answers a b same instant size =
    alike-by script fonts sound s t steps others replies answers a b (history_told s.history a.before a.told) (history_told t.history b.before b.told)
    (looking-told script fonts s steps replies a) (looking-told script fonts t others answers b) same instant size

pub orders-show-the-same : (script : ScriptValue) (fonts : List FontValue) → IsScript script → OrdersShowTheSame script fonts
orders-show-the-same script fonts sound s t steps others replies answers a b lives fed first second new news instant size =
    alike-by script fonts sound s t steps others replies answers a b (after_all s.history (events_fed a.before)) (after_all t.history (events_fed b.before)) (fed-all a.before s first) (fed-all b.before t second)
    (live-in-any-order s.history t.history (events_fed a.before) (events_fed b.before) lives fed new news) instant size

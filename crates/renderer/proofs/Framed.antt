-- What a call that renders a frame gives.
use Rattle.std.proofs.Common.{◌≡◌, ◌≤◌, ℤ, List, length, map, None, Result, Ok, Err, inr, refl, sym, subst, arith}
use Rattle.std.specs.Arc.{arc_value}
use Rattle.std.specs.Result.{IfOk, OnErr}
use Rattle.std.proofs.lemmas.List.{length-map}
use Rattle.ass_events.specs.Histories.{Entry, HaveOwnOrders, IsHistory, live, max_live}
use Rattle.ass_events.specs.declared.event.Event.{Event}
use Rattle.ass_num.specs.declared.size.Size.{Size}
use Rattle.ass_script.specs.Scripts.{ScriptValue}
use Rattle.bdf_font.specs.Fonts.{FontValue}
use Rattle.mask_keys.specs.declared.plans.Draw.{Draw}
use Rattle.mask_keys.specs.declared.plans.Plan.{Plan}
use Rattle.mask_caches.specs.declared.passes.CachesPass.{CachesPass}
use Rattle.frame_view.specs.FrameViews.{plain_frame}
use Rattle.picture_plan.specs.Pictures.{AreDraws}
use Rattle.picture_plan.proofs.DrawLaws.{draws_of_near_events}
use Rattle.track_history.specs.Answers.{IsSceneOf}
use Rattle.track_history.specs.Calls.{IsTurn, TrackView, history_of}
use Rattle.track_history.specs.declared.scene.Scene.{Scene}
use Rattle.track_history.proofs.LawLemmas.{near_few, near_orders}
use Rattle.mask_keys.specs.Pictures.{image_of_draw}
use Rattle.renderer.specs.ShownFrames.{FrameImage, image_shown, leases_of}
use Rattle.renderer.specs.declared.frames.Frame.{Frame}
use Rattle.renderer.specs.Frames.{IsFrameOf, frame_with}
use Rattle.renderer.specs.Holding.{HoldsFrameMore, HoldsJustTheFrame, IsHomeFrame}
use Rattle.mask_keys.specs.PlanKeys.{plan_keys}
use Rattle.renderer.specs.Leasing.{IsLent, IsUnlent}
use Rattle.renderer.specs.OneHistory.{ShowsOneHistory}
use Rattle.renderer.specs.Passes.{IsPassOfRenderer, RenderView, RendererView}
use Rattle.renderer.specs.Rendering.{AreDrawsLent, AreImagesLent, IsRendered, IsRenderedFrame}
use Rattle.renderer.proofs.Pictures.{frame-history}
use Rattle.renderer.proofs.Together.{pass_of, turn-of}

-- ---- a scene

module _ (history : List Entry) (t : ℤ) (scene : Scene) (h : IsSceneOf history t scene) where
  pub scene-few : IsHistory history → length scene.events ≤ max_live
  scene-few legal =
      let few = near_few history (map arc_value scene.events) t legal h.events in
      omega (arith, few, length-map scene.events arc_value)

  pub scene-orders : IsHistory history → HaveOwnOrders (map arc_value scene.events)
  scene-orders legal = near_orders history (map arc_value scene.events) t legal h.events

  -- what is near draws what is live
  pub scene-plan : {E : Type 0} (script : ScriptValue) (fonts : List FontValue) (size : Size) (planned : Result Plan E) → IfOk planned (λ plan. AreDraws script fonts (map arc_value scene.events) t (plain_frame size) plan.draws)
      → IfOk planned (λ plan. AreDraws script fonts (live history) t (plain_frame size) plan.draws)
  scene-plan script fonts size (Ok plan) are = (draws_of_near_events script fonts (live history) (map arc_value scene.events) t (plain_frame size) plan.draws h.events).0 are
  scene-plan script fonts size (Err refused) are = tt

-- the same scene, at the instant that it has
pub scene-itself : (history : List Entry) (t : ℤ) (scene : Scene) → IsSceneOf history t scene → IsSceneOf history scene.t scene
scene-itself history t scene h = subst (λ (s : ℤ). IsSceneOf history s scene) (sym h.instant) h

-- ---- images

-- what is had of the draws of events, or what a out of memory leaves
pub lent-images : {E : Type 0} (renderer : RendererView) (old new : CachesPass) (events : List Event) (t : ℤ) (size : Size) (draws : List Draw) (had : Result (List FrameImage) E) (fonts : List FontValue)
    → AreDraws renderer.script renderer.fonts events t (plain_frame size) draws → fonts ≡ renderer.fonts
    → IfOk had (λ images. IsLent renderer.caches old new (plan_keys draws) (leases_of images)) → OnErr had (IsUnlent renderer.caches old new (plan_keys draws))
    → IfOk had (λ images. map image_shown images ≡ map (image_of_draw fonts) draws) → AreImagesLent renderer old new events t size had
lent-images renderer old new events t size draws (Ok images) fonts are same lent unlent shown = record {
  draws = draws;
  are_draws = are;
  shown = subst (λ (f : List FontValue). map image_shown images ≡ map (image_of_draw f) draws) same shown;
  lent = lent;
}
lent-images renderer old new events t size draws (Err refused) fonts are same lent unlent shown = record {
  of = unlent.of;
  holds = unlent.holds;
  unleased = inr (draws, are, unlent.unleased);
}

-- ---- frames

-- what a call that renders this frame makes of a pass
pub record IsFramed (renderer : RendererView) (pass after : RenderView) (t : ℤ) (size : Size) (frame : Frame) : Type 0 where
  pub of : IsPassOfRenderer renderer after
  pub history : ShowsOneHistory renderer pass after t size frame
  pub rendered : IsRenderedFrame renderer pass after t size frame
  pub holds : HoldsFrameMore renderer pass after frame

pub framed : (renderer : RendererView) (track later : TrackView) (old new : CachesPass) (t : ℤ) (size : Size) (scene : Scene) (images : List FrameImage) → IsPassOfRenderer renderer (pass_of track old) → IsTurn track later None
    → IsSceneOf (history_of later.seen) t scene → AreDrawsLent renderer old new (live (history_of later.seen)) t size images
    → IsFramed renderer (pass_of track old) (pass_of later new) t size (record { n = scene.n; t = t; size = size; images = images })
framed renderer track later old new t size scene images of turn shown lent =
    let frame : Frame = record { n = scene.n; t = t; size = size; images = images } in
    let is : IsFrameOf renderer.script renderer.fonts (history_of later.seen) t size frame =
    record { n = shown.n; instant = refl; size_is = refl; draws = lent.draws; are_draws = lent.are_draws; images = lent.shown } in
    record {
      of = record { track = turn-of renderer track later None of.track turn; caches = lent.lent.of };
      history = frame-history renderer (pass_of track old) (pass_of later new) t size frame turn is;
      rendered = record { turn = turn; is_frame = is; leased = lent.lent.leased };
      holds = lent.lent.holds;
    }

-- what a call for a frame makes of a pass, where it gives this and Came says how it came to it
pub record IsFrameGiven {E : Type 0} (renderer : RendererView) (pass after : RenderView) (t : ℤ) (size : Size) (Came : Result Frame E → Type 0) (given : Result Frame E) : Type 0 where
  pub of : IsPassOfRenderer renderer after
  pub history : IfOk given (ShowsOneHistory renderer pass after t size)
  pub came : Came given
  pub holds : HoldsJustTheFrame renderer pass after given
  pub home : IfOk given (IsHomeFrame renderer)

-- by what was had of the images
pub frame-given : {E : Type 0} (renderer : RendererView) (track later : TrackView) (old new : CachesPass) (t : ℤ) (size : Size) (scene : Scene) (images : Result (List FrameImage) E) → IsPassOfRenderer renderer (pass_of track old) → IsTurn track later None
    → IsSceneOf (history_of later.seen) t scene → AreImagesLent renderer old new (live (history_of later.seen)) t size images
    → IsFrameGiven renderer (pass_of track old) (pass_of later new) t size (IsRendered renderer (pass_of track old) (pass_of later new) t size) (frame_with scene size images)
frame-given renderer track later old new t size scene (Ok images) of turn shown lent =
    let f = subst (λ (s : ℤ). IsFramed renderer (pass_of track old) (pass_of later new) t size (record { n = scene.n; t = s; size = size; images = images })) (sym shown.instant)
    (framed renderer track later old new t size scene images of turn shown lent) in
    record { of = f.of; history = f.history; came = f.rendered; holds = f.holds; home = lent.lent.homes }
frame-given renderer track later old new t size scene (Err refused) of turn shown unlent = record {
  of = record { track = turn-of renderer track later None of.track turn; caches = unlent.of };
  history = tt;
  came = record { turn = turn; unleased = unlent.unleased };
  holds = unlent.holds;
  home = tt;
}
